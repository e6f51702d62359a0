-- The first step that isn't the same, where one side has come to its end.
use Rattle.std.proofs.Common.{◌≡◌, ◌≢◌, ◌⊎◌, inl, inr, ℕ, ◌≤◌, ◌+◌, List, [], ◌∷◌, length, drop, Some, refl, sym, arith}
use Rattle.std.proofs.lemmas.List.{length-drop}
use Rattle.hep_diff.specs.FirstDifferences.{first_from}
use Rattle.hep_diff.specs.declared.process_step.ProcessStep.{ProcessStep}

-- where one side is empty and the other one isn't, the first step differs
cut : (k : ℕ) (xs ys : List ProcessStep) → (length xs ≡ 0) ⊎ (length ys ≡ 0) → length xs ≢ length ys → first_from k xs ys ≡ Some k
cut k [] [] one other = absurd (other refl)
cut k [] (y ∷ ys) one other = refl
cut k (x ∷ xs) [] one other = refl
cut k (x ∷ xs) (y ∷ ys) (inl e) other = absurd (omega (arith, e))
cut k (x ∷ xs) (y ∷ ys) (inr e) other = absurd (omega (arith, e))

-- one side has no step at this index, and the sides have not so many
pub first-is : (k : ℕ) (xs ys : List ProcessStep) → k ≤ length xs → k ≤ length ys → (length xs ≤ k) ⊎ (length ys ≤ k)
    → length xs ≢ length ys
    → Some k ≡ first_from k (drop k xs) (drop k ys)
first-is k xs ys within within_other past unlike = sym (cut k (drop k xs) (drop k ys) (over past) apart)
  where
    left : length (drop k xs) + k ≡ length xs
    left = omega (arith, length-drop k xs, within)

    right : length (drop k ys) + k ≡ length ys
    right = omega (arith, length-drop k ys, within_other)

    over : (length xs ≤ k) ⊎ (length ys ≤ k) → (length (drop k xs) ≡ 0) ⊎ (length (drop k ys) ≡ 0)
    over (inl h) = inl (omega (arith, left, h))
    over (inr h) = inr (omega (arith, right, h))

    apart : length (drop k xs) ≢ length (drop k ys)
    apart e = unlike (omega (arith, left, right, e))
