-- The greatest of numbers is at least each of them.
use Rattle.std.proofs.Common.{◌≡◌, ◌<◌, ◌≤◌, ℕ, zero, suc, max, List, length, Some, ap, subst, sym, arith, inl, inr, slice_get}
use Rattle.std.proofs.lemmas.Bool.{cases_lt}
use Rattle.std.proofs.lemmas.Option.{slice_get_within}
use Rattle.hep_code.specs.declared.instruction.Instruction.{Instruction}
use Rattle.hep_code.specs.declared.instruction.Instruction.TheVariants.{Step}
use Rattle.hep_code.specs.declared.instruction.Operation.TheVariants.{Purge}
use Rattle.hep_step.specs.TargetCount.{most_of, most_targets, targets_in}

pub within-most : (number : ℕ → ℕ) (n k : ℕ) → k < n → number k ≤ most_of number n
within-most number zero k lt = absurd (omega (arith, lt))
within-most number (suc n) k lt = elim (cases_lt k n) [
  | inl less ↦ let before = within-most number n k less in omega (arith, before)
  | inr last ↦ let is : n ≡ k = omega (arith, lt, last) in subst (λ j. number j ≤ most_of number (suc n)) is (let le : number n ≤ max (most_of number n) (number n) = omega arith in le)
]

pub targets-within : (code : List Instruction) (index line count next : ℕ) → slice_get code index ≡ Some (Step line (Purge count next)) → count ≤ most_targets code
targets-within code index line count next is =
    subst (λ n. n ≤ most_targets code) (ap targets_in is) (within-most (λ i. targets_in (slice_get code i)) (length code) index (slice_get_within code index (Step line (Purge count next)) is))
