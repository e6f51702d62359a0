-- Digits that are read as an integer constant, as those of a label.
use Rattle.std.proofs.Common.{◌≡◌, inl, inr, ℕ, zero, suc, ◌+◌, ◌-◌, ◌*◌, ◌<◌, ◌≤◌, true, false, List, [], ◌∷◌, length, Some, None, refl, sym, ap, ◌∙◌, arith, length-append, to_z, of_z, w64, ◌^◌, IsTrue, ℤ, pos, min, nat_le, Result, Ok, Err, FitsSigned, unsigned_abs}
use Rattle.std.specs.Result.{OkIff, is_ok, result_ok}
use Rattle.std.specs.Int.{FitsUnsignedBits}
use Rattle.std.specs.List.{list_all}
use Rattle.std.proofs.lemmas.Int.{to_z-of_z, fits_signed_from_abs}
use Rattle.std.proofs.lemmas.Bool.Decides.{nat_tests}
use Rattle.hep_expression.specs.declared.characters.Sizes.TheVariants.{Any}
use Rattle.hep_expression.specs.declared.characters.Context.{Context}
use Rattle.hep_expression.specs.Characters.{is_digit, number_of_digits, number_after, greatest}
use Rattle.hep_expression.specs.Reading.{begins, front, rest_after, integer_at}
use Rattle.hep_expression.proofs.Leaves.{chosen, front_splits}
use Rattle.hep_expression.specs.ReadingLabel.{few_digits_at}
use Rattle.std.proofs.lemmas.Option.{same_Some, none-some}
use Rattle.std.proofs.lemmas.Bool.{and_parts, leb-true, le-leb}

above : (b a : ℕ) → b < a → nat_le a b ≡ false
above b a lt = grind (arith, nat_tests)

-- ---- how large the number of some digits is

abbrev with_nines : ℕ → ℕ → ℕ
with_nines b zero = b
with_nines b (suc n) = with_nines (b * 10 + 9) n

nines_grow : (b n : ℕ) → b ≤ with_nines b n
nines_grow b zero = omega arith
nines_grow b (suc n) = omega (arith, nines_grow (b * 10 + 9) n)

few_are_small : (n v b : ℕ) (d : List ℕ) → v ≤ b → length d ≤ n → IsTrue (list_all is_digit d) → number_after v d ≤ with_nines b n
few_are_small n v b [] le few h = omega (arith, nines_grow b n)
few_are_small zero v b (c ∷ d) le few h = absurd (omega (arith, few))
few_are_small (suc n) v b (c ∷ d) le few h =
    let parts = and_parts (is_digit c) (list_all is_digit d) h in
    let upper : c ≤ 57 = leb-true c 57 (and_parts (nat_le 48 c) (nat_le c 57) parts.0).1 in
    few_are_small n (v * 10 + (c - 48)) (b * 10 + 9) d (omega arith) (omega (arith, few)) parts.1

-- ---- what is read

-- a context that reads integer constants of any size
abbrev pub any_size : List ℕ → Context
any_size s = record { sizes = Any; length = length s }

module _ (s : List ℕ) (v : ℤ) (r : List ℕ) (e : integer_at (any_size s) s ≡ Some (v, r)) where
  abbrev row : List ℕ
  row = front is_digit s

  read_is : (begins is_digit s ≡ true) × (v ≡ pos (min (number_of_digits row) greatest)) × (rest_after is_digit s ≡ r)
  read_is = elim (chosen (begins is_digit s) (Some (pos (min (number_of_digits row) greatest), rest_after is_digit s)) None (Some (v, r)) e) [
    | inl h ↦ (
        let same = same_Some (pos (min (number_of_digits row) greatest), rest_after is_digit s) (v, r) h.1 in
        (h.0, sym (ap (λ (x : ℤ × List ℕ). x.0) same), ap (λ (x : ℤ × List ℕ). x.1) same))
    | inr h ↦ absurd (none-some (v, r) h.1)
  ]

  row_is : length s ≡ length row + length r
  row_is =
      let split = ap length (front_splits is_digit s).1 ∙ length-append row (rest_after is_digit s) in
      split ∙ ap (λ (m : List ℕ). length row + length m) read_is.2

  pub shorter : length r ≤ length s
  shorter = omega (arith, row_is)

  pub many : 5 < length s - length r → None ≡ few_digits_at s
  many lt =
      let long : nat_le (length row) 5 ≡ false = above 5 (length row) (omega (arith, row_is)) in
      rw (read_is.0, long) refl

  pub small : length s - length r ≤ 5 → (n : ℕ) × (v ≡ pos n) × (n ≤ 99999) × (Some (n, r) ≡ few_digits_at s)
  small le =
      let few : length row ≤ 5 = omega (arith, row_is) in
      let bound : number_of_digits row ≤ 99999 = few_are_small 5 0 0 row (omega arith) few (front_splits is_digit s).0 in
      let same : min (number_of_digits row) greatest ≡ number_of_digits row = omega arith in
      (number_of_digits row, read_is.1 ∙ ap pos same, bound, rw (read_is.0, le-leb (length row) 5 few, read_is.2) refl)

-- ---- the number as a label

as_read : (v : ℤ) (n : ℕ) → v ≡ pos n → n ≤ 99999 → to_z w64 (of_z w64 v) ≡ pos n
as_read v n e le =
    let small : n < 2 ^ 63 = omega arith in
    let fits : FitsSigned w64 (pos n) = fits_signed_from_abs w64 (pos n) small in
    rw e (to_z-of_z w64 (pos n) fits)

module _ {E : Type 0} (v : ℤ) (n : ℕ) (e : v ≡ pos n) (le : n ≤ 99999) where
  pub no_refusal : (r : Result ℕ E) → OkIff r (FitsUnsignedBits 32 (to_z w64 (of_z w64 v))) (unsigned_abs (to_z w64 (of_z w64 v))) → false ≡ is_ok r → ⊥
  no_refusal (Ok x) h f = cc
  no_refusal (Err x) h f = h (rw (as_read v n e le) (omega arith))

  pub number_is : (r : Result ℕ E) (m : ℕ) → OkIff r (FitsUnsignedBits 32 (to_z w64 (of_z w64 v))) (unsigned_abs (to_z w64 (of_z w64 v))) → Some m ≡ result_ok r → m ≡ n
  number_is (Ok x) m h f = let same : unsigned_abs (to_z w64 (of_z w64 v)) ≡ n = ap unsigned_abs (as_read v n e le) in cc
  number_is (Err x) m h f = absurd cc
