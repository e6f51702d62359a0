-- Where a search by numbers that rise finds a process.
use Rattle.std.proofs.Common.{◌≡◌, ◌≢◌, ℕ, zero, suc, ◌+◌, ◌<◌, ◌≤◌, false, List, [], ◌∷◌, length, get_or, Some, Result, Ok, Err, IfNone, IfSome, refl, sym, ap, ◌∙◌, inl, inr, arith, slice_get}
use Rattle.std.specs.List.Sorted.{IsBinarySearchResult, IsNonDecreasingBy, IsSearchInRange}
use Rattle.std.specs.Option.{option_map}
use Rattle.std.specs.Ordering.{nat_cmp, ordering_index}
use Rattle.std.specs.Result.{result_ok}
use Rattle.std.proofs.lemmas.Bool.{cases_lt, ne_eqb}
use Rattle.std.proofs.lemmas.Bool.Decides.{nat_tests}
use Rattle.std.proofs.lemmas.Cmp.{ranked}
use Rattle.std.proofs.lemmas.Option.{get_or_from_slice_get, slice_get-get_or, slice_get-map, slice_get_within}
use Rattle.hep_machine.specs.Words.{is_number_among}
use Rattle.hep_proc.specs.declared.process.Process.{Process}
use Rattle.hep_blocked.specs.Numbers.{AreRising}
use Rattle.hep_state.specs.Words.{IsPlaceOf, numbers_of}

-- ---- a process at a place

pub process-there : (qs : List Process) (i : ℕ) → i < length qs → (q : Process) × (slice_get qs i ≡ Some q)
process-there [] i h = absurd (omega (arith, h))
process-there (x ∷ xs) zero h = (x, refl)
process-there (x ∷ xs) (suc i) h = process-there xs i (omega (arith, h))

-- it has the number that was looked for
pub place-is : (qs : List Process) (p i : ℕ) (q : Process) → slice_get qs i ≡ Some q → q.number ≡ p → IsPlaceOf qs p i
place-is qs p i q there is =
    record {
      inside = slice_get_within qs i q there;
      number = slice_get-map (λ (z : Process). z.number) qs i ∙ (ap (option_map (λ (z : Process). z.number)) there ∙ ap (λ n. Some n) is);
    }

pub place-read : (qs : List Process) (p i : ℕ) (q : Process) → i < length qs → q ≡ get_or qs i q → q.number ≡ p → IsPlaceOf qs p i
place-read qs p i q inside is own = place-is qs p i q (slice_get-get_or qs i q inside ∙ ap (λ z. Some z) (sym is)) own

-- none has it
pub among-none : (qs : List Process) (p : ℕ) → ((i : ℕ) (q : Process) → slice_get qs i ≡ Some q → q.number ≢ p) → is_number_among p (numbers_of qs) ≡ false
among-none [] p other = refl
among-none (x ∷ xs) p other = rw (ne_eqb p x.number (λ e. other 0 x refl (sym e))) (among-none xs p (λ i q e. other (suc i) q e))

-- ---- numbers that rise

from-at : (least greatest : ℕ) (qs : List Process) (i : ℕ) (d : Process) → AreRising least greatest (numbers_of qs) → i < length qs → least ≤ (get_or qs i d).number
from-at least greatest [] i d rise h = absurd (omega (arith, h))
from-at least greatest (x ∷ xs) zero d rise h = rise.0
from-at least greatest (x ∷ xs) (suc i) d rise h = omega (arith, rise.0, from-at (x.number + 1) greatest xs i d rise.2 (omega (arith, h)))

rise-at : (least greatest : ℕ) (qs : List Process) (i j : ℕ) (d : Process) → AreRising least greatest (numbers_of qs) → i ≤ j → j < length qs → (get_or qs i d).number ≤ (get_or qs j d).number
rise-at least greatest [] i j d rise le h = absurd (omega (arith, h))
rise-at least greatest (x ∷ xs) zero zero d rise le h = omega arith
rise-at least greatest (x ∷ xs) zero (suc j) d rise le h = omega (arith, from-at (x.number + 1) greatest xs j d rise.2 (omega (arith, h)))
rise-at least greatest (x ∷ xs) (suc i) zero d rise le h = absurd (omega (arith, le))
rise-at least greatest (x ∷ xs) (suc i) (suc j) d rise le h = rise-at (x.number + 1) greatest xs i j d rise.2 (omega (arith, le)) (omega (arith, h))

index-rises : (a b p : ℕ) → a ≤ b → ordering_index (nat_cmp a p) ≤ ordering_index (nat_cmp b p)
index-rises a b p le = grind (arith, nat_tests, le)

-- ---- what a search by them answers

module _ (qs : List Process) (greatest p : ℕ) (rise : AreRising 1 greatest (numbers_of qs)) where
  comparisons-rise : IsNonDecreasingBy (λ (q : Process). ordering_index (nat_cmp q.number p)) qs
  comparisons-rise i j d le inside = index-rises (get_or qs i d).number (get_or qs j d).number p (rise-at 1 greatest qs i j d rise le inside)

  pub searched-found : (r : Result ℕ ℕ) → IsSearchInRange r (length qs) → IsBinarySearchResult (λ (q : Process). nat_cmp q.number p) qs r → IfSome (result_ok r) (IsPlaceOf qs p)
  searched-found (Ok i) inside equal =
      let here = process-there qs i inside in
      let q = here.0 in
      let same : get_or qs i q ≡ q = get_or_from_slice_get qs i q q here.1 in
      place-is qs p i q here.1 (ap (λ (z : Process). z.number) (sym same) ∙ ranked (get_or qs i q).number p _ (sym (equal q)))
  searched-found (Err i) inside parted = tt

  pub searched-none : (r : Result ℕ ℕ) → IsSearchInRange r (length qs) → IsBinarySearchResult (λ (q : Process). nat_cmp q.number p) qs r → IfNone (result_ok r) (is_number_among p (numbers_of qs) ≡ false)
  searched-none (Ok i) inside equal = tt
  searched-none (Err i) inside parted = among-none qs p other where
    other : (j : ℕ) (q : Process) → slice_get qs j ≡ Some q → q.number ≢ p
    other j q e is =
        let parts = parted comparisons-rise in
        let same : (get_or qs j q).number ≡ q.number = ap (λ (z : Process). z.number) (get_or_from_slice_get qs j q q e) in
        elim (cases_lt j i) [
          | inl before ↦
              let less : (get_or qs j q).number < p = ranked (get_or qs j q).number p _ (sym (parts.0 j q (omega arith) before)) in
              omega (arith, less, same, is)
          | inr behind ↦
              let more : p < (get_or qs j q).number = ranked (get_or qs j q).number p _ (sym (parts.1 j q behind (slice_get_within qs j q e))) in
              omega (arith, more, same, is)
        ]
