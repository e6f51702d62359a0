-- The processes of reasons are in order.
use Rattle.std.proofs.Common.{◌≡◌, ℕ, zero, suc, ◌≤◌, List, [], ◌∷◌, ◌++◌, length, Option, Some, None, refl, sym, ap, ◌∙◌, arith, slice_get}
use Rattle.std.proofs.lemmas.Option.{none-some, same_Some}
use Rattle.hep_event.proofs.Histories.{number-listed}
use Rattle.hep_event.specs.CoreValues.{listed_after}
use Rattle.hep_machine.specs.declared.event.Entry.{Entry}
use Rattle.hep_machine.specs.Words.{Units, Wanted, state_after, wanted_by}
use Rattle.hep_views.specs.declared.listed.Listed.{Listed}
use Rattle.hep_why.specs.Reasons.{reason_by, reason_of, reasons_from, reasons_of}
use Rattle.hep_why.specs.CycleLaws.{Rise}
use Rattle.hep_why.specs.declared.reason.Reason.{Reason}

-- ---- one reason, and those behind it

-- each of these is of process p, and is the only one
abbrev AreOf : ℕ → List Reason → Type 0
AreOf p rs = (i : ℕ) (r : Reason) → slice_get rs i ≡ Some r → (i ≡ 0) × (r.listed.process ≡ p)

-- each of these is of process p or a later one
abbrev AreFrom : ℕ → List Reason → Type 0
AreFrom p rs = (i : ℕ) (r : Reason) → slice_get rs i ≡ Some r → p ≤ r.listed.process

joined-from : (p : ℕ) (rs more : List Reason) → AreOf p rs → AreFrom (suc p) more → AreFrom p (rs ++ more)
joined-from p [] more one from i r there = omega (arith, from i r there)
joined-from p (x ∷ rs) more one from zero r there =
    omega (arith, (one 0 x refl).1, ap (λ (s : Reason). s.listed.process) (same_Some x r there))
joined-from p (x ∷ []) more one from (suc i) r there = omega (arith, from i r there)
joined-from p (x ∷ y ∷ rs) more one from (suc i) r there = absurd (omega (arith, (one 1 y refl).0))

joined-rise : (p : ℕ) (rs more : List Reason) → AreOf p rs → AreFrom (suc p) more → Rise more → Rise (rs ++ more)
joined-rise p [] more one from rise i j r s here there less = rise i j r s here there less
joined-rise p (x ∷ y ∷ rs) more one from rise i j r s here there less = absurd (omega (arith, (one 1 y refl).0))
joined-rise p (x ∷ []) more one from rise i zero r s here there less = absurd (omega (arith, less))
joined-rise p (x ∷ []) more one from rise zero (suc j) r s here there less =
    omega (arith, (one 0 x refl).1, ap (λ (t : Reason). t.listed.process) (same_Some x r here), from j s there)
joined-rise p (x ∷ []) more one from rise (suc i) (suc j) r s here there less = rise i j r s here there (omega (arith, less))

-- ---- those of a history

module _ (program : Units) (history : List Entry) where
  reason-of : (p : ℕ) → AreOf p (reason_of program history p)
  reason-of p i r there = by (listed_after program history p) (wanted_by program p (state_after program history)) refl i there
    where
      by : (l : Option Listed) (w : Option Wanted) → listed_after program history p ≡ l → (i : ℕ)
          → slice_get (reason_by program history l w) i ≡ Some r → (i ≡ 0) × (r.listed.process ≡ p)
      by None w e i there = absurd (none-some r there)
      by (Some l) None e i there = absurd (none-some r there)
      by (Some l) (Some w) e (suc i) there = absurd (none-some r there)
      by (Some l) (Some w) e zero there =
          (refl, ap (λ (t : Reason). t.listed.process) (sym (same_Some _ r there)) ∙ number-listed program history p l e)

  from : (n p : ℕ) → AreFrom p (reasons_from program history p n)
  from zero p i r there = absurd (none-some r there)
  from (suc n) p i r there =
      joined-from p (reason_of program history p) (reasons_from program history (suc p) n) (reason-of p) (from n (suc p)) i r there

  rises : (n p : ℕ) → Rise (reasons_from program history p n)
  rises zero p i j r s here there less = absurd (none-some r here)
  rises (suc n) p i j r s here there less =
      joined-rise p (reason_of program history p) (reasons_from program history (suc p) n)
      (reason-of p) (from n (suc p)) (rises n (suc p)) i j r s here there less

  pub reasons-rise : Rise (reasons_of program history)
  reasons-rise = rises (length (state_after program history).processes) 1
