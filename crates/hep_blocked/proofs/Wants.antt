-- Whether two wants are the same, and lists under wants of which one is written.
use Rattle.std.proofs.Common.{◌≡◌, ℕ, Bool, true, false, true≢false, List, [], Option, Some, None, refl, sym, ap, ◌∙◌, inl, inr, if◌then◌else◌, nat_eq, OnErr, Result, Ok, Err}
use Rattle.std.specs.Global.{Vec}
use Rattle.std.proofs.lemmas.Bool.{cases_Bool, and_parts, and_from, eqb-true, eq-eqb}
use mathlib.Core.Bool.{beq}
use Rattle.hep_cells.specs.declared.want.Want.{Want}
use Rattle.hep_blocked.specs.WaitQueues.{items_of, want_eq}
use Rattle.hep_source.proofs.Tests.{equal-self}

beq-is : (a b : Bool) → beq a b ≡ true → a ≡ b
beq-is true true h = refl
beq-is true false h = cc
beq-is false true h = cc
beq-is false false h = refl

pub want-is : (v w : Want) → want_eq v w ≡ true → v ≡ w
want-is v w h =
    let parts = and_parts (nat_eq v.cell w.cell) (beq v.full w.full) h in
    let cell : v.cell ≡ w.cell = eqb-true v.cell w.cell parts.0 in
    let full : v.full ≡ w.full = beq-is v.full w.full parts.1 in
    λ i. record { cell = cell i; full = full i }

pub want-same : (w : Want) → want_eq w w ≡ true
want-same w = and_from (nat_eq w.cell w.cell) (beq w.full w.full) (eq-eqb w.cell w.cell refl) (equal-self w.full)

pub want-apart : (v w : Want) → want_eq v w ≡ false → want_eq w v ≡ false
want-apart v w h = elim (cases_Bool (want_eq w v)) [
  | inl e ↦ absurd (true≢false (sym (want-same v) ∙ ap (want_eq v) (sym (want-is w v e)) ∙ h))
  | inr e ↦ e
]

-- ---- the lists

-- one list is written, of those that a table has
pub list-written : (f g : Want → Option (Vec ℕ)) (want : Want) (change : List ℕ → List ℕ) (old new : Vec ℕ) → f want ≡ Some old → new.items ≡ change old.items → ((w : Want) → g w ≡ (if want_eq want w then Some new else f w))
    → (w : Want) → items_of (g w) ≡ (if want_eq want w then change (items_of (f w)) else items_of (f w))
list-written f g want change old new was is after w = elim (cases_Bool (want_eq want w)) [
  | inl e ↦
      let here : f w ≡ Some old = ap f (sym (want-is want w e)) ∙ was in
      let there : g w ≡ Some new = rw e at (after w) in
      rw (e, there, here) is
  | inr e ↦ let there : g w ≡ f w = rw e at (after w) in rw (e, there) refl
]

-- a list is written as it was, of those that a table has
pub list-kept : (f g : Want → Option (Vec ℕ)) (want : Want) (old new : Vec ℕ) → f want ≡ Some old → new.items ≡ old.items → ((w : Want) → g w ≡ (if want_eq want w then Some new else f w)) → (w : Want) → items_of (g w) ≡ items_of (f w)
list-kept f g want old new was is after w = elim (cases_Bool (want_eq want w)) [
  | inl e ↦
      let here : f w ≡ Some old = ap f (sym (want-is want w e)) ∙ was in
      let there : g w ≡ Some new = rw e at (after w) in
      rw (there, here) is
  | inr e ↦ let there : g w ≡ f w = rw e at (after w) in rw there refl
]

pub on-err : {T E P : Type 0} (r : Result T E) → P → OnErr r P
on-err (Ok x) p = tt
on-err (Err e) p = p

-- an empty list is made where there was none
pub list-opened : (f g : Want → Option (Vec ℕ)) (want : Want) (new : Vec ℕ) → f want ≡ None → new.items ≡ [] → ((w : Want) → g w ≡ (if want_eq want w then Some new else f w)) → (w : Want) → items_of (g w) ≡ items_of (f w)
list-opened f g want new was is after w = elim (cases_Bool (want_eq want w)) [
  | inl e ↦
      let here : f w ≡ None = ap f (sym (want-is want w e)) ∙ was in
      let there : g w ≡ Some new = rw e at (after w) in
      rw (there, here) is
  | inr e ↦ let there : g w ≡ f w = rw e at (after w) in rw there refl
]
