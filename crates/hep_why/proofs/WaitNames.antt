-- What a process waits for has a name in its unit.
use Rattle.std.proofs.Common.{◌≡◌, ℕ, Bool, true, false, [], ◌∷◌, Option, Some, None, Result, Ok, Err, refl, sym, ap, ◌∙◌, append-nil}
use Rattle.std.specs.List.{flat_map}
use Rattle.std.proofs.lemmas.Option.{none-some, same_Some}
use Rattle.hep_blocked.specs.Needs.{if_so, named_location, need_of, need_of_next, need_of_test, on_top, wanted_at}
use Rattle.hep_blocked.proofs.Waiting.{waits-unmet}
use Rattle.hep_machine.specs.declared.event.Kind.{Kind}
use Rattle.hep_machine.specs.Evaluation.{reading}
use Rattle.hep_machine.specs.Words.{Level, Location, Next, Process, Redex, Reference, State, StateFunction, Top, Units, Wanted, assigning, does, evaluating, living, location_of_name, next_of, scope_of, spelling, testing, unit_at, unit_of, wanted_by, wants, IsFull, IsEmpty, ValueOf, SetEmpty, WaitFull}
use Rattle.hep_event.specs.AccessedNames.{references_of}
use Rattle.hep_event.specs.StepTexts.{own_reference}
use Rattle.hep_event.specs.LineTexts.{reference_text}
use Rattle.hep_why.specs.WaitNames.{IsNameOf, called_by, called_with}
use Rattle.hep_blocked.proofs.NeededCells.{unmet-needed}

-- ---- what is needed has a location

at-location : (full : Bool) (r : Result Location Kind) (w : Wanted) → wanted_at full (named_location r) ≡ Some w → r ≡ Ok w.at
at-location full (Err k) w e = absurd (none-some w e)
at-location full (Ok at) w e = ap (λ (v : Wanted). Ok v.at) (same_Some _ w e)

so-located : (b full : Bool) (r : Result Location Kind) (w : Wanted) → if_so b (wanted_at full (named_location r)) ≡ Some w → r ≡ Ok w.at
so-located true full r w e = at-location full r w e
so-located false full r w e = absurd (none-some w e)

test-located : (f : StateFunction) (r : Result Location Kind) (w : Wanted) → need_of_test f (named_location r) ≡ Some w → r ≡ Ok w.at
test-located IsFull r w e = absurd (none-some w e)
test-located IsEmpty r w e = absurd (none-some w e)
test-located ValueOf r w e = absurd (none-some w e)
test-located SetEmpty r w e = absurd (none-some w e)
test-located WaitFull r w e = at-location true r w e

-- ---- by what comes next

abbrev pub top_of_process : State → ℕ → Level × Process → Top
top_of_process s p top = record { state = s; process = p; level = top.0; below = top.1 }

-- it accesses one variable or element, which is there
pub record IsOne (program : Units) (t : Top) (n : Next) (w : Wanted) : Type 0 where
  pub reference : Reference
  pub one : references_of program t n ≡ reference ∷ []
  pub stands : location_of_name (scope_of program t.state t.level.activation) reference.0 reference.1 ≡ Ok w.at

module _ (program : Units) (t : Top) (w : Wanted) where
  one-redex : (q : Redex) → need_of_next (scope_of program t.state t.level.activation) (wants (evaluating q)) ≡ Some w
      → IsOne program t (wants (evaluating q)) w
  one-redex (reading r) e = record { reference = r; one = refl; stands = so-located r.0.asynchronous true _ w e }
  one-redex (testing f r) e = record { reference = r; one = refl; stands = test-located f _ w e }
  one-redex _ e = absurd (none-some w e)

  pub one-next : (n : Next) → need_of_next (scope_of program t.state t.level.activation) n ≡ Some w → IsOne program t n w
  one-next (wants (evaluating q)) e = one-redex q e
  one-next (does (assigning r v)) e = record { reference = r; one = refl; stands = so-located r.0.asynchronous false _ w e }
  one-next _ e = absurd (none-some w e)

-- ---- process p

-- it lives, and what comes next of it needs a storage unit, which it calls so
pub record IsAwaited (program : Units) (s : State) (p : ℕ) (w : Wanted) : Type 0 where
  pub top : Level × Process
  pub lives : living s p ≡ Some top
  pub needed : need_of_next (scope_of program s top.0.activation) (next_of (unit_at program (unit_of s top.0.activation)) top.0.work) ≡ Some w
  pub reference : Reference
  pub one : references_of program (top_of_process s p top) (next_of (unit_at program (unit_of s top.0.activation)) top.0.work) ≡ reference ∷ []
  pub stands : location_of_name (scope_of program s top.0.activation) reference.0 reference.1 ≡ Ok w.at
  pub written : called_by program s p ≡ reference_text (spelling reference.0) reference.1

pub awaited : (program : Units) (s : State) (p : ℕ) (w : Wanted) → wanted_by program p s ≡ Some w → IsAwaited program s p w
awaited program s p w e = by (living s p) refl (unmet-needed (need_of program p s) s.store w (sym (waits-unmet program p s) ∙ e))
  where
    by : (o : Option (Level × Process)) → living s p ≡ o → on_top need_of_next program s o ≡ Some w → IsAwaited program s p w
    by None lives e = absurd (none-some w e)
    by (Some top) lives e =
        let t = top_of_process s p top in
        let it = one-next program t w (next_of (unit_at program (unit_of s top.0.activation)) top.0.work) e in
        record {
          top = top;
          lives = lives;
          needed = e;
          reference = it.reference;
          one = it.one;
          stands = it.stands;
          written = ap (called_with program s p) lives ∙ ap (flat_map (own_reference program t)) it.one
              ∙ append-nil (own_reference program t it.reference);
        }

pub named : (program : Units) (s : State) (p : ℕ) (w : Wanted) → wanted_by program p s ≡ Some w
    → IsNameOf program s p w.at (called_by program s p)
named program s p w e =
    let h = awaited program s p w e in
    record { top = h.top; reference = h.reference; lives = h.lives; stands = h.stands; written = h.written }
