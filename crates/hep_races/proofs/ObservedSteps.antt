-- A step that was observed before it and after it is the event of the step.
use Rattle.std.proofs.Common.{subst, ◌≡◌, ◌≢◌, ℕ, suc, Bool, true, false, ◌&&◌, not, nat_lt, List, [], ◌∷◌, ◌++◌, length, map, Option, Some}
use Rattle.std.proofs.Common.{None, refl, sym, ap, ◌∙◌, if◌then◌else◌}
use Rattle.std.specs.List.{list_any}
use Rattle.std.specs.Option.{option_map, option_to_list}
use Rattle.hep_layout.proofs.HeldFrames.{turned}
use Rattle.hep_machine.specs.Words.{Level, Location, Process, State, Top, Units, living, run, same_location, step}
use Rattle.hep_accesses.specs.RunEvents.{Event, event_of, event_of_top, process_made}
use Rattle.hep_accesses.specs.Exchanges.{next_on_top, top_with}
use Rattle.hep_views.specs.ListedProcesses.{place_of}
use Rattle.hep_races.specs.StepChanges.{accesses_of_fault, accesses_unless_fault, changes_on_top, has_failed}
use Rattle.hep_races.specs.StepEvents.{AreThere, AreUnitsThere, IsLookedAt, IsObserved, access_seen, made_since}
use Rattle.hep_races.specs.declared.step_event.ObservedStep.{ObservedStep}
use Rattle.hep_races.proofs.NamedThere.{fault-there}
use Rattle.hep_races.proofs.ChangedUnits.{accessed-units, changed-units}

module _ (program : Units) (p : ℕ) (s u : State) (top : Level × Process) (lives : living s p ≡ Some top)
    (stepped : step program p s ≡ Some u) where
  abbrev t : Top
  t = top_with program s p top

  event-is : event_of program p s u ≡ event_of_top program p s u (Some top)
  event-is = ap (event_of_top program p s u) lives

  -- what is accessed, and what is made full or empty
  accessed : (failed : Bool) → has_failed s u ≡ failed → (event_of program p s u).accesses
      ≡ (if failed then accesses_of_fault (next_on_top program t) (accesses_unless_fault program t (next_on_top program t)) else
      accesses_unless_fault program t (next_on_top program t))
  accessed failed is =
      ap (λ (e : Event). e.accesses) event-is ∙ accessed-units program p s u top lives stepped
      ∙ ap (λ b. if b then accesses_of_fault (next_on_top program t) (accesses_unless_fault program t (next_on_top program t)) else
      accesses_unless_fault program t (next_on_top program t)) is

  changed : (failed : Bool) → has_failed s u ≡ failed → (at : Location) → (event_of program p s u).changes at
      ≡ list_any (same_location at) (if failed then [] else changes_on_top program t)
  changed failed is at =
      ap (λ (e : Event). e.changes at) event-is ∙ changed-units program p s u top lives stepped at
      ∙ ap (λ b. not b && list_any (same_location at) (changes_on_top program t)) is ∙ by failed
    where
      by : (b : Bool) → (not b && list_any (same_location at) (changes_on_top program t))
          ≡ list_any (same_location at) (if b then [] else changes_on_top program t)
      by true = refl
      by false = refl

  -- where it is a fault or not
  pub observed : (old new : ObservedStep) (failed : Bool) → IsLookedAt program t old → has_failed s u ≡ failed
      → new.process ≡ old.process → new.makes ≡ process_made s u → new.needs ≡ old.needs
      → new.changes.items ≡ (if failed then [] else old.changes.items)
      → new.access ≡ (if failed then old.fault_access else old.access) → new.bounds.items ≡ old.bounds.items → IsObserved program t u new
  observed old new failed h is process makes needs changes access bounds =
      record {
        process = process ∙ h.process ∙ sym (ap (λ (e : Event). e.process) event-is);
        makes = makes ∙ sym (ap (λ (e : Event). e.makes) event-is);
        needs = needs ∙ h.needs ∙ sym (ap (λ (e : Event). option_map (place_of program s) e.needs) event-is);
        changes = (
          if failed then [] else changes_on_top program t,
          changes ∙ in-changes failed h.changes,
          units-after failed,
          changed failed is,
        );
        accesses =
            (λ i. option_to_list (access i) ++ bounds i) ∙ in-accesses failed h.accesses h.fault_accesses
            ∙ sym (ap (map (access_seen program s)) (accessed failed is));
        needs_there = λ at e. h.needs_there at (sym (ap (λ (e : Event). e.needs) event-is) ∙ e);
        accesses_there = subst (AreThere program s) (sym (accessed failed is)) (there-after failed h.accesses_there);
      }
    where
      there-after : (b : Bool) → AreThere program s (accesses_unless_fault program t (next_on_top program t))
          → AreThere program s (if b then accesses_of_fault (next_on_top program t)
          (accesses_unless_fault program t (next_on_top program t))
          else accesses_unless_fault program t (next_on_top program t))
      there-after true r = fault-there program s (next_on_top program t) (accesses_unless_fault program t (next_on_top program t)) r
      there-after false r = r

      units-after : (b : Bool) → AreUnitsThere program s (if b then [] else changes_on_top program t)
      units-after true = tt
      units-after false = h.changes_there

      in-changes : (b : Bool) → old.changes.items ≡ map (place_of program s) (changes_on_top program t)
          → (if b then [] else old.changes.items) ≡ map (place_of program s) (if b then [] else changes_on_top program t)
      in-changes true e = refl
      in-changes false e = e

      in-accesses : (b : Bool)
          → option_to_list old.access ++ old.bounds.items ≡ map (access_seen program s)
          (accesses_unless_fault program t (next_on_top program t))
          → option_to_list old.fault_access ++ old.bounds.items ≡ map (access_seen program s)
          (accesses_of_fault (next_on_top program t) (accesses_unless_fault program t (next_on_top program t)))
          → option_to_list (if b then old.fault_access else old.access) ++ old.bounds.items
          ≡ map (access_seen program s) (if b then accesses_of_fault (next_on_top program t)
          (accesses_unless_fault program t (next_on_top program t)) else accesses_unless_fault program t (next_on_top program t))
      in-accesses true e f = f
      in-accesses false e f = e

-- a step leads to the state after its turn
pub made-state : (program : Units) (choices : List ℕ) (p : ℕ) → step program p (run program choices) ≢ None
    → step program p (run program choices) ≡ Some (run program (choices ++ p ∷ []))
made-state program choices p steps = by (step program p (run program choices)) refl
  where
    by : (o : Option State) → step program p (run program choices) ≡ o → step program p (run program choices)
        ≡ Some (run program (choices ++ p ∷ []))
    by None e = absurd (steps e)
    by (Some u) e = e ∙ ap (λ v. Some v) (sym (turned program choices p u e))

-- the process that was made
pub made-same : (s u : State) (before after : ℕ) → before ≡ length s.processes → after ≡ length u.processes → made_since before after
    ≡ process_made s u
made-same s u before after e f = λ i. if nat_lt (e i) (f i) then Some (suc (e i)) else None
