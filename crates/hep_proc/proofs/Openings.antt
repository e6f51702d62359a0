-- What is wanted of the main program's cells at the opening.
use Rattle.std.proofs.Common.{◌≡◌, ℕ, List, [], Option, Some, refl, sym, ap, ◌∙◌}
use Rattle.std.proofs.lemmas.Option.{same_Some, none-some}
use Rattle.hep_machine.specs.Words.{Name, index_among, Units, dummies_of, main_unit, unit_at, unset_cell, Layout, opening, activation_of, unit_of, run, run_from, Activation, Dummy, Process, State, entry_level}
use Rattle.hep_machine.specs.declared.slot.Slot.{Slot}
use Rattle.hep_layout.specs.Words.{level_of, slot_by_dummy, slot_of_bounds, slot_of_dummy, slot_on_level, descriptor_slots, FramePart, argument, bounds, header, iteration, variable}
use Rattle.hep_proc.specs.FrameTable.{IsOpening}

opening-unit : (program : Units) → unit_of (run program []) 1 ≡ main_unit program
unfolding run run_from opening
opening-unit program = refl

opening-level : (program : Units) → level_of (run program []) 1 ≡ Some (entry_level (unit_at program (main_unit program)) 1)
unfolding run run_from opening
opening-level program = refl

-- a unit without dummy arguments has none of any name
none-of : (f : Dummy → Option Slot) (dummies : List Dummy) (x : Name) (xs : List Name) (v : Slot) → xs ≡ [] → slot_by_dummy f dummies (index_among x xs) ≡ Some v → v ≡ unset_cell
none-of f dummies x xs v e w = absurd (none-some v (sym (ap (λ ys. slot_by_dummy f dummies (index_among x ys)) e) ∙ w))

pub opening-wanted : (program : Units) (s : State) (layout : Layout) (c : FramePart × ℕ) (v : Slot)
    → IsOpening program s → dummies_of (unit_at program (main_unit program)) ≡ [] → descriptor_slots program s layout 1 c ≡ Some v → v ≡ unset_cell
opening-wanted program s layout c v starts none w = by_part c w where
  dummies : dummies_of (unit_at program (unit_of s 1)) ≡ []
  dummies =
      ap (λ (xs : List Activation). dummies_of (unit_at program (unit_of (record s { activations = xs }) 1))) starts.activations_are
      ∙ (ap (λ u. dummies_of (unit_at program u)) (opening-unit program) ∙ none)

  level : level_of s 1 ≡ Some (entry_level (unit_at program (main_unit program)) 1)
  level = ap (λ (qs : List Process). level_of (record s { processes = qs }) 1) starts.processes_are ∙ opening-level program

  by_part : (c : FramePart × ℕ) → descriptor_slots program s layout 1 c ≡ Some v → v ≡ unset_cell
  by_part (header, i) w = absurd (none-some v w)
  by_part (variable x, i) w = absurd (none-some v w)
  by_part (argument x, i) w = none-of (λ d. slot_of_dummy program s layout 1 d i) (activation_of s 1).dummies x (dummies_of (unit_at program (unit_of s 1))) v dummies w
  by_part (bounds x, i) w = none-of (λ d. slot_of_bounds d.shape i) (activation_of s 1).dummies x (dummies_of (unit_at program (unit_of s 1))) v dummies w
  by_part (iteration d, i) w = sym (same_Some unset_cell v (sym (ap (λ o. slot_on_level o d i) level) ∙ w))
