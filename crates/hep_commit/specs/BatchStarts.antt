-- The values at the start of a batch, in the frame of an activation: docs/MACHINE.md, "Private steps" and "Workers".
use Rattle.std.specs.Prelude.{◌≡◌, ◌+◌, ℕ, false, List, [], ◌∷◌, map, Option, Some, slice_get}
use Rattle.hep_machine.specs.Words.{Value}
use Rattle.hep_machine.specs.declared.slot.Slot.{Slot}
use Rattle.hep_private.specs.OwnState.{Values}

-- a slot with this value, or with none, that isn't full
abbrev pub slot_with : Option Value → Slot
slot_with o = record { value = o; full = false }

-- the slots of cells with these values
abbrev pub slots_with : Values → List ℕ → List Slot
slots_with values cells = map (λ (c : ℕ). slot_with (values c)) cells

-- a cell of a frame that begins at `first` lies in the arena, has this value, and isn't full
abbrev pub IsThere : ℕ → List Slot → Values → ℕ → Type 0
IsThere first contents values c = slice_get contents (first + c) ≡ Some (slot_with (values c))

-- all of these cells are so
abbrev pub AreThere : ℕ → List Slot → Values → List ℕ → Type 0
AreThere first contents values [] = Unit {0}
AreThere first contents values (c ∷ cs) = IsThere first contents values c × AreThere first contents values cs
