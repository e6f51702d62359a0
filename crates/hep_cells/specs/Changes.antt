-- The cell that an access fills or empties: docs/MACHINE.md, "Storage".
use Rattle.std.specs.Prelude.{ℕ, Bool, nat_eq, if◌then◌else◌, Option, Some, None}
use mathlib.Core.Bool.{beq}
use Rattle.hep_machine.specs.declared.slot.Slot.{Slot}
use Rattle.hep_cells.specs.declared.want.Want.{Want}

-- the cell at an address as it is now, if it was full and is empty, or the other way round
abbrev pub changed_cell : ℕ → Slot → Slot → Option Want
changed_cell at before now = if beq before.full now.full then None else Some (record { cell = at; full = now.full })

-- whether a cell is full after this change, by whether it was full before
abbrev pub full_after : Option Want → ℕ → Bool → Bool
full_after None c full = full
full_after (Some w) c full = if nat_eq w.cell c then w.full else full
