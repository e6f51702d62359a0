-- Worked rows: each access to a cell that is empty without a value, empty with a value, and full.
use Rattle.std.specs.Prelude.{◌≡◌, pos, true, false, Some, None, refl}
use Rattle.hep_machine.specs.declared.slot.Slot.{Slot}
use Rattle.hep_machine.specs.Words.{Value, Int, makes, undefined, purged_cell, reading_asynchronous, setting_empty, unset_cell, waiting_full, writing, writing_asynchronous}
use Rattle.hep_machine.specs.Access.{gives, waits, reading}
use Rattle.hep_cells.specs.Changes.{changed_cell, full_after}

abbrev seven : Value
seven = Int (pos 7)

abbrev eight : Value
eight = Int (pos 8)

abbrev empty_with : Value → Slot
empty_with value = record { value = Some value; full = false }

abbrev full_with : Value → Slot
full_with value = record { value = Some value; full = true }

-- ---- without a value

read_unset : reading unset_cell ≡ undefined
read_unset = refl

read_unset_asynchronous : reading_asynchronous unset_cell ≡ waits true
read_unset_asynchronous = refl

wait_unset : waiting_full unset_cell ≡ waits true
wait_unset = refl

empty_unset : setting_empty unset_cell ≡ undefined
empty_unset = refl

write_unset : writing seven unset_cell ≡ makes seven (empty_with seven)
write_unset = refl

fill_unset : writing_asynchronous seven unset_cell ≡ makes seven (full_with seven)
fill_unset = refl

-- full, without a value
read_full_unset : reading_asynchronous (record { value = None; full = true }) ≡ undefined
read_full_unset = refl

-- ---- full

read_full : reading_asynchronous (full_with seven) ≡ makes seven (empty_with seven)
read_full = refl

wait_full : waiting_full (full_with seven) ≡ gives seven
wait_full = refl

fill_full : writing_asynchronous eight (full_with seven) ≡ waits false
fill_full = refl

write_full : writing eight (full_with seven) ≡ makes eight (full_with eight)
write_full = refl

purge_full : purged_cell (full_with seven) ≡ empty_with seven
purge_full = refl

-- ---- empty with a value

value_of_empty : reading (empty_with seven) ≡ gives seven
value_of_empty = refl

empty_again : setting_empty (empty_with seven) ≡ makes seven (empty_with seven)
empty_again = refl

fill_empty : writing_asynchronous eight (empty_with seven) ≡ makes eight (full_with eight)
fill_empty = refl

-- ---- the cell at address 4, once it was accessed

filled : changed_cell 4 (empty_with seven) (full_with eight) ≡ Some (record { cell = 4; full = true })
filled = refl

emptied : changed_cell 4 (full_with seven) (empty_with seven) ≡ Some (record { cell = 4; full = false })
emptied = refl

written : changed_cell 4 (full_with seven) (full_with eight) ≡ None
written = refl

full_there : full_after (changed_cell 4 (empty_with seven) (full_with eight)) 4 false ≡ true
full_there = refl

empty_elsewhere : full_after (changed_cell 4 (empty_with seven) (full_with eight)) 5 false ≡ false
empty_elsewhere = refl
