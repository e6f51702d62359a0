-- The cells of the arena after a PURGE: docs/LANGUAGE.md, 9, and docs/MACHINE.md, "Steps".
use Rattle.std.specs.Prelude.{ℕ, zero, suc, ◌+◌, ◌&&◌, ◌||◌, Bool, false, nat_le, nat_lt, List, [], ◌∷◌, Result, Ok, Err, slice_set}
use Rattle.hep_machine.specs.declared.event.Kind.{Kind}
use Rattle.hep_machine.specs.declared.slot.Slot.{Slot}
use Rattle.hep_machine.specs.Words.{purged_cell}
use Rattle.hep_code.specs.Words.{PassedArgument}
use Rattle.hep_image.specs.declared.array.Array.{Array}
use Rattle.hep_image.specs.Addressing.{cells_in}
use Rattle.hep_step.specs.Effects.{Effect, fails, moves}
use Rattle.hep_step.specs.declared.closed_range.ClosedRange.{ClosedRange}
use Rattle.hep_step.specs.PurgedRanges.{ranges_of}

-- ---- cells

-- a number of cells from one on are empty; their values don't change
abbrev pub purged_from : ℕ → ℕ → List Slot → List Slot
purged_from zero at contents = contents
purged_from (suc n) at contents = purged_from n (suc at) (slice_set contents at (purged_cell (cells_in contents at)))

-- the cells of all ranges are empty
abbrev pub purged : List ClosedRange → List Slot → List Slot
purged [] contents = contents
purged (r ∷ rs) contents = purged rs (purged_from r.cells r.first contents)

-- ---- the cells of ranges

abbrev pub has_cell : ClosedRange → ℕ → Bool
has_cell r p = nat_le r.first p && nat_lt p (r.first + r.cells)

-- one of the ranges has it
abbrev pub have_cell : List ClosedRange → ℕ → Bool
have_cell [] p = false
have_cell (r ∷ rs) p = has_cell r p || have_cell rs p

-- ---- the operation

-- the activation goes on at an index; a fault changes nothing
abbrev pub effect_of_ranges : ℕ → ℕ → List Slot → Result (List ClosedRange) Kind → Effect
effect_of_ranges line next contents (Err k) = fails line k
effect_of_ranges line next contents (Ok ranges) = moves (purged ranges contents) [] next

-- in a unit with these arrays, whose activation's frame begins at a cell
abbrev pub effect_of_purge : List Array → ℕ → ℕ → ℕ → List PassedArgument → List Slot → Effect
effect_of_purge arrays first line next targets contents = effect_of_ranges line next contents (ranges_of (cells_in contents) first arrays targets)
