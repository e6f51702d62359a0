-- The values of DATA for the cells of the arena before the first step: X3.9-1978, section 9.
use Rattle.std.specs.Prelude.{◌≡◌, ℕ, ◌+◌, ◌&&◌, nat_le, nat_lt, if◌then◌else◌, List, [], ◌∷◌, Option, Some, None}
use Rattle.hep_machine.specs.Words.{Value, Units, unit_at, main_unit, unset_cell, Layout, common_cells, opening, cell_given, Location, frame_cells}
use Rattle.hep_layout.specs.Words.{address}
use Rattle.hep_image.specs.declared.data.DataRow.{DataRow}

-- at the opening the frame of the main program follows COMMON, wherever it fits
abbrev pub first_frames : Units → Layout
first_frames program =
    record { activation = 1; first = common_cells program; cells = frame_cells (unit_at program (main_unit program)) } ∷ []

-- the value that rows give a cell of the arena: that of the first row that has the cell
abbrev pub value_in_rows : List DataRow → ℕ → Option Value
value_in_rows [] p = None
value_in_rows (r ∷ rs) p = if nat_le r.first p && nat_lt p (r.first + r.count) then Some r.value else value_in_rows rs p

-- each storage unit has at the opening the value that the rows give its cell
abbrev pub AreInitial : Units → List DataRow → Type 0
AreInitial program rows =
    (at : Location) (p : ℕ) → address program (opening program) (first_frames program) at ≡ Some p → (opening program).store at ≡ cell_given (value_in_rows rows p) unset_cell

-- each cell that rows give a value keeps a storage unit, so that no cell of a DO has one
abbrev pub AreOfUnits : Units → List DataRow → Type 0
AreOfUnits program rows =
    (p : ℕ) (v : Value) → value_in_rows rows p ≡ Some v → (at : Location) × (address program (opening program) (first_frames program) at ≡ Some p)
