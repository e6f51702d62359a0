-- The cells that DATA gives values in a main program, and the values: X3.9-1978, 9.1 and 9.2.
use Rattle.std.specs.Prelude.{ℕ, ◌+◌, ◌-◌, nat_lt, if◌then◌else◌, ℤ, List, [], ◌∷◌, Option, Some, None, option_and_then, option_to_list, slice_get}
use Rattle.std.specs.List.{flat_map}
use Rattle.std.specs.Option.{option_map, option_or, unwrap_or}
use Rattle.hep_machine.specs.Words.{trees_of, DataGroup, DataValue, Target, Name, Statement, Value, integers_of, Values, constant_value, values_of, Repeated, values_given, is_nonempty, Bounds, counted_element, elements}
use Rattle.hep_code.specs.declared.variable.Variable.{Variable}
use Rattle.hep_code.specs.declared.variable.Variable.TheVariants as variables
use Rattle.hep_image.specs.declared.array.Array.{Array}
use Rattle.hep_image.specs.declared.array.Extents.{Extents}
use Rattle.hep_image.specs.declared.array.Extents.TheVariants.{Constant, Adjustable}
use Rattle.hep_image.specs.declared.array.Start.{Start}
use Rattle.hep_image.specs.declared.array.Start.TheVariants.{Local, Common, Dummy}
use Rattle.hep_places.specs.declared.data_cells.CellRange.{CellRange}
use Rattle.hep_places.specs.CellRows.{value_of_cell}

-- ---- cells

-- cells of a local variable after its first ones: the frame of the main program follows COMMON
abbrev pub cells_from : ℕ → ℕ → ℕ → ℕ → Option CellRange
cells_from common cell before count =
    if nat_lt (common + (cell + (before + count))) 4294967296 then Some (record { first = common + (cell + before); count = count }) else None

abbrev pub cells_of_scalar : ℕ → ℕ → Target → Option CellRange
cells_of_scalar common cell t = if is_nonempty t.subscripts then None else cells_from common cell 0 1

-- elements are counted from 1
abbrev pub cell_of_element : ℕ → ℕ → Option ℕ → Option CellRange
cell_of_element common cell number = option_and_then (λ n. cells_from common cell (n - 1) 1) number

abbrev pub cells_of_all_elements : ℕ → ℕ → Option ℕ → Option CellRange
cells_of_all_elements common cell count = option_and_then (cells_from common cell 0) count

abbrev pub number_by : Bounds → Option (List ℤ) → Option ℕ
number_by bounds subscripts = option_and_then (counted_element bounds) subscripts

abbrev pub cells_of_array : List Statement → ℕ → ℕ → Bounds → Target → Option CellRange
cells_of_array unit common cell bounds t =
    if is_nonempty t.subscripts
    then cell_of_element common cell (number_by bounds (option_map integers_of (values_of unit (constant_value unit) (trees_of t.subscripts))))
    else cells_of_all_elements common cell (elements bounds)

abbrev pub cells_by_start : List Statement → ℕ → Start → Extents → Target → Option CellRange
cells_by_start unit common (Local c) (Constant bounds) t = cells_of_array unit common c bounds t
cells_by_start unit common (Local c) (Adjustable cells dimensions) t = None
cells_by_start unit common (Common c) extents t = None
cells_by_start unit common (Dummy c) extents t = None

abbrev pub cells_by_array : List Statement → ℕ → Option Array → Target → Option CellRange
cells_by_array unit common None t = None
cells_by_array unit common (Some a) t = cells_by_start unit common a.start a.extents t

abbrev pub cells_by_variable : List Statement → List Array → ℕ → Variable → Target → Option CellRange
cells_by_variable unit arrays common (variables.Local a c) t = cells_of_scalar common c t
cells_by_variable unit arrays common (variables.Common a c) t = None
cells_by_variable unit arrays common (variables.Dummy a c) t = None
cells_by_variable unit arrays common (variables.Array a i) t = cells_by_array unit common (slice_get arrays i) t
cells_by_variable unit arrays common variables.Absent t = None

-- the cells of a name in DATA, by tables of the places of variables
abbrev pub cells_named : List Statement → (Name → Option Variable) → List Array → ℕ → Target → Option CellRange
cells_named unit table arrays common t = cells_by_variable unit arrays common (unwrap_or (table t.occurrence.name) variables.Absent) t

abbrev pub all_cells_named : List Statement → (Name → Option Variable) → List Array → ℕ → List Target → List CellRange
all_cells_named unit table arrays common ts = flat_map (λ (t : Target). option_to_list (cells_named unit table arrays common t)) ts

-- ---- values

abbrev pub all_values : Values → List DataValue → List (Repeated Value)
all_values values vs = flat_map (λ (v : DataValue). option_to_list (values_given values v)) vs

abbrev pub value_by_group : List Statement → (Name → Option Variable) → List Array → ℕ → DataGroup → ℕ → Option Value
value_by_group unit table arrays common g p =
    value_of_cell (all_cells_named unit table arrays common g.targets) (all_values (constant_value unit) g.values) p

-- of several groups the last one that gives a cell a value
abbrev pub value_by_groups : List Statement → (Name → Option Variable) → List Array → ℕ → List DataGroup → ℕ → Option Value
value_by_groups unit table arrays common [] p = None
value_by_groups unit table arrays common (g ∷ gs) p =
    option_or (value_by_groups unit table arrays common gs p) (value_by_group unit table arrays common g p)
