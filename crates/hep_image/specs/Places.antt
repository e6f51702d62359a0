-- The places of the variables of a unit, and of the cells of its DOs: docs/MACHINE.md, "Variables and frames" and
-- "Layout".
use Rattle.std.specs.Prelude.{ℕ, Bool, true, false, nat_eq, if◌then◌else◌, List, Option, Some, None}
use Rattle.std.specs.List.{filter}
use Rattle.std.specs.Option.{unwrap_or}
use Rattle.hep_machine.specs.Words.{Name, Statement, index_among, is_among, Units, unit_at, statement_at, dummies_of, constant_shape, adjustable_dimensions, BlockName, common_block, is_array, no_shape, names_of, locals_of, is_do}
use Rattle.hep_code.specs.declared.variable.Variable.{Variable}
use Rattle.hep_code.specs.declared.variable.Variable.TheVariants as variables
use Rattle.hep_code.specs.Words.{Addresses}
use Rattle.hep_layout.specs.Words.{argument, variable, iteration, bounds, first_of_part, first_in_common}
use Rattle.hep_image.specs.declared.array.Array.{Array}
use Rattle.hep_image.specs.declared.array.Extents.{Extents}
use Rattle.hep_image.specs.declared.array.Extents.TheVariants.{Constant, Adjustable}
use Rattle.hep_image.specs.declared.array.Start.{Start}
use Rattle.hep_image.specs.declared.array.Start.TheVariants.{Local, Common, Dummy}

-- ---- the first storage unit

-- those of a dummy argument, of a name in COMMON and of a local variable: nothing else has any
abbrev pub start_by : Units → List Statement → Name → Option ℕ → Option BlockName → Bool → Option Start
start_by program unit x (Some k) b l = Some (Dummy (first_of_part unit (argument x)))
start_by program unit x None (Some b) l = Some (Common (first_in_common program unit b x))
start_by program unit x None None true = Some (Local (first_of_part unit (variable x)))
start_by program unit x None None false = None

unfoldable pub start_of : Units → List Statement → Name → Option Start
start_of program unit x = start_by program unit x (index_among x (dummies_of unit)) (common_block unit x) (is_among x (locals_of unit))

-- ---- arrays

-- in order of first appearance
abbrev pub arrays_of : List Statement → List Name
arrays_of unit = filter (is_array unit) (names_of unit)

abbrev pub extents_of : List Statement → Name → Extents
extents_of unit x =
    if nat_eq (adjustable_dimensions unit x) 0
    then Constant (unwrap_or (constant_shape unit x) no_shape)
    else Adjustable (first_of_part unit (bounds x)) (adjustable_dimensions unit x)

-- an array of an accepted program has a first storage unit
abbrev pub array_of : Units → List Statement → Name → Array
array_of program unit x = record { start = unwrap_or (start_of program unit x) (Local 0); extents = extents_of unit x }

-- ---- variables

abbrev pub scalar : Bool → Start → Variable
scalar asynchronous (Local c) = variables.Local asynchronous c
scalar asynchronous (Common c) = variables.Common asynchronous c
scalar asynchronous (Dummy c) = variables.Dummy asynchronous c

abbrev pub variable_by : List Statement → Name → Option Start → Variable
variable_by unit x None = variables.Absent
variable_by unit x (Some at) = if is_array unit x then variables.Array x.asynchronous (unwrap_or (index_among x (arrays_of unit)) 0) else scalar x.asynchronous at

unfoldable pub variable_of : Units → List Statement → Name → Variable
variable_of program unit x = variable_by unit x (start_of program unit x)

-- the first of the two cells of the DO at an index
abbrev pub loop_cells : List Statement → ℕ → ℕ
loop_cells unit d = if is_do (statement_at unit d).form then first_of_part unit (iteration d) else 0

-- those of all units of a program
abbrev pub addresses_of : Units → Addresses
addresses_of program =
    record { variables = λ u. variable_of program (unit_at program u); cells = λ u. loop_cells (unit_at program u) }
