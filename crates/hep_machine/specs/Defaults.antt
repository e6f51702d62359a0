-- The results of the definitions in cases that no accepted program has: docs/MACHINE.md, "What is never reached".
use Rattle.std.specs.Prelude.{ℕ, ℤ, pos, Bool, false, List, [], length, replicate, None}
use Rattle.hep_source.specs.declared.name.Name.{Name}
use Rattle.hep_source.specs.declared.statement.Statement.{Statement}
use Rattle.hep_source.specs.declared.value.Value.{Value}
use Rattle.hep_source.specs.declared.value.Value.TheVariants.{Truth}
use Rattle.hep_source.specs.Defaults.{no_unit}
use Rattle.hep_machine.specs.Shapes.{Bounds}
use Rattle.hep_machine.specs.State.{common, Activation, Dummy, Loop}

-- ---- values

-- for a logical value where an integer is expected, for an integer where a logical value is expected, and for a function with a wrong
-- number of arguments
abbrev pub no_integer : ℤ
no_integer = pos 0

abbrev pub no_logical : Bool
no_logical = false

-- for a name with a list that is no array and no function
abbrev pub no_value : Value
no_value = Truth false

-- ---- names and statements

-- for an argument of FULL, EMPTY, VALUE, SETE or WAITF that is no variable and no element, and for the end of no DO: six blanks
abbrev pub no_name : Name
no_name = record { asynchronous = false; letters = replicate 6 32 }

-- for a label that no executable statement of the unit has: the index after its last statement
abbrev pub no_index : List Statement → ℕ
no_index unit = length unit

-- ---- arrays

-- for an array that is no dummy argument and has no constant shape
abbrev pub no_shape : Bounds
no_shape = []

abbrev pub no_cells : ℕ
no_cells = 0

-- ---- activations

-- for a dummy argument without an actual argument
abbrev pub no_dummy : Dummy
no_dummy = record { start = common None 0; rest = no_cells; shape = no_shape }

-- for a number that no activation has
abbrev pub no_activation : Activation
no_activation = record { unit = no_unit; parent = None; dummies = [] }

-- for the end of a DO that wasn't begun
abbrev pub no_loop : ℕ → Loop
no_loop d = record { statement = d; count = pos 0; increment = pos 1 }
