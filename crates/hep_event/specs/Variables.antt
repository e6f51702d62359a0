-- The variables of a unit's names: docs/MACHINE.md, "Variables and frames" and "Names and units".
use Rattle.std.specs.Prelude.{◌≡◌, ◌≢◌, ◌<◌, ℕ, List, map, Option, Some, None, slice_get}
use Rattle.hep_code.specs.declared.variable.Variable.{Variable}
use Rattle.hep_image.specs.Places.{variable_of}
use Rattle.hep_machine.specs.Words.{Statement, Units, names_of}
use Rattle.hep_event.specs.declared.variables.Variables.{Variables}

-- those of the names of a unit, in the order of the names
abbrev pub variables_of_names : Units → List Statement → List Variable
variables_of_names program unit = map (variable_of program unit) (names_of unit)

abbrev pub variables_of_units : Units → List (List Variable)
variables_of_units program = map (variables_of_names program) program

-- those of the units of a program
abbrev pub AreVariablesOf : Units → Variables → Type 0
AreVariablesOf program variables = variables.units ≡ variables_of_units program

-- the first index of a variable in a list
abbrev pub IsFirstAmong : List Variable → Variable → Option ℕ → Type 0
IsFirstAmong variables v (Some i) = (slice_get variables i ≡ Some v) × ((k : ℕ) → k < i → slice_get variables k ≢ Some v)
IsFirstAmong variables v None = (k : ℕ) → slice_get variables k ≢ Some v
