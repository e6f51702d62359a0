-- The functions of a program, as its tables have them: X3.9-1978, 15.5.
use Rattle.std.specs.Prelude.{Option, Some, None}
use Rattle.std.specs.Borrow.{Bor}
use Rattle.hep_machine.specs.Words.{Units}
use Rattle.hep_conditions.specs.Words.{FunctionTypes, function_types, no_functions}

-- the types of the functions of a program; without a program, as for constant expressions, there are none
abbrev pub functions_of : Option (Bor Units) → FunctionTypes
functions_of None = no_functions
functions_of (Some p) = function_types p.now
