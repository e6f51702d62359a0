-- Types of expressions, as one walk over a tree tells them, and DO variables.
use Rattle.std.specs.Prelude.{Bool, true, ◌&&◌, List}
use Rattle.hep_machine.specs.Words.{Tree, occurrence, ValueType, Statement}
use Rattle.hep_conditions.specs.Words.{FunctionTypes, KnownType, is_of, is_typed}

-- whether an expression is right by itself and has this type
abbrev pub is_typed_by : Bool → ValueType → KnownType → Bool
is_typed_by b t k = b && is_of t k

-- whether an actual argument is right; a name by itself is no operand
abbrev pub is_actual : FunctionTypes → List Statement → Tree → Bool
is_actual functions unit (occurrence p) = true
is_actual functions unit t = is_typed functions unit t
