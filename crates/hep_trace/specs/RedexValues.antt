-- The result of an operation: docs/RUNS.md, "What each step did".
use Rattle.std.specs.Prelude.{Option, Some, None, Ok, Err}
use Rattle.hep_code.specs.Words.{Reply, accessed, result}
use Rattle.hep_machine.specs.Access.{Outcome, gives, makes}
use Rattle.hep_machine.specs.Words.{Value}

-- the value that it gives or stores
abbrev pub value_come : Outcome → Option Value
value_come (gives v) = Some v
value_come (makes v cell) = Some v
value_come _ = None

abbrev pub value_replied : Reply → Option Value
value_replied (result (Ok v)) = Some v
value_replied (result (Err k)) = None
value_replied (accessed at outcome) = value_come outcome
