use Rattle.std.proofs.Common.{◌≡◌, drop}
use Rattle.hep_conditions.specs.Words.{function_types, no_parameters, least_line}
use Rattle.hep_types.specs.Passes.{least_untyped}
use Rattle.hep_types.proofs.violation.least_untyped.Given as goal

abbrev pub invariant-loop-statement : goal.invariant-loop-statement
invariant-loop-statement l = least_line l.least (least_untyped (function_types l.program) l.symbols l.parameters (drop l.statement-index l.statement-items)) ≡ least_untyped (function_types l.program) l.symbols no_parameters l.statement-items
