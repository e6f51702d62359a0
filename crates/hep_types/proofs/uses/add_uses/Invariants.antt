use Rattle.std.proofs.Common.{◌≡◌, ◌++◌, drop}
use Rattle.hep_conditions.specs.Words.{function_types, uses_by}
use Rattle.hep_types.specs.Uses as rows
use Rattle.hep_types.proofs.uses.add_uses.Given as goal

abbrev pub invariant-loop-statement : goal.invariant-loop-statement
invariant-loop-statement l = l.uses.items ++ uses_by (rows.names_by (function_types l.program) l.symbols l.way) (drop l.statement-index l.statement-items) ≡ l.initial.uses.items ++ uses_by (rows.names_by (function_types l.program) l.symbols l.way) l.statement-items
