use Rattle.std.proofs.Common.{◌≡◌, ◌++◌, drop}
use Rattle.std.specs.List.{filter}
use Rattle.hep_conditions.specs.Words.{function_types}
use Rattle.hep_types.specs.Uses.{is_variable}
use Rattle.hep_types.proofs.uses.variables_among.Given as goal

abbrev pub invariant-loop-name : goal.invariant-loop-name
invariant-loop-name l = l.found.items ++ filter (is_variable (function_types l.program) l.symbols) (drop l.name-index l.names) ≡ filter (is_variable (function_types l.program) l.symbols) l.names
