use Rattle.std.proofs.Common.{◌≡◌, ◌++◌, drop}
use Rattle.std.specs.List.{filter}
use Rattle.hep_conditions.specs.Words.{function_types, is_function_in}
use Rattle.hep_types.proofs.uses.functions_among.Given as goal

abbrev pub invariant-loop-name : goal.invariant-loop-name
invariant-loop-name l = l.found.items ++ filter (is_function_in (function_types l.program) l.symbols) (drop l.name-index l.names) ≡ filter (is_function_in (function_types l.program) l.symbols) l.names
