use Rattle.std.proofs.Common.{◌≡◌, ◌++◌, drop}
use Rattle.std.specs.List.{flat_map}
use Rattle.hep_conditions.specs.Words.{function_types}
use Rattle.hep_types.specs.Uses as rows
use Rattle.hep_types.proofs.uses.uses_in_program.Given as goal

abbrev pub invariant-loop-symbols : goal.invariant-loop-symbols
invariant-loop-symbols l = l.uses.items ++ flat_map (rows.uses_of (function_types l.program) l.way) (drop l.symbols-index l.symbols-items) ≡ flat_map (rows.uses_of (function_types l.program) l.way) l.symbols-items
