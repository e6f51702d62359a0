use Rattle.std.proofs.Common.{◌≡◌, ◌++◌, drop}
use Rattle.hep_names.proofs.program.tables_of.Given as goal

abbrev pub invariant-loop-unit : goal.invariant-loop-unit
invariant-loop-unit l = l.tables.items ++ drop l.unit-index l.program ≡ l.program
