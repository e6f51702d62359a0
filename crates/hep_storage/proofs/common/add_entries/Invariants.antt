use Rattle.std.proofs.Common.{◌≡◌, ◌++◌, drop}
use Rattle.hep_storage.specs.Lengths as reading
use Rattle.hep_storage.proofs.common.add_entries.Given as goal

abbrev pub invariant-loop-statement : goal.invariant-loop-statement
invariant-loop-statement l = l.entries.items ++ reading.entries_of (drop l.statement-index l.statements) ≡ l.initial.entries.items ++ reading.entries_of l.statements
