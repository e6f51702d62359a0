use Rattle.std.proofs.Common.{◌≡◌, ◌++◌, drop}
use Rattle.hep_places.specs.StorageStarts as found
use Rattle.hep_places.proofs.block_offsets.entries_of.Given as goal

abbrev pub invariant-loop-statement : goal.invariant-loop-statement
invariant-loop-statement l = l.entries.items ++ found.entries_of (drop l.statement-index l.statements) ≡ found.entries_of l.statements
