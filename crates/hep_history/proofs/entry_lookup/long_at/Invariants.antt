use Rattle.std.proofs.Common.{◌≡◌, drop, slice_get}
use Rattle.hep_history.specs.Runs.{entries_of}
use Rattle.hep_history.proofs.entry_lookup.long_at.Given as goal

abbrev pub invariant-loop-run : goal.invariant-loop-run
invariant-loop-run l = slice_get (entries_of l.longs) l.index ≡ slice_get (entries_of (drop l.run-index l.longs)) l.left
