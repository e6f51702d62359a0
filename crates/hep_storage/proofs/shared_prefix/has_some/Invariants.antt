use Rattle.std.proofs.Common.{◌≡◌, drop}
use Rattle.hep_machine.specs.Words.{is_nonempty}
use Rattle.hep_storage.specs.Runs.{positions_in}
use Rattle.hep_storage.proofs.shared_prefix.has_some.Given as goal

abbrev pub invariant-loop-run : goal.invariant-loop-run
invariant-loop-run l = is_nonempty (positions_in (drop l.run-index l.runs)) ≡ is_nonempty (positions_in l.runs)
