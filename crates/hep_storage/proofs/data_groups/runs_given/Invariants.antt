use Rattle.std.proofs.Common.{◌≡◌, ◌++◌, drop, map}
use Rattle.hep_storage.specs.DataGroups.{run_given}
use Rattle.hep_storage.proofs.data_groups.runs_given.Given as goal

abbrev pub invariant-loop-value : goal.invariant-loop-value
invariant-loop-value l = l.runs.items ++ map (run_given l.constants) (drop l.value-index l.values) ≡ map (run_given l.constants) l.values
