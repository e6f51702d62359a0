use Rattle.std.proofs.Common.{◌≡◌, ◌++◌, drop, map}
use Rattle.hep_storage.specs.DataNames.{run_named}
use Rattle.hep_storage.proofs.data_groups.runs_named.Given as goal

abbrev pub invariant-loop-one : goal.invariant-loop-one
invariant-loop-one l = l.runs.items ++ map (run_named l.symbols) (drop l.one-index l.named) ≡ map (run_named l.symbols) l.named
