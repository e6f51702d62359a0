use Rattle.std.proofs.Common.{◌≡◌, ◌++◌, drop}
use Rattle.hep_storage.specs.DataNames.{places_of, are_known}
use Rattle.hep_storage.specs.Runs.{positions_in}
use Rattle.hep_storage.proofs.data_groups.known.Given as goal

abbrev pub invariant-loop-run : goal.invariant-loop-run
invariant-loop-run l =
    (positions_in l.runs.items ++ places_of (drop l.run-index l.found) ≡ places_of l.found) × (are_known (drop l.run-index l.found) ≡ are_known l.found)
