use Rattle.std.proofs.Common.{◌≡◌, ◌+◌, ◌*◌, ◌^◌, ◌≤◌, drop, length}
use Rattle.hep_storage.specs.Runs.{positions_in}
use Rattle.hep_storage.proofs.runs.place_count.Given as goal

abbrev pub invariant-loop-run : goal.invariant-loop-run
invariant-loop-run l =
    (l.count + length (positions_in (drop l.run-index l.runs)) ≡ length (positions_in l.runs)) × (l.count ≤ l.run-index * 2 ^ 64)
