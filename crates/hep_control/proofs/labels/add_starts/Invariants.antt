use Rattle.std.proofs.Common.{◌≡◌, ◌++◌, drop, map}
use Rattle.hep_control.specs.Jumps.{value_by_start}
use Rattle.hep_control.proofs.labels.add_starts.Given as goal

abbrev pub invariant-loop-region : goal.invariant-loop-region
invariant-loop-region l = l.events.items ++ map value_by_start (drop l.region-index l.regions) ≡ l.initial.events.items ++ map value_by_start l.regions
