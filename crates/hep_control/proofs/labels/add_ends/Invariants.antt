use Rattle.std.proofs.Common.{◌≡◌, ◌++◌, drop, map}
use Rattle.hep_control.specs.Jumps.{value_by_end}
use Rattle.hep_control.proofs.labels.add_ends.Given as goal

abbrev pub invariant-loop-region : goal.invariant-loop-region
invariant-loop-region l = l.events.items ++ map value_by_end (drop l.region-index l.regions) ≡ l.initial.events.items ++ map value_by_end l.regions
