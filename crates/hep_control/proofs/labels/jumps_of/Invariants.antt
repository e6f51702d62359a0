use Rattle.std.proofs.Common.{◌≡◌, ◌++◌, drop, map}
use Rattle.std.specs.List.{flat_map}
use Rattle.hep_conditions.specs.Words.{indexed_from}
use Rattle.hep_control.specs.Jumps.{leap, leaps_at, leaps_of}
use Rattle.hep_control.proofs.labels.jumps_of.Given as goal

abbrev pub invariant-loop-index : goal.invariant-loop-index
invariant-loop-index l = map leap l.jumps.items ++ flat_map (leaps_at l.labels) (indexed_from l.index (drop l.index l.labels)) ≡ leaps_of l.labels
