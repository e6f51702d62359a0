use Rattle.std.proofs.Common.{◌≡◌, drop, map, ◌++◌}
use Rattle.std.specs.List.{flat_map}
use Rattle.hep_conditions.specs.Words.{indexed_from, ranges_of}
use Rattle.hep_control.specs.Ranges.{do_range, range_at}
use Rattle.hep_control.proofs.ranges.ranges_of.Given as goal

abbrev pub invariant-loop-index : goal.invariant-loop-index
invariant-loop-index l =
    map do_range l.ranges.items ++ flat_map (range_at l.labels) (indexed_from l.index (drop l.index l.labels)) ≡ ranges_of l.labels
