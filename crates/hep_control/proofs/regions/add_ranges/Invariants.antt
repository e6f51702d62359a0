use Rattle.std.proofs.Common.{◌≡◌, ◌++◌, drop, map}
use Rattle.hep_conditions.specs.Words.{range_region}
use Rattle.hep_control.specs.Jumps.{region}
use Rattle.hep_control.specs.Ranges.{do_range}
use Rattle.hep_control.proofs.regions.add_ranges.Given as goal

abbrev pub invariant-loop-range : goal.invariant-loop-range
invariant-loop-range l =
    map region l.regions.items ++ map range_region (map do_range (drop l.range-index l.ranges))
    ≡ map region l.initial.regions.items ++ map range_region (map do_range l.ranges)
