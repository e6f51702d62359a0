use Rattle.std.proofs.Common.{◌≡◌, ◌++◌, drop, map}
use Rattle.hep_control.specs.Nesting.{value_of_range}
use Rattle.hep_control.proofs.nesting.add_ranges.Given as goal

abbrev pub invariant-loop-range : goal.invariant-loop-range
invariant-loop-range l = l.events.items ++ map value_of_range (drop l.range-index l.ranges) ≡ l.initial.events.items ++ map value_of_range l.ranges
