use Rattle.std.proofs.Common.{◌≡◌, ◌++◌, drop, map}
use Rattle.hep_control.specs.Nesting.{value_of_range, question_of_range}
use Rattle.hep_control.proofs.nesting.events_of_ranges.Given as goal

abbrev pub invariant-loop-range : goal.invariant-loop-range
invariant-loop-range l = l.events.items ++ map (question_of_range l.unit) (drop l.range-index l.ranges) ≡ map value_of_range l.ranges ++ map (question_of_range l.unit) l.ranges
