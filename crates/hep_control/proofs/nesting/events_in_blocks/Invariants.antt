use Rattle.std.proofs.Common.{◌≡◌, ◌++◌, drop, map}
use Rattle.std.specs.List.{flat_map}
use Rattle.hep_control.specs.Nesting.{values_in, question_in_range}
use Rattle.hep_control.proofs.nesting.events_in_blocks.Given as goal

abbrev pub invariant-loop-range : goal.invariant-loop-range
invariant-loop-range l =
    l.events.items ++ map (question_in_range l.unit) (drop l.range-index l.ranges) ≡ flat_map values_in l.fn.blocks ++ map (question_in_range l.unit) l.ranges
