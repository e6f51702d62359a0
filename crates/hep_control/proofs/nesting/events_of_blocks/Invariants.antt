use Rattle.std.proofs.Common.{◌≡◌, ◌++◌, drop, map}
use Rattle.hep_control.specs.Nesting.{value_of_range, question_of_block}
use Rattle.hep_control.proofs.nesting.events_of_blocks.Given as goal

abbrev pub invariant-loop-block : goal.invariant-loop-block
invariant-loop-block l = l.events.items ++ map (question_of_block l.unit) (drop l.block-index l.blocks) ≡ map value_of_range l.fn.ranges ++ map (question_of_block l.unit) l.blocks
