use Rattle.std.proofs.Common.{◌≡◌, ◌++◌, drop, map}
use Rattle.hep_control.specs.Jumps.{value_by_end, question_by_end}
use Rattle.hep_control.proofs.labels.events_by_end.Given as goal

abbrev pub invariant-loop-jump : goal.invariant-loop-jump
invariant-loop-jump l = l.events.items ++ map question_by_end (drop l.jump-index l.jumps) ≡ map value_by_end l.fn.regions ++ map question_by_end l.jumps
