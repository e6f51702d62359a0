use Rattle.std.proofs.Common.{◌≡◌, ◌++◌, drop, map}
use Rattle.hep_control.specs.Jumps.{value_by_start, question_by_start}
use Rattle.hep_control.proofs.labels.events_by_start.Given as goal

abbrev pub invariant-loop-jump : goal.invariant-loop-jump
invariant-loop-jump l = l.events.items ++ map question_by_start (drop l.jump-index l.jumps) ≡ map value_by_start l.fn.regions ++ map question_by_start l.jumps
