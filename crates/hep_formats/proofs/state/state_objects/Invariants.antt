use Rattle.std.proofs.Common.{◌≡◌, ◌++◌, length}
use Rattle.hep_text.specs.Line.{lines}
use Rattle.hep_formats.specs.StateObjects.{objects_from, state_objects}
use Rattle.hep_formats.proofs.state.state_objects.Given as goal

abbrev pub decreases-loop-rest : goal.decreases-loop-rest
decreases-loop-rest l = length l.rest

abbrev pub invariant-loop-rest : goal.invariant-loop-rest
invariant-loop-rest l = l.text.items ++ objects_from l.owner.items (lines l.rest) ≡ state_objects l.fn.state
