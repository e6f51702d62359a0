use Rattle.hep_explore.specs.Successors.{MakesPureSteps}
use Rattle.hep_explore.proofs.successor.Turns.make_pure_steps.Given as goal

abbrev pub invariant-loop-made : goal.invariant-loop-made
invariant-loop-made l = MakesPureSteps l.fn.image l.fn.p l.fn.machine l.made l.machine
