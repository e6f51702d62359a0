use Rattle.hep_control.proofs.InnermostLoops.{Passed}
use Rattle.hep_control.proofs.loops.loops_of.Given as goal

abbrev pub invariant-loop-index : goal.invariant-loop-index
invariant-loop-index l = Passed l.labels l.index l.innermost.items l.outer.items
