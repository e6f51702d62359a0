use Rattle.hep_why.specs.CycleMarks.{HaveWalked}
use Rattle.hep_why.proofs.wait_cycles.firsts.Given as goal

abbrev pub invariant-loop-first : goal.invariant-loop-first
invariant-loop-first l = HaveWalked l.nexts l.visits.items l.noted.items l.first
