use Rattle.hep_why.proofs.CycleWalks.{IsWalking}
use Rattle.hep_why.proofs.wait_cycles.walk.Given as goal

abbrev pub invariant-loop : goal.invariant-loop
invariant-loop l = IsWalking l.nexts l.initial.visits.items l.visits.items l.first l.at
