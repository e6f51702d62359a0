use Rattle.std.proofs.Common.{ℕ}
use Rattle.hep_why.specs.CycleMarks.{IsIn}
use Rattle.hep_why.proofs.CycleWalks.{IsAlong}
use Rattle.hep_why.proofs.wait_cycles.least_from.Given as goal

abbrev pub invariant-loop : goal.invariant-loop
invariant-loop l = (first : ℕ) (h : IsIn l.nexts first l.start) → IsAlong l.nexts first l.start h l.counter l.at l.least
