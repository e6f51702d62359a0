use Rattle.std.proofs.Common.{◌≡◌, ◌++◌, drop, map}
use Rattle.hep_why.specs.WaitCycles.{next_of, nexts_of}
use Rattle.hep_why.proofs.wait_graph.nexts_of.Given as goal

abbrev pub invariant-loop-reason : goal.invariant-loop-reason
invariant-loop-reason l = l.nexts.items ++ map (next_of l.reasons) (drop l.reason-index l.reasons) ≡ nexts_of l.reasons
