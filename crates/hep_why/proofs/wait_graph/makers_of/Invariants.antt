use Rattle.std.proofs.Common.{◌≡◌, ◌++◌, drop, map}
use Rattle.hep_why.specs.Lines.{makers_wait}
use Rattle.hep_why.proofs.wait_graph.makers_of.Given as goal

abbrev pub invariant-loop-reason : goal.invariant-loop-reason
invariant-loop-reason l = l.makers.items ++ map (makers_wait l.reasons) (drop l.reason-index l.reasons) ≡ map (makers_wait l.reasons) l.reasons
