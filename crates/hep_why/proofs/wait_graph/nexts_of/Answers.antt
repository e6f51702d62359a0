use Rattle.std.proofs.Common.{arith}
use Rattle.std.proofs.lemmas.Grind.{common_steps}
use Rattle.hep_why.proofs.wait_graph.nexts_of.Goals as goal

pub loop-reason-preserved : goal.loop-reason-preserved
loop-reason-preserved c =
    let is = c.next_of_change.ensures c.args.reasons.now c.in_ok-indexes.ensures in
    grind (arith, common_steps)
