use Rattle.std.proofs.Common.{length}
use Rattle.hep_why.proofs.CycleLists.{circles-turn}
use Rattle.hep_why.proofs.wait_cycles.circles_of.Goals as goal

pub loop-index-preserved : goal.loop-index-preserved
loop-index-preserved c =
    circles-turn c.args.nexts.now c.loop-index.index (length c.args.nexts.now) _ _ _
    c.loop-index-test.true c.loop-index.invariant c.in_ok-add_circle.ensures
