use Rattle.hep_storage.proofs.CommonPrefixes.{meet-turn, parted-here}
use Rattle.hep_storage.proofs.runs.meet.Goals as goal

pub returns-then-differ-clause-parted : goal.returns-then-differ-clause-parted
returns-then-differ-clause-parted c = λ lt mt.
    parted-here c.loop-at.at c.loop-at.to c.args.first.now c.args.second.now _ _ c.min-step.result c.differ.result lt mt c.min-step.ensures c.differ.ensures c.if-differ.true

pub loop-at-preserved : goal.loop-at-preserved
loop-at-preserved c =
    meet-turn c.loop-at.at c.loop-at.to c.after-at.result c.after-to.result c.args.first.now c.args.second.now _ _ c.min-step.result c.differ.result
    c.loop-at-test.true c.if-to-second.true c.loop-at.invariant c.min-step.ensures c.differ.ensures c.if-differ.false c.after-at.ensures c.after-to.ensures
