use Rattle.hep_warnings.proofs.Merging.{turned}
use Rattle.hep_warnings.proofs.merge.merged.Goals as goal

pub loop-warning-preserved : goal.loop-warning-preserved
loop-warning-preserved c =
    turned c.args.first.now c.loop-warning.left.now c.loop-warning.all.items _ _ _ c.loop-warning.warning-index _ c.loop-warning-test.true
    c.in_ok-left.ensures.added c.in_ok-left.ensures.left c.loop-warning.invariant
