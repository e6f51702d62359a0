use Rattle.hep_warnings.specs.UnusedLabels.{labels_used}
use Rattle.hep_warnings.proofs.Appending.{appended_item}
use Rattle.hep_warnings.proofs.unused_labels.labels_used.Goals as goal

pub loop-statement-preserved : goal.loop-statement-preserved
loop-statement-preserved c =
    appended_item labels_used c.args.unit.now c.loop-statement.statement-index c.statement-item.result c.loop-statement.used.items _ _ c.loop-statement-test.true c.statement-item.is c.in_ok-add_used.ensures c.loop-statement.invariant
