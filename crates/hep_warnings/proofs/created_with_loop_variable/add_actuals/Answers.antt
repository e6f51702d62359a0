use Rattle.hep_warnings.specs.CreatedWithLoopVariable.{actual_warnings}
use Rattle.hep_warnings.proofs.Appending.{appended_item}
use Rattle.hep_warnings.proofs.created_with_loop_variable.add_actuals.Goals as goal

pub loop-actual-preserved : goal.loop-actual-preserved
loop-actual-preserved c =
    appended_item (actual_warnings c.args.around.now c.args.site.line c.args.site.subroutine) c.args.actuals.now c.loop-actual.actual-index c.actual-item.result c.loop-actual.found.items _ _ c.loop-actual-test.true c.actual-item.is c.in_ok-add_actual.ensures c.loop-actual.invariant
