use Rattle.hep_machine.specs.Words.{occurrences_in}
use Rattle.hep_warnings.proofs.Appending.{appended_item}
use Rattle.hep_warnings.proofs.filled_names.add_in_all.Goals as goal

pub loop-expression-preserved : goal.loop-expression-preserved
loop-expression-preserved c =
    appended_item (occurrences_in c.args.symbols.now) c.args.expressions.now c.loop-expression.expression-index c.expression-item.result c.loop-expression.found.items _ _ c.loop-expression-test.true c.expression-item.is c.in_ok-add_in_expression.ensures c.loop-expression.invariant
