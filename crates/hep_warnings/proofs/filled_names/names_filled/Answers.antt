use Rattle.hep_warnings.specs.Asynchronous.{names_filled_by}
use Rattle.hep_warnings.proofs.Appending.{appended_item}
use Rattle.hep_warnings.proofs.filled_names.names_filled.Goals as goal

pub loop-statement-preserved : goal.loop-statement-preserved
loop-statement-preserved c =
    appended_item (names_filled_by c.args.symbols.now) c.statements-statement-items.result.now c.loop-statement.statement-index c.statement-item.result c.loop-statement.names.items _ _ c.loop-statement-test.true c.statement-item.is c.in_ok-add_filled.ensures c.loop-statement.invariant
