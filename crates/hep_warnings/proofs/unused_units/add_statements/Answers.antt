use Rattle.hep_warnings.specs.UnusedUnits.{names_used_by}
use Rattle.hep_warnings.proofs.Appending.{appended_item}
use Rattle.hep_warnings.proofs.unused_units.add_statements.Goals as goal

pub loop-statement-preserved : goal.loop-statement-preserved
loop-statement-preserved c =
    appended_item (names_used_by c.args.symbols.now) c.statements-statement-items.result.now c.loop-statement.statement-index c.statement-item.result c.loop-statement.used.items _ _ c.loop-statement-test.true c.statement-item.is c.in_ok-add_statement.ensures c.loop-statement.invariant
