use Rattle.hep_warnings.specs.UnusedNames.{name_warnings_by}
use Rattle.hep_warnings.proofs.Appending.{appended_item}
use Rattle.hep_warnings.proofs.unused_names.add_statements.Goals as goal

pub loop-statement-preserved : goal.loop-statement-preserved
loop-statement-preserved c =
    appended_item (name_warnings_by c.args.unit.now) c.args.statements.now c.loop-statement.statement-index c.statement-item.result c.loop-statement.found.items _ _ c.loop-statement-test.true c.statement-item.is c.in_ok-add_statement.ensures c.loop-statement.invariant
