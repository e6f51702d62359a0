use Rattle.hep_warnings.specs.Asynchronous.{reads_in}
use Rattle.hep_warnings.proofs.Appending.{appended_item}
use Rattle.hep_warnings.proofs.filled_names.names_read.Goals as goal

pub loop-statement-preserved : goal.loop-statement-preserved
loop-statement-preserved c =
    appended_item (reads_in c.args.symbols.now) c.statements-statement-items.result.now c.loop-statement.statement-index c.statement-item.result c.loop-statement.found.items _ _ c.loop-statement-test.true c.statement-item.is c.in_ok-add_reads.ensures c.loop-statement.invariant
