use Rattle.std.proofs.Common.{arith}
use Rattle.hep_text.specs.Progress.{started}
use Rattle.hep_text.proofs.Text.{one_column, all_columns}
use Rattle.hep_text.proofs.reading.take_text.Goals as goal

pub loop-index-preserved : goal.loop-index-preserved
loop-index-preserved c =
    one_column (started c.loop-index.pending) (started c.take_character.new.pending) c.loop-index.index c.args.number c.args.body.now _ (omega arith) (rw (← c.column.ensures) c.in_ok-take_character.ensures.ok) c.loop-index.invariant

pub returns-clause-ok : goal.returns-clause-ok
returns-clause-ok c =
    all_columns (started c.loop-index.pending) c.loop-index.index c.args.number c.args.body.now _ (omega arith) c.loop-index.invariant
