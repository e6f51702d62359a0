use Rattle.std.proofs.Common.{◌+◌, drop}
use Rattle.hep_names.specs.Parts.{unknown_in}
use Rattle.hep_names.proofs.Firsts.{turn}
use Rattle.hep_names.proofs.unknown_names.unknown_name_violation.Goals as goal
use Rattle.hep_source.proofs.Tests.{drop_at}

pub loop-statement-preserved : goal.loop-statement-preserved
loop-statement-preserved c =
    let xs = c.statements-statement-items.result.now in
    let i = c.loop-statement.statement-index in
    turn (unknown_in c.args.program.now c.args.symbols.now) c.loop-statement.first c.in_ok-unknown_in.field-0 c.first_of_two-first.result _ c.statement-item.result (drop i xs) (drop (i + 1) xs)
    c.loop-statement.invariant c.first_of_two-first.ensures c.in_ok-unknown_in.ensures (drop_at xs i c.statement-item.result c.loop-statement-test.true c.statement-item.is)
