use Rattle.std.proofs.Common.{◌+◌, drop}
use Rattle.hep_machine.specs.Words.{Statement}
use Rattle.hep_conditions.specs.Words.{letter_ranges_in}
use Rattle.hep_types.specs.AmbiguityLines.{ranges_at}
use Rattle.hep_names.proofs.Firsts.{grow}
use Rattle.hep_types.proofs.letters.letter_ranges.Goals as goal
use Rattle.hep_source.proofs.Tests.{drop_at}

pub loop-statement-preserved : goal.loop-statement-preserved
loop-statement-preserved c =
    let ss = c.args.unit.now in
    let i = c.loop-statement.statement-index in
    grow (λ (s : Statement). ranges_at s.line (letter_ranges_in s.form)) c.loop-statement.found.items c.add_in.new.found.items _ c.statement-item.result (drop i ss) (drop (i + 1) ss)
    c.loop-statement.invariant c.in_ok-add_in.ensures (drop_at ss i c.statement-item.result c.loop-statement-test.true c.statement-item.is)
