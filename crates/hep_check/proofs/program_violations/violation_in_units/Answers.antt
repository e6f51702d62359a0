use Rattle.std.proofs.Common.{◌+◌, drop}
use Rattle.hep_conditions.specs.Words.{violations_in}
use Rattle.hep_names.proofs.Firsts.{turn}
use Rattle.hep_check.proofs.program_violations.violation_in_units.Goals as goal
use Rattle.hep_source.proofs.Tests.{drop_at}

pub loop-symbols-preserved : goal.loop-symbols-preserved
loop-symbols-preserved c =
    let xs = c.units-symbols-items.result.now in
    let i = c.loop-symbols.symbols-index in
    turn (violations_in c.args.program.now) c.loop-symbols.first c.in_ok-unit_violation.field-0 c.first_of_two-first.result _ c.symbols-item.result (drop i xs) (drop (i + 1) xs)
    c.loop-symbols.invariant c.first_of_two-first.ensures c.in_ok-unit_violation.ensures (drop_at xs i c.symbols-item.result c.loop-symbols-test.true c.symbols-item.is)
