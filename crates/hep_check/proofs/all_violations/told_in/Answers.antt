use Rattle.std.proofs.Common.{◌+◌, drop}
use Rattle.hep_source.proofs.Tests.{drop_at}
use Rattle.hep_check.specs.ViolationLines.{lines_at}
use Rattle.hep_check.specs.AllViolations.{lines_in}
use Rattle.hep_check.proofs.LineSets.{lines-kept}
use Rattle.hep_check.proofs.Walk.{walked}
use Rattle.hep_check.proofs.all_violations.told_in.Goals as goal

pub loop-statement-preserved : goal.loop-statement-preserved
loop-statement-preserved c =
    let program = c.args.program.now in
    let unit = c.args.symbols.now in
    let xs = c.statements-statement-items.result.now in
    let i = c.loop-statement.statement-index in
    let own = c.in_ok-own.ensures in
    let kept = lines-kept program unit c.args.shared.now c.in_ok-own.own c.requires.common c.requires.names own.labels own.structure own.jumps own.values in
    walked program (lines_in program unit) (lines_at c.args.shared.now c.in_ok-own.own) unit c.loop-statement.parameters _ c.loop-statement.told _ c.statement-item.result (drop (i + 1) xs) (drop i xs)
    c.loop-statement.found.items _ _ kept (drop_at xs i c.statement-item.result c.loop-statement-test.true c.statement-item.is) c.loop-statement.invariant
    c.in_ok-add_statement.ensures.found c.in_ok-add_statement.ensures.taken c.in_ok-add_statement.ensures.told
