use Rattle.std.proofs.Common.{◌+◌, drop}
use Rattle.std.proofs.lemmas.List.{drop_more}
use Rattle.hep_check.proofs.FirstOfSeveral.{turn}
use Rattle.hep_check.proofs.unit_violations.first_found.Goals as goal

pub loop-violation-preserved : goal.loop-violation-preserved
loop-violation-preserved c =
    let xs = c.args.found.now in
    let i = c.loop-violation.violation-index in
    turn c.loop-violation.first _ c.first_of_two-first.result _ (drop i xs) (drop (i + 1) xs)
    c.loop-violation.invariant c.first_of_two-first.ensures (drop_more xs i _ c.loop-violation-test.true)
