use Rattle.std.proofs.Common.{rules, IfErr}
use Rattle.hep_lower.specs.Refusals.{Refuses}
use Rattle.hep_lower.proofs.Counted.{counted-result}
use Rattle.hep_lower.proofs.program.lower.Goals as goal

pub returns-in_err-tables-clause-counted : goal.returns-in_err-tables-clause-counted
returns-in_err-tables-clause-counted c =
    let program = c.args.checked in
    let wide = c.limits_are_wide.ensures in
    let refused : IfErr c.from_residual.result (Refuses program) = search rules in
    counted-result program (wide.instructions program) (wide.depth program) c.from_residual.result refused
