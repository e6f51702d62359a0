use Rattle.std.proofs.Common.{◌≡◌, None, OnOk, subst}
use Rattle.hep_conditions.proofs.First.{none_reported}
use Rattle.hep_conditions.specs.Words.{first_violation, violations}
use Rattle.hep_check.proofs.checked.judge_further.Goals as goal

pub new-requires-clause-accepted : goal.new-requires-clause-accepted
new-requires-clause-accepted c =
    let program = c.args.program in
    none_reported (violations program) (subst (λ found. OnOk found (first_violation program ≡ None)) c.in-Ok.is c.in_ok-cells.ensures.accepted)
