use Rattle.std.proofs.Common.{refl, true≢false, sym}
use Rattle.hep_private.specs.OwnState.{begun}
use Rattle.hep_private.proofs.Dependence.{have-read, same-steps}
use Rattle.hep_private.proofs.step_laws.private_steps_depend_on_reads.Goals as goal

pub returns-clause-read : goal.returns-clause-read
returns-clause-read c cells code n index operands values records end is = have-read cells code values n (begun index operands values) records end (λ d out. refl) is

pub returns-clause-same : goal.returns-clause-same
returns-clause-same c cells code n index operands values others records end is had =
    same-steps cells code others n (begun index operands values) others records end (λ d among. absurd (true≢false (sym among))) (λ d out. refl) had is
