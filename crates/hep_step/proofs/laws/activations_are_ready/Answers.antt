use Rattle.hep_step.proofs.ReadySteps.{is_ready}
use Rattle.hep_step.proofs.laws.activations_are_ready.Goals as goal

pub returns : goal.returns
returns c = λ r capacity running placed few room. is_ready r running placed capacity room few
