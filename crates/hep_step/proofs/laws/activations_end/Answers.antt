use Rattle.std.proofs.Common.{refl}
use Rattle.hep_code.specs.declared.instruction.Operation.TheVariants.{Answer, Return}
use Rattle.hep_step.proofs.Operations.{simulated}
use Rattle.hep_step.proofs.laws.activations_end.Goals as goal

pub returns : goal.returns
returns c = record { subroutine = simulated Return refl; function = λ x. simulated (Answer x) refl }
