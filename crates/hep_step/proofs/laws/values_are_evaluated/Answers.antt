use Rattle.std.proofs.Common.{refl}
use Rattle.hep_code.specs.declared.instruction.Operation.TheVariants.{Evaluate}
use Rattle.hep_step.proofs.Operations.{simulated}
use Rattle.hep_step.proofs.laws.values_are_evaluated.Goals as goal

pub returns : goal.returns
returns c = λ e. simulated (Evaluate e) refl
