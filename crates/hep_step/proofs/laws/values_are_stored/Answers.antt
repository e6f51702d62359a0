use Rattle.std.proofs.Common.{refl}
use Rattle.hep_code.specs.declared.instruction.Operation.TheVariants.{Store}
use Rattle.hep_step.proofs.Operations.{simulated}
use Rattle.hep_step.proofs.laws.values_are_stored.Goals as goal

pub returns : goal.returns
returns c = λ x n next. simulated (Store x n next) refl
