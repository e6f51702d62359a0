use Rattle.std.proofs.Common.{refl}
use Rattle.hep_code.specs.declared.instruction.Operation.TheVariants.{EnterLoop}
use Rattle.hep_step.proofs.Operations.{simulated}
use Rattle.hep_step.proofs.laws.loops_are_entered.Goals as goal

pub returns : goal.returns
returns c = λ x cells inside behind. simulated (EnterLoop x cells inside behind) refl
