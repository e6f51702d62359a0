use Rattle.std.proofs.Common.{refl}
use Rattle.hep_code.specs.declared.instruction.Operation.TheVariants.{EndLoop}
use Rattle.hep_step.proofs.Operations.{simulated}
use Rattle.hep_step.proofs.laws.loops_are_ended.Goals as goal

pub returns : goal.returns
returns c = λ x cells inside behind. simulated (EndLoop x cells inside behind) refl
