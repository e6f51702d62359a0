use Rattle.std.proofs.Common.{refl}
use Rattle.hep_code.specs.declared.instruction.Operation.TheVariants.{Print}
use Rattle.hep_step.proofs.Operations.{simulated}
use Rattle.hep_step.proofs.laws.records_are_printed.Goals as goal

pub returns : goal.returns
returns c = λ count next. simulated (Print count next) refl
