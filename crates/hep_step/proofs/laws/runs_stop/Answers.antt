use Rattle.std.proofs.Common.{refl}
use Rattle.hep_code.specs.declared.instruction.Operation.TheVariants.{Stop}
use Rattle.hep_step.proofs.Operations.{simulated}
use Rattle.hep_step.proofs.laws.runs_stop.Goals as goal

pub returns : goal.returns
returns c = simulated Stop refl
