use Rattle.hep_step.proofs.Operations.{operation_simulated}
use Rattle.hep_step.proofs.laws.operations_do_what_the_machine_does.Goals as goal

pub returns : goal.returns
returns c = λ r running past done. operation_simulated r running done past
