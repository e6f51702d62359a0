use Rattle.hep_step.proofs.Purges.{purge_simulated}
use Rattle.hep_step.proofs.purge_laws.purges_do_what_the_machine_does.Goals as goal

pub returns : goal.returns
returns c = λ r line count next behind running calls placed ahead. purge_simulated r line count next behind running ahead calls placed
