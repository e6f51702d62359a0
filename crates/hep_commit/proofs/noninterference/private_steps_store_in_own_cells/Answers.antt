use Rattle.hep_commit.proofs.BatchStores.{of-steps}
use Rattle.hep_commit.proofs.noninterference.private_steps_store_in_own_cells.Goals as goal

pub returns : goal.returns
returns c cells all code n own records end have loops is = of-steps cells all have code loops n own records end is
