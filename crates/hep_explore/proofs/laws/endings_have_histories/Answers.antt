use Rattle.hep_explore.proofs.Finished.{has_history}
use Rattle.hep_explore.proofs.laws.endings_have_histories.Goals as goal

pub returns : goal.returns
returns c = has_history
