use Rattle.hep_explore.proofs.Finished.{finished_ends}
use Rattle.hep_explore.proofs.laws.finished_histories_end.Goals as goal

pub returns : goal.returns
returns c = finished_ends
