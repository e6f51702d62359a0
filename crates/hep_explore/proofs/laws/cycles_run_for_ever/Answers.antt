use Rattle.hep_explore.proofs.Cycles.{for_ever}
use Rattle.hep_explore.proofs.laws.cycles_run_for_ever.Goals as goal

pub returns : goal.returns
returns c = for_ever
