use Rattle.hep_explore.proofs.Closed.{has_all}
use Rattle.hep_explore.proofs.laws.closed_sets_have_reachable_states.Goals as goal

pub returns : goal.returns
returns c = has_all
