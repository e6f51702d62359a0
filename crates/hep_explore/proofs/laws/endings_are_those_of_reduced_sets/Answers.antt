use Rattle.hep_explore.proofs.Closed.{ends_among_up_to}
use Rattle.hep_explore.proofs.laws.endings_are_those_of_reduced_sets.Goals as goal

pub returns : goal.returns
returns c program independent states are closed = ends_among_up_to program independent states are closed
