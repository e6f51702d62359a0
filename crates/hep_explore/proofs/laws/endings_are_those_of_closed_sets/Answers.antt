use Rattle.hep_explore.proofs.Closed.{among_ends, ends_among}
use Rattle.hep_explore.proofs.laws.endings_are_those_of_closed_sets.Goals as goal

pub returns-clause-found : goal.returns-clause-found
returns-clause-found c = ends_among

pub returns-clause-real : goal.returns-clause-real
returns-clause-real c = among_ends
