use Rattle.hep_accepted_laws.proofs.Closed.{units-there}
use Rattle.hep_accepted_laws.proofs.runs.units_are_there.Goals as goal

pub returns : goal.returns
returns c = units-there
