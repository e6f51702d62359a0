use Rattle.hep_accepted_laws.proofs.Assigned.{values_fit}
use Rattle.hep_accepted_laws.proofs.initial.values_fit.Goals as goal

pub returns : goal.returns
returns c = values_fit c.constants_agree.ensures
