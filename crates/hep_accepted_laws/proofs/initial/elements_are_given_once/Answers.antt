use Rattle.hep_accepted_laws.proofs.Assigned.{elements_are_given_once}
use Rattle.hep_accepted_laws.proofs.initial.elements_are_given_once.Goals as goal

pub returns : goal.returns
returns c = elements_are_given_once c.constants_agree.ensures
