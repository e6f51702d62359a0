use Rattle.hep_accepted_laws.proofs.Assigned.{values_are_given}
use Rattle.hep_accepted_laws.proofs.initial.values_are_given.Goals as goal

pub returns : goal.returns
returns c = values_are_given
