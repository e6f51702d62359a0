use Rattle.hep_accepted_laws.proofs.Assigned.{places_are_local, places_are_there}
use Rattle.hep_accepted_laws.proofs.initial.places_are_local.Goals as goal

pub returns : goal.returns
returns c = record { local = places_are_local; elements = places_are_there c.constants_agree.ensures }
