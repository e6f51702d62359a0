use Rattle.hep_accepted_laws.proofs.NameMeanings.{one_thing, constant_is_scalar}
use Rattle.hep_accepted_laws.proofs.names.names_stand_for_one_thing.Goals as goal

pub returns : goal.returns
returns c = record { one = one_thing; scalar = constant_is_scalar }
