use Rattle.std.proofs.Common.{refl}
use Rattle.hep_conditions.specs.Words.{bounded_names, common_names, typed_names}
use Rattle.hep_accepted_laws.proofs.NameMeanings.{constants_once, dummies_once, name_once}
use Rattle.hep_accepted_laws.proofs.names.names_are_given_once.Goals as goal

pub returns : goal.returns
returns c = record {
  dummies = dummies_once;
  constants = constants_once;
  types = name_once typed_names 1 refl;
  bounds = name_once bounded_names 2 refl;
  positions = name_once common_names 3 refl;
}
