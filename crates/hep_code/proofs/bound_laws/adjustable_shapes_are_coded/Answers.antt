use Rattle.hep_code.proofs.Sources.{shaped, source_is, value_found}
use Rattle.hep_code.proofs.bound_laws.adjustable_shapes_are_coded.Goals as goal

pub returns : goal.returns
returns c = record {
  sources = λ scope store cell common dummies stored. record { takes_none = source_is scope.unit cell; has_value = value_found scope store cell common dummies stored };
  shape = λ scope store cell common dummies stored x d. shaped scope store cell common dummies stored x d;
}
