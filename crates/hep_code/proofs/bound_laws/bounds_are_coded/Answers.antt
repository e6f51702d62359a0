use Rattle.hep_code.proofs.BoundValues.{none_comes, some_comes, value_comes}
use Rattle.hep_code.proofs.bound_laws.bounds_are_coded.Goals as goal

pub returns : goal.returns
returns c = record {
  none = λ unit source values common dummies sources t more stack h. none_comes common dummies unit source values sources.takes_none sources.has_value t more stack h;
  some = λ unit source values common dummies sources t more stack v h. some_comes common dummies unit source values sources.takes_none sources.has_value t more stack v h;
  value = λ unit source values common dummies sources t. value_comes common dummies unit source values sources.takes_none sources.has_value t;
}
