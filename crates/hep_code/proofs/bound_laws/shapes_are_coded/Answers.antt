use Rattle.hep_code.proofs.Dimensions.{shape_comes}
use Rattle.hep_code.proofs.bound_laws.shapes_are_coded.Goals as goal

pub returns : goal.returns
returns c = λ unit source values common dummies sources x. shape_comes common dummies unit source values sources.takes_none sources.has_value x
