use Rattle.hep_binding.proofs.ReadableBounds.{bound_readable, dimensions_readable}
use Rattle.hep_binding.proofs.shape_laws.code_is_readable.Goals as goal

pub returns : goal.returns
returns c = record {
  bound = λ space given unit source sources t. bound_readable space given unit source sources t;
  dimensions = λ space given unit source sources ds. dimensions_readable space given unit source sources ds;
}
