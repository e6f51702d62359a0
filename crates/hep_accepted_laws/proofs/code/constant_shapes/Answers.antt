use Rattle.hep_machine.specs.Words.{unit_at}
use Rattle.hep_accepted_laws.proofs.Shapes.{constant_shapes}
use Rattle.hep_accepted_laws.proofs.code.constant_shapes.Goals as goal
use Rattle.hep_image.proofs.Numbers.{unit-there}

pub returns : goal.returns
returns c = λ program u x accepted h array e. constant_shapes c.constants_agree.ensures program u (unit_at program u) x accepted (unit-there program u h) array e
