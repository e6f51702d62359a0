use Rattle.hep_accepted_laws.proofs.Shaped.{arrays_have_shapes, shapes_are_shapes}
use Rattle.hep_accepted_laws.proofs.values.arrays_have_shapes.Goals as goal

pub returns : goal.returns
returns c = record { constant = arrays_have_shapes c.constants_agree.ensures; shape = shapes_are_shapes }
