use Rattle.hep_machine.specs.Words.{unit_at}
use Rattle.hep_binding.proofs.CommonCells.{common_some}
use Rattle.hep_binding.proofs.ShapableCalls.{call_shapable}
use Rattle.hep_binding.proofs.shape_laws.calls_are_shapable.Goals as goal
use Rattle.hep_image.proofs.Numbers.{unit-there}

pub returns : goal.returns
returns c = λ program s layout contents holes u a room actuals given ds accepted less.
    let there = unit-there program u less in
    call_shapable program u (unit_at program u) there
    (λ x. common_some (unit_at program u) x
    (c.names_stand_for_one_thing.ensures.one program u (unit_at program u) x accepted there)
    (c.arrays_have_shapes.ensures.constant program u (unit_at program u) x accepted there))
    s layout contents holes a room actuals given ds
