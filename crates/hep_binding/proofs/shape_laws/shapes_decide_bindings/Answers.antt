use Rattle.hep_machine.specs.Words.{unit_at}
use Rattle.hep_binding.proofs.BoundDummies.{fit_bound, unfit_faults}
use Rattle.hep_binding.proofs.CommonCells.{common_some}
use Rattle.hep_binding.proofs.shape_laws.shapes_decide_bindings.Goals as goal
use Rattle.hep_image.proofs.Numbers.{unit-there}

pub returns-clause-fit : goal.returns-clause-fit
returns-clause-fit c = λ program s layout contents u a scope actuals given ds accepted less frameless holds gives bound.
    let there = unit-there program u less in
    fit_bound program u (unit_at program u) there
    (λ x is none. let known = c.constant_shapes.ensures program u x accepted less is none in (known.0, known.1))
    (λ x. common_some (unit_at program u) x
    (c.names_stand_for_one_thing.ensures.one program u (unit_at program u) x accepted there)
    (c.arrays_have_shapes.ensures.constant program u (unit_at program u) x accepted there))
    s layout contents a scope actuals given ds
    (λ i j x. c.names_are_given_once.ensures.dummies program u i j (unit_at program u) x accepted there)
    frameless holds gives bound

pub returns-clause-unfit : goal.returns-clause-unfit
returns-clause-unfit c = λ program s layout contents u a scope actuals given ds accepted less frameless holds gives bound.
    let there = unit-there program u less in
    unfit_faults program u (unit_at program u) there
    (λ x is none. let known = c.constant_shapes.ensures program u x accepted less is none in (known.0, known.1))
    (λ x. common_some (unit_at program u) x
    (c.names_stand_for_one_thing.ensures.one program u (unit_at program u) x accepted there)
    (c.arrays_have_shapes.ensures.constant program u (unit_at program u) x accepted there))
    s layout contents a scope actuals given ds
    (λ i j x. c.names_are_given_once.ensures.dummies program u i j (unit_at program u) x accepted there)
    frameless holds gives bound
