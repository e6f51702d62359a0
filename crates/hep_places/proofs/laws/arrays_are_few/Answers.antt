use Rattle.std.proofs.Common.{arith}
use Rattle.hep_machine.specs.Words.{unit_at}
use Rattle.hep_places.proofs.Accepted.{sized-by}
use Rattle.hep_places.proofs.FewCells.{arrays-few}
use Rattle.hep_places.proofs.laws.arrays_are_few.Goals as goal
use Rattle.hep_image.proofs.Numbers.{unit-there}

pub returns : goal.returns
returns c = λ program u accepted inside small few.
    let unit = unit_at program u in
    let there = unit-there program u inside in
    let count = arrays-few program u unit there (λ i x e. c.arrays_are_there.ensures.unit program u i x accepted inside e) (λ x h i. sized-by unit x i (λ d. c.arrays_have_shapes.ensures.constant program u unit x accepted there h d)) in
    omega (arith, count, small, few)
