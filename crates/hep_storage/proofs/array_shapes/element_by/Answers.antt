use Rattle.std.proofs.Common.{◌≡◌, false, nat_eq, length, ap, arith}
use Rattle.std.proofs.lemmas.Bool.Decides.{nat_tests}
use Rattle.hep_machine.specs.Words.{sum}
use Rattle.hep_shape.proofs.Columns.{other_length}
use Rattle.hep_storage.proofs.array_shapes.element_by.Goals as goal

pub returns-then-len : goal.returns-then-len
returns-then-len c =
    let bs = c.args.shape.now.bounds.items in
    let ss = c.args.subscripts.items in
    let differ : nat_eq (length bs) (length ss) ≡ false = grind (arith, nat_tests) in
    (differ, ap (sum 1) (other_length 1 bs ss (λ e. omega (arith, e))))
