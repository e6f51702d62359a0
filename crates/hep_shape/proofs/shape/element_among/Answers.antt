use Rattle.std.proofs.Common.{sym, ap}
use Rattle.hep_machine.specs.Words.{sum}
use Rattle.hep_shape.proofs.Columns.{counted, other_length}
use Rattle.hep_shape.proofs.shape.element_among.Goals as goal

pub returns-then-subscripts-bounds : goal.returns-then-subscripts-bounds
returns-then-subscripts-bounds c = sym (ap (λ o. counted (sum 1 o)) (other_length 1 c.args.bounds.now c.args.subscripts.now c.if-subscripts-bounds.true))
