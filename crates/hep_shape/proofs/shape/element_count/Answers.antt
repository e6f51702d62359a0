use Rattle.std.proofs.Common.{◌<◌, ◌*◌, ◌^◌, sym, arith}
use Rattle.hep_shape.proofs.Counts.{past_count}
use Rattle.hep_shape.proofs.Extents.{wide_product}
use Rattle.hep_shape.proofs.shape.element_count.Goals as goal

pub overflow_mul-count : goal.overflow_mul-count
overflow_mul-count c =
    let fits : c.loop-bound.count * c.in_ok-count.field-0 < 2 ^ 128 =
    wide_product c.loop-bound.count c.in_ok-count.field-0 c.loop-bound.invariant.few c.in_ok-count.ensures.bounded in
    omega arith

pub returns-then-count-from : goal.returns-then-count-from
returns-then-count-from c = sym (past_count c.args.bounds.now c.loop-bound.bound-index _ c.loop-bound.count c.in_ok-count.field-0 (omega arith) c.loop-bound.invariant.dimensions c.loop-bound.invariant.so_far (sym c.in_ok-count.ensures.size) (omega arith))
