use Rattle.std.proofs.Common.{◌≡◌, ◌+◌, ◌*◌, [], ◌∷◌, ◌++◌, length, suc, ap, ◌∙◌, arith}
use Rattle.hep_machine.specs.declared.shape.Bound.{Bound}
use Rattle.hep_machine.specs.Words.{Bounds}
use Rattle.hep_image.specs.Addressing.{bounds_from, cells_in}
use Rattle.hep_step.specs.Cells.{bound_in}
use Rattle.hep_step.proofs.Elements.{bounds_more, length_bounds}
use Rattle.hep_step.proofs.frame.bounds.Goals as goal

pub push-requires : goal.push-requires
push-requires c =
    let cells = cells_in c.args.arena.now.contents in
    let count : length c.loop-dimension.bounds.items ≡ c.loop-dimension.dimension =
    ap (λ (bs : Bounds). length bs) c.loop-dimension.invariant ∙ length_bounds cells c.args.frame.first c.args.cells c.loop-dimension.dimension in
    (omega arith, omega (arith, count))

pub loop-dimension-preserved : goal.loop-dimension-preserved
loop-dimension-preserved c =
    let cells = cells_in c.args.arena.now.contents in
    let first = c.args.frame.first in
    let n = c.loop-dimension.dimension in
    let next : n + 1 ≡ suc n = omega arith in
    let more : bounds_from cells first c.args.cells (n + 1) ≡ bounds_from cells first c.args.cells n ++ bound_in cells first (c.args.cells + 2 * n) ∷ [] =
    ap (λ k. bounds_from cells first c.args.cells k) next ∙ bounds_more cells first c.args.cells n in
    rw more (c.push.ensures.items ∙ (ap (λ (bs : Bounds). bs ++ c.bound.result ∷ []) c.loop-dimension.invariant ∙ ap (λ (b : Bound). bounds_from cells first c.args.cells n ++ b ∷ []) c.bound.ensures))
