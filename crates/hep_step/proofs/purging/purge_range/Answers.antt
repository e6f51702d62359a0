use Rattle.std.proofs.Common.{◌≡◌, suc, ◌+◌, ◌-◌, sym, ◌∙◌, subst, arith}
use Rattle.hep_arena.specs.Holes.{IsOut}
use Rattle.hep_step.specs.PurgeEffects.{purged_from}
use Rattle.hep_step.proofs.EmptiedRanges.{purged_from-first}
use Rattle.hep_step.proofs.purging.purge_range.Goals as goal

pub purge_cell-requires-clause-out : goal.purge_cell-requires-clause-out
purge_cell-requires-clause-out c =
    let at = c.args.range.first + c.loop-cell.cell in
    subst (IsOut at) (sym c.loop-cell.invariant.holes) (c.requires.reached.out at (omega arith) (omega (arith, c.loop-cell-test.true)))

pub loop-cell-preserved : goal.loop-cell-preserved
loop-cell-preserved c =
    let range = c.args.range in
    let i = c.loop-cell.cell in
    let next : range.first + (i + 1) ≡ suc (range.first + i) = omega arith in
    let fewer : range.cells - i ≡ suc (range.cells - (i + 1)) = omega (arith, c.loop-cell-test.true) in
    let first = purged_from-first (range.cells - i) (range.cells - (i + 1)) (range.first + i) c.loop-cell.arena.contents fewer in
    record {
      contents = (λ j. purged_from (range.cells - (i + 1)) (next j) (c.purge_cell.ensures.contents j)) ∙ (sym first ∙ c.loop-cell.invariant.contents);
      holes = c.purge_cell.ensures.holes ∙ c.loop-cell.invariant.holes;
      cells = c.purge_cell.ensures.cells ∙ c.loop-cell.invariant.cells;
    }
