use Rattle.std.proofs.Common.{◌*◌, add-one, ℕ, sym, ap, ◌∙◌, arith}
use Rattle.hep_arena.specs.Trees.{leftmost}
use Rattle.hep_arena.proofs.Nodes.{leftmost-double}
use Rattle.hep_arena.proofs.tree.full_size.Goals as goal

pub loop-size-preserved : goal.loop-size-preserved
loop-size-preserved c =
    let i = c.loop-size.invariant in
    let levels = c.loop-size.levels in
    record {
      size = ap (λ (n : ℕ). 2 * n) i.size ∙ sym (leftmost-double levels 1) ∙ sym (ap (λ (n : ℕ). leftmost n 1) (add-one levels));
      few = omega arith;
      levels = omega arith;
    }
