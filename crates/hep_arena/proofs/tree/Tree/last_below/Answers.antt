use Rattle.std.proofs.Common.{◌≡◌, ◌+◌, ◌-◌, ◌*◌, suc, ℕ, sym, ◌∙◌, subst, arith}
use Rattle.hep_arena.specs.Trees.{leftmost}
use Rattle.hep_arena.proofs.Nodes.{IsLastDescent, number-read, last-descent-inner, last-descent-left, last-descent-right}
use Rattle.hep_arena.proofs.tree.Tree.last_below.Goals as goal
use Rattle.hep_arena.proofs.tree.Tree.last_below.Goals.{then-index-eq0, else-index-eq0}

pub index-requires : goal.index-requires
index-requires c =
    let t = c.args.self.now in
    let is = IsLastDescent t.greatest.items 1 (leftmost c.args.levels c.args.top) (leftmost c.args.levels (c.args.top + 1)) in
    let more : c.args.levels - c.loop.counter ≡ suc (c.args.levels - (c.loop.counter + 1)) = omega arith in
    let d = subst (λ (n : ℕ). is n c.loop.node) more c.loop.invariant in
    omega (arith, last-descent-inner t.greatest.items t.size 1 _ _ c.requires.inside c.requires.tree.tops _ _ d, c.requires.tree.nodes)

pub loop-preserved : goal.loop-preserved
loop-preserved c =
    let t = c.args.self.now in
    let is = IsLastDescent t.greatest.items 1 (leftmost c.args.levels c.args.top) (leftmost c.args.levels (c.args.top + 1)) in
    let fewer = c.args.levels - (c.loop.counter + 1) in
    let more : c.args.levels - c.loop.counter ≡ suc (c.args.levels - (c.loop.counter + 1)) = omega arith in
    let d = subst (λ (n : ℕ). is n c.loop.node) more c.loop.invariant in
    let inner = last-descent-inner t.greatest.items t.size 1 _ _ c.requires.inside c.requires.tree.tops _ _ d in
    let read = number-read t.greatest.items (2 * c.loop.node + 1) c.index.result.now (omega (arith, inner, c.requires.tree.nodes)) c.index.ensures in
    let less : 2 * c.loop.node + 1 - 1 ≡ 2 * c.loop.node = omega arith in
    elim c.if-index-eq0.branch [
      | then-index-eq0 w ↦ subst (is fewer) (sym (w.node-is ∙ less)) (last-descent-left t.greatest.items t.size 1 _ _ c.requires.inside c.requires.tree.tops _ _ d (omega (arith, read, w.if-index-eq0.true)))
      | else-index-eq0 w ↦ subst (is fewer) (sym w.node-is) (last-descent-right t.greatest.items t.size 1 _ _ c.requires.inside c.requires.tree.tops _ _ d (omega (arith, read, w.if-index-eq0.false)))
    ]
