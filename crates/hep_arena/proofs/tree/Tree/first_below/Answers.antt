use Rattle.std.proofs.Common.{◌≡◌, ◌+◌, ◌-◌, ◌*◌, suc, ℕ, sym, subst, arith}
use Rattle.hep_arena.specs.Trees.{leftmost}
use Rattle.hep_arena.proofs.Nodes.{IsDescent, number-read, descent-inner, descent-left, descent-right}
use Rattle.hep_arena.proofs.tree.Tree.first_below.Goals as goal
use Rattle.hep_arena.proofs.tree.Tree.first_below.Goals.{then-index-least, else-index-least}

pub overflow_mul-node : goal.overflow_mul-node
overflow_mul-node c =
    let t = c.args.self.now in
    let is = IsDescent t.greatest.items c.args.least (leftmost c.args.levels c.args.top) (leftmost c.args.levels (c.args.top + 1)) in
    let more : c.args.levels - c.loop.counter ≡ suc (c.args.levels - (c.loop.counter + 1)) = omega arith in
    let d = subst (λ (n : ℕ). is n c.loop.node) more c.loop.invariant in
    omega (arith, descent-inner t.greatest.items t.size c.args.least _ _ c.requires.inside c.requires.tree.tops _ _ d, c.requires.tree.few)

pub index-requires : goal.index-requires
index-requires c =
    let t = c.args.self.now in
    let is = IsDescent t.greatest.items c.args.least (leftmost c.args.levels c.args.top) (leftmost c.args.levels (c.args.top + 1)) in
    let more : c.args.levels - c.loop.counter ≡ suc (c.args.levels - (c.loop.counter + 1)) = omega arith in
    let d = subst (λ (n : ℕ). is n c.loop.node) more c.loop.invariant in
    omega (arith, descent-inner t.greatest.items t.size c.args.least _ _ c.requires.inside c.requires.tree.tops _ _ d, c.requires.tree.nodes)

pub loop-preserved : goal.loop-preserved
loop-preserved c =
    let t = c.args.self.now in
    let is = IsDescent t.greatest.items c.args.least (leftmost c.args.levels c.args.top) (leftmost c.args.levels (c.args.top + 1)) in
    let fewer = c.args.levels - (c.loop.counter + 1) in
    let more : c.args.levels - c.loop.counter ≡ suc (c.args.levels - (c.loop.counter + 1)) = omega arith in
    let d = subst (λ (n : ℕ). is n c.loop.node) more c.loop.invariant in
    let inner = descent-inner t.greatest.items t.size c.args.least _ _ c.requires.inside c.requires.tree.tops _ _ d in
    let read = number-read t.greatest.items (2 * c.loop.node) c.index.result.now (omega (arith, inner, c.requires.tree.nodes)) c.index.ensures in
    elim c.if-index-least.branch [
      | then-index-least w ↦ subst (is fewer) (sym w.node-is) (descent-right t.greatest.items t.size c.args.least _ _ c.requires.inside c.requires.tree.tops _ _ d (omega (arith, read, w.if-index-least.true)))
      | else-index-least w ↦ subst (is fewer) (sym w.node-is) (descent-left t.greatest.items t.size c.args.least _ _ c.requires.inside c.requires.tree.tops _ _ d (omega (arith, read, w.if-index-least.false)))
    ]
