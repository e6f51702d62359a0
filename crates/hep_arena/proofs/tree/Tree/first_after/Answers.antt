use Rattle.std.proofs.Common.{◌≡◌, ◌+◌, ◌-◌, ◌/◌, ◌<◌, suc, add-one, ℕ, length, sym, subst, arith}
use Rattle.hep_arena.proofs.Climbing.{IsRise, rise-odd, rise-even, rise-inside, rise-node, rise-ends}
use Rattle.hep_arena.proofs.Nodes.{number-read}
use Rattle.hep_arena.proofs.tree.Tree.first_after.Goals as goal
use Rattle.hep_arena.proofs.tree.Tree.first_after.Goals.{else-node-eq0-via-then-node-eq0+else-index-gt0-2, else-node-eq0-via-else-node-eq0}

pub index-requires-then-node-eq0 : goal.index-requires-then-node-eq0
index-requires-then-node-eq0 c =
    let t = c.args.self.now in
    omega (arith, rise-node t.greatest.items t.size (t.size + c.args.at) c.loop-level.level (t.levels - c.loop-level.level) c.loop-level.node c.loop-level.invariant c.if-node-eq0.true, c.requires.tree.nodes)

pub first_below-requires-clause-great : goal.first_below-requires-clause-great
first_below-requires-clause-great c =
    let t = c.args.self.now in
    let inside : c.loop-level.node + 1 < length t.greatest.items = omega (arith, rise-node t.greatest.items t.size (t.size + c.args.at) c.loop-level.level (t.levels - c.loop-level.level) c.loop-level.node c.loop-level.invariant c.if-node-eq0.true, c.requires.tree.nodes) in
    omega (arith, number-read t.greatest.items (c.loop-level.node + 1) _ inside c.index-then-node-eq0.ensures, c.if-index-gt0-2.true)

pub first_below-requires-clause-inside : goal.first_below-requires-clause-inside
first_below-requires-clause-inside c =
    let t = c.args.self.now in
    rise-inside t.greatest.items t.size (t.size + c.args.at) c.loop-level.level (t.levels - c.loop-level.level) c.loop-level.node c.loop-level.invariant c.if-node-eq0.true

pub loop-level-preserved : goal.loop-level-preserved
loop-level-preserved c =
    let t = c.args.self.now in
    let is = IsRise t.greatest.items t.size (t.size + c.args.at) in
    let more : t.levels - c.loop-level.level ≡ suc (t.levels - (c.loop-level.level + 1)) = omega arith in
    let a = subst (λ (n : ℕ). is c.loop-level.level n c.loop-level.node) more c.loop-level.invariant in
    subst (λ (n : ℕ). is n (t.levels - (c.loop-level.level + 1)) (c.loop-level.node / 2)) (sym (add-one c.loop-level.level)) (elim c.else-node-eq0.branch [
      | else-node-eq0-via-then-node-eq0+else-index-gt0-2 w ↦
          let inside : c.loop-level.node + 1 < length t.greatest.items = omega (arith, rise-node t.greatest.items t.size (t.size + c.args.at) c.loop-level.level (t.levels - c.loop-level.level) c.loop-level.node c.loop-level.invariant w.if-node-eq0.true, c.requires.tree.nodes) in
          rise-even t.greatest.items t.size c.requires.tree.tops _ _ _ _ a w.if-node-eq0.true (omega (arith, number-read t.greatest.items (c.loop-level.node + 1) _ inside w.index-then-node-eq0.ensures, w.if-index-gt0-2.false))
      | else-node-eq0-via-else-node-eq0 w ↦ rise-odd t.greatest.items t.size c.requires.tree.tops _ _ _ _ a (omega (arith, w.if-node-eq0.false))
    ])

pub returns : goal.returns
returns c =
    let t = c.args.self.now in
    let is = IsRise t.greatest.items t.size (t.size + c.args.at) in
    let a = c.loop-level.invariant in
    let none : t.levels - c.loop-level.level ≡ 0 = omega arith in
    let all : c.loop-level.level ≡ t.levels = omega arith in
    let top = subst (λ (n : ℕ). is c.loop-level.level n c.loop-level.node) none a in
    let root = subst (λ (n : ℕ). is n 0 c.loop-level.node) all top in
    rise-ends t.greatest.items t.size c.args.at c.loop-level.node t.levels root c.requires.tree.nodes
