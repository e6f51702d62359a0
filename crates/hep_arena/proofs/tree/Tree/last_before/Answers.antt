use Rattle.std.proofs.Common.{◌≡◌, ◌+◌, ◌-◌, ◌/◌, ◌<◌, ◌≤◌, suc, add-one, ℕ, length, sym, ap, ◌∙◌, subst, inl, inr, refl, arith}
use Rattle.std.proofs.lemmas.Bool.{cases_lt}
use Rattle.hep_arena.specs.Trees.{leftmost}
use Rattle.hep_arena.proofs.Nodes.{IsAscent, number-leaf, number-read, root-none, ascent-odd, ascent-even, ascent-first, ascent-node, ascent-other, ascent-ends}
use Rattle.hep_arena.proofs.tree.Tree.last_before.Goals as goal
use Rattle.hep_arena.proofs.tree.Tree.last_before.Goals.{else-node-eq1-via-then-node-eq1+else-index-gt0-2, else-node-eq1-via-else-node-eq1}

pub returns-then-root-eq0 : goal.returns-then-root-eq0
returns-then-root-eq0 c k before =
    let t = c.args.self.now in let tree = c.requires.tree in
    omega (arith, root-none t.greatest.items t.size 1 tree.tops t.levels tree.nodes tree.leaves (omega (arith, c.root.ensures, c.if-root-eq0.true)) (omega arith) k)

pub index-requires-then-node-eq1 : goal.index-requires-then-node-eq1
index-requires-then-node-eq1 c =
    let t = c.args.self.now in
    omega (arith, ascent-node t.greatest.items 1 t.size (t.size + c.args.at) c.loop-level.level (t.levels - c.loop-level.level) c.loop-level.node c.loop-level.invariant, c.requires.tree.nodes)

pub last_below-requires-clause-great : goal.last_below-requires-clause-great
last_below-requires-clause-great c =
    let t = c.args.self.now in
    let inside : c.loop-level.node - 1 < length t.greatest.items = omega (arith, ascent-node t.greatest.items 1 t.size (t.size + c.args.at) c.loop-level.level (t.levels - c.loop-level.level) c.loop-level.node c.loop-level.invariant, c.requires.tree.nodes) in
    omega (arith, number-read t.greatest.items (c.loop-level.node - 1) _ inside c.index-then-node-eq1.ensures, c.if-index-gt0-2.true)

pub last_below-requires-clause-some : goal.last_below-requires-clause-some
last_below-requires-clause-some c =
    let t = c.args.self.now in
    let is = IsAscent t.greatest.items 1 t.size (t.size + c.args.at) in
    let more : t.levels - c.loop-level.level ≡ suc (t.levels - (c.loop-level.level + 1)) = omega arith in
    let a = subst (λ (n : ℕ). is c.loop-level.level n c.loop-level.node) more c.loop-level.invariant in
    ascent-other t.greatest.items 1 t.size _ _ _ _ a c.if-node-eq1.true

pub overflow_sub-result-then-index-gt0-2 : goal.overflow_sub-result-then-index-gt0-2
overflow_sub-result-then-index-gt0-2 c =
    let t = c.args.self.now in
    let is = IsAscent t.greatest.items 1 t.size (t.size + c.args.at) in
    let more : t.levels - c.loop-level.level ≡ suc (t.levels - (c.loop-level.level + 1)) = omega arith in
    let a = subst (λ (n : ℕ). is c.loop-level.level n c.loop-level.node) more c.loop-level.invariant in
    omega (arith, ascent-first t.greatest.items 1 t.size _ _ _ _ a c.if-node-eq1.true, c.last_below.ensures.from)

pub returns-then-index-gt0-2 : goal.returns-then-index-gt0-2
returns-then-index-gt0-2 c =
    let t = c.args.self.now in
    let is = IsAscent t.greatest.items 1 t.size (t.size + c.args.at) in
    let numbers = t.greatest.items in
    let more : t.levels - c.loop-level.level ≡ suc (t.levels - (c.loop-level.level + 1)) = omega arith in
    let a = subst (λ (n : ℕ). is c.loop-level.level n c.loop-level.node) more c.loop-level.invariant in
    let e = c.last_below.ensures in
    let least : t.size ≤ c.last_below.result = omega (arith, ascent-first t.greatest.items 1 t.size _ _ _ _ a c.if-node-eq1.true, e.from) in
    let some = ascent-other t.greatest.items 1 t.size _ _ _ _ a c.if-node-eq1.true in
    let next : c.loop-level.node - 1 + 1 ≡ c.loop-level.node = omega (arith, some) in
    let end = ap (leftmost c.loop-level.level) next in (
      omega (arith, least, e.to, end, a.before),
      omega (arith, number-leaf numbers t.size (c.last_below.result - t.size) c.last_below.result (omega (arith, least)), e.great),
      λ k from to. number-leaf numbers t.size k (t.size + k) refl ∙ elim (cases_lt (t.size + k) (leftmost c.loop-level.level c.loop-level.node)) [
        | inl l ↦ omega (arith, e.last (t.size + k) (omega (arith, least, from)) (omega (arith, l, end)))
        | inr r ↦ omega (arith, a.low (t.size + k) r (omega arith))
      ],
    )

pub loop-level-preserved : goal.loop-level-preserved
loop-level-preserved c =
    let t = c.args.self.now in
    let is = IsAscent t.greatest.items 1 t.size (t.size + c.args.at) in
    let more : t.levels - c.loop-level.level ≡ suc (t.levels - (c.loop-level.level + 1)) = omega arith in
    let a = subst (λ (n : ℕ). is c.loop-level.level n c.loop-level.node) more c.loop-level.invariant in
    let within : t.size + c.args.at ≤ t.size + t.size = omega (arith, c.requires.inside) in
    let inside : c.loop-level.node - 1 < length t.greatest.items = omega (arith, ascent-node t.greatest.items 1 t.size (t.size + c.args.at) c.loop-level.level (t.levels - c.loop-level.level) c.loop-level.node c.loop-level.invariant, c.requires.tree.nodes) in
    subst (λ (n : ℕ). is n (t.levels - (c.loop-level.level + 1)) (c.loop-level.node / 2)) (sym (add-one c.loop-level.level)) (elim c.else-node-eq1.branch [
      | else-node-eq1-via-then-node-eq1+else-index-gt0-2 w ↦ ascent-odd t.greatest.items t.size 1 (t.size + c.args.at) (omega (arith, within)) c.requires.tree.tops _ _ _ a w.if-node-eq1.true (omega (arith, number-read t.greatest.items (c.loop-level.node - 1) _ inside w.index-then-node-eq1.ensures, w.if-index-gt0-2.false))
      | else-node-eq1-via-else-node-eq1 w ↦ ascent-even t.greatest.items t.size 1 (t.size + c.args.at) (omega (arith, within)) c.requires.tree.tops _ _ _ a (omega (arith, w.if-node-eq1.false))
    ])

pub returns : goal.returns
returns c =
    let t = c.args.self.now in
    let is = IsAscent t.greatest.items 1 t.size (t.size + c.args.at) in
    let a = c.loop-level.invariant in
    let none : t.levels - c.loop-level.level ≡ 0 = omega arith in
    let all : c.loop-level.level ≡ t.levels = omega arith in
    let top = subst (λ (n : ℕ). is c.loop-level.level n c.loop-level.node) none a in
    let root = subst (λ (n : ℕ). is n 0 c.loop-level.node) all top in
    ascent-ends t.greatest.items t.size c.args.at c.loop-level.node t.levels root
