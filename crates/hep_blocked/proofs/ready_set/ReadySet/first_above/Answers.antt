use Rattle.std.proofs.Common.{◌≡◌, ◌+◌, inl, inr, None, Some, sym, subst, ap, ◌∙◌, arith}
use Rattle.std.proofs.lemmas.Bool.{cases_lt}
use Rattle.hep_arena.specs.Trees.{leaves_of}
use Rattle.hep_blocked.specs.Numbers.{IsNextBit}
use Rattle.hep_blocked.proofs.Listed.{first-found, first-none, rise-from_one}
use Rattle.hep_arena.proofs.Nodes.{number-past}
use Rattle.hep_blocked.proofs.ready_set.ReadySet.first_above.Goals as goal

pub returns-then-p-size-clause-next : goal.returns-then-p-size-clause-next
returns-then-p-size-clause-next c =
    let t = c.self.inside.tree in
    rw (← c.self.view_is) (sym (first-none c.args.p 1 (leaves_of t) None (λ k low. number-past t.greatest.items t.size k c.self.invariant.tree.nodes (omega (arith, low, c.if-p-size.true, c.size.ensures)))))

pub returns-then-p-size-clause-rising : goal.returns-then-p-size-clause-rising
returns-then-p-size-clause-rising c = let t = c.self.inside.tree in rw (← c.self.view_is) (rise-from_one t.size t.greatest.items c.self.invariant.tree.nodes)

pub returns-in_err-at-clause-next : goal.returns-in_err-at-clause-next
returns-in_err-at-clause-next c =
    let t = c.self.inside.tree in
    rw (c.from_residual.ensures, ← c.self.view_is) (sym (first-none c.args.p 1 (leaves_of t) None (λ k low. c.in_err-at.ensures k (omega (arith, low)))))

pub returns-in_err-at-clause-rising : goal.returns-in_err-at-clause-rising
returns-in_err-at-clause-rising c = let t = c.self.inside.tree in rw (← c.self.view_is) (rise-from_one t.size t.greatest.items c.self.invariant.tree.nodes)

pub returns-clause-next : goal.returns-clause-next
returns-clause-next c =
    let t = c.self.inside.tree in
    let e = c.in_ok-at.ensures in
    let found = first-found c.args.p 1 c.in_ok-at.at (leaves_of t) None e.1 (omega (arith, e.0)) (λ k low high. e.2 k (omega (arith, low)) high) in
    let same : 1 + c.in_ok-at.at ≡ c.in_ok-at.at + 1 = omega arith in
    rw (← c.self.view_is) (sym (found ∙ ap Some same))

pub returns-clause-rising : goal.returns-clause-rising
returns-clause-rising c = let t = c.self.inside.tree in rw (← c.self.view_is) (rise-from_one t.size t.greatest.items c.self.invariant.tree.nodes)

pub returns-in-Some-clause-next : goal.returns-in-Some-clause-next
returns-in-Some-clause-next c =
    let t = c.self.inside.tree in
    let e = subst (IsNextBit c.self.inside.first c.args.p) c.in-Some.is c.first_bit.ensures in
    let found = first-found c.args.p 1 c.in-Some.at (leaves_of t) None (omega (arith, c.self.invariant.bits c.in-Some.at e.1, e.2)) (omega (arith, e.0)) (λ k low high. sym (c.self.invariant.bits k (omega (arith, high, e.1))) ∙ e.3 k (omega (arith, low)) high) in
    let same : 1 + c.in-Some.at ≡ c.in-Some.at + 1 = omega arith in
    rw (← c.self.view_is) (sym (found ∙ ap Some same))

pub returns-in-Some-clause-rising : goal.returns-in-Some-clause-rising
returns-in-Some-clause-rising c = let t = c.self.inside.tree in rw (← c.self.view_is) (rise-from_one t.size t.greatest.items c.self.invariant.tree.nodes)

pub returns-then-size-le-FEW-clause-next : goal.returns-then-size-le-FEW-clause-next
returns-then-size-le-FEW-clause-next c =
    let t = c.self.inside.tree in
    let off = subst (IsNextBit c.self.inside.first c.args.p) c.in_default.is c.first_bit.ensures in
    rw (← c.self.view_is) (sym (first-none c.args.p 1 (leaves_of t) None (λ k low. elim (cases_lt k 64) [
      | inl few ↦ sym (c.self.invariant.bits k few) ∙ off k (omega (arith, low)) few
      | inr past ↦ number-past t.greatest.items t.size k c.self.invariant.tree.nodes (omega (arith, past, c.if-size-le-FEW.true, c.size-then-p-lt-FEW.ensures))
    ])))

pub returns-then-size-le-FEW-clause-rising : goal.returns-then-size-le-FEW-clause-rising
returns-then-size-le-FEW-clause-rising c = let t = c.self.inside.tree in rw (← c.self.view_is) (rise-from_one t.size t.greatest.items c.self.invariant.tree.nodes)
