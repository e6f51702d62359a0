use Rattle.std.proofs.Common.{◌≡◌, ◌-◌, ◌+◌, length-drop, sym, ap, ◌∙◌, arith, nat_lt}
use Rattle.hep_arena.specs.Trees.{leaves_of}
use Rattle.hep_blocked.proofs.Listed.{among-before, among-marked, among-past}
use Rattle.hep_blocked.proofs.ready_set.ReadySet.has.Goals as goal

pub returns-then-p-eq0 : goal.returns-then-p-eq0
returns-then-p-eq0 c =
    let t = c.self.inside.tree in
    rw (← c.self.view_is) (sym (among-before 1 c.args.p (leaves_of t) (omega (arith, c.if-p-eq0.true))))

pub returns-then-p-size : goal.returns-then-p-size
returns-then-p-size c =
    let t = c.self.inside.tree in
    rw (← c.self.view_is) (sym (among-past 1 c.args.p (leaves_of t) (omega (arith, length-drop t.size t.greatest.items, c.self.invariant.tree.nodes, c.if-p-size.true, c.size-size.ensures))))

pub returns : goal.returns
returns c =
    let t = c.self.inside.tree in
    let place : c.args.p ≡ 1 + (c.args.p - 1) = omega (arith, c.if-p-eq0.false) in
    rw (← c.self.view_is) (ap (nat_lt 0) c.get.ensures ∙ sym (among-marked 1 (c.args.p - 1) c.args.p (leaves_of t) place))
