use Rattle.std.proofs.Common.{◌≡◌, ◌-◌, ◌+◌, length-drop, sym, ap, ◌∙◌, arith}
use Rattle.hep_blocked.specs.Numbers.{numbers_from}
use Rattle.hep_arena.specs.Trees.{leaves_of}
use Rattle.hep_blocked.proofs.Listed.{numbers-without, without-above, without-below}
use Rattle.hep_blocked.proofs.ready_set.ReadySet.remove.Goals as goal
use Rattle.hep_blocked.proofs.ready_set.ReadySet.remove.Goals.{else-p-gt0-via-then-p-gt0+else-p-size, else-p-gt0-via-else-p-gt0}

pub returns-then-p-size-clause-ready : goal.returns-then-p-size-clause-ready
returns-then-p-size-clause-ready c =
    let t = c.self.inside.tree in
    let place : c.args.p ≡ 1 + (c.args.p - 1) = omega (arith, c.if-p-gt0.true) in
    rw (← c.self.view_is) (ap (numbers_from 1) c.put.ensures.leaves ∙ numbers-without 1 (c.args.p - 1) c.args.p (leaves_of t) place)

pub returns-else-p-gt0-clause-ready : goal.returns-else-p-gt0-clause-ready
returns-else-p-gt0-clause-ready c =
    let t = c.self.inside.tree in
    rw (← c.self.view_is) (sym (elim c.else-p-gt0.branch [
      | else-p-gt0-via-then-p-gt0+else-p-size w ↦ without-above c.args.p 1 (leaves_of t) (omega (arith, length-drop t.size t.greatest.items, c.self.invariant.tree.nodes, w.if-p-size.false, w.size.ensures))
      | else-p-gt0-via-else-p-gt0 w ↦ without-below c.args.p 1 (leaves_of t) (omega (arith, w.if-p-gt0.false))
    ]))
