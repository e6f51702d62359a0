use Rattle.std.proofs.Common.{◌≡◌, ◌-◌, ◌+◌, ◌<◌, length, length-drop, sym, ap, ◌∙◌, arith}
use Rattle.hep_blocked.specs.Numbers.{Numbers, numbers_from}
use Rattle.hep_arena.specs.Trees.{leaves_of}
use Rattle.hep_blocked.proofs.Listed.{numbers-with}
use Rattle.hep_blocked.proofs.ready_set.ReadySet.add.Goals as goal

pub returns-clause-ready : goal.returns-clause-ready
returns-clause-ready c =
    let t = c.self.inside.tree in
    let room : c.args.self.now.room ≡ t.size = ap (λ (v : Numbers). v.room) (sym c.self.view_is) in
    let place : c.args.p ≡ 1 + (c.args.p - 1) = omega (arith, c.requires.some) in
    let inside : c.args.p - 1 < length (leaves_of t) = omega (arith, length-drop t.size t.greatest.items, c.self.invariant.tree.nodes, c.requires.some, c.requires.room, room) in
    rw (← c.self.view_is) (ap (numbers_from 1) c.put.ensures.leaves ∙ numbers-with 1 (c.args.p - 1) c.args.p (leaves_of t) inside place)
