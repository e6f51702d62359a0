use Rattle.std.proofs.Common.{◌≡◌, ◌-◌, ◌≤◌, List, Option, Some, None, set, ap, ◌∙◌, arith}
use Rattle.hep_blocked.specs.Numbers.{with_number}
use Rattle.hep_cells.specs.declared.want.Want.{Want}
use Rattle.hep_blocked.specs.WaitQueues.{list_of}
use Rattle.hep_blocked.specs.Waiting.{waiting_at}
use Rattle.hep_blocked.proofs.Numbering.{numbers-blocked}
use Rattle.hep_blocked.proofs.QueueInvariants.{blocked-items, tied-blocked, waiting-blocked}
use Rattle.hep_blocked.proofs.waits.Waits.block.Goals as goal

pub invariant_of-self-2 : goal.invariant_of-self-2
invariant_of-self-2 c =
    let p = c.args.p in
    let ws = c.self.inside.wanted.items in
    let items = set c.grow.new.wanted.items (c.args.p - 1) (Some c.args.want) in
    let written = blocked-items c.args.p c.args.want ws c.grow.new.wanted.items c.in_ok-grow.ensures.grown in
    let idle : waiting_at c.self.inside.wanted.items c.args.p ≡ None = ap (λ (os : List (Option Want)). waiting_at os p) c.self.view_is ∙ c.requires.not_waiting in
    let tied = tied-blocked p c.args.want ws items (list_of c.self.inside.lists) (list_of c.add.new.lists) c.self.invariant.0 c.requires.number idle written c.in_default.ensures.added in
    let added = c.add-2.ensures.ready ∙ ap (with_number p) c.reserve.ensures.ready in
    let room : c.args.p ≤ c.add-2.new.self.room = omega (arith, c.add-2.ensures.room, c.in_ok-reserve.ensures.room) in
    let grows : c.self.inside.numbers.room ≤ c.add-2.new.self.room = omega (arith, c.add-2.ensures.room, c.reserve.ensures.grows) in
    let numbers = numbers-blocked p c.args.want ws items c.self.inside.numbers c.add-2.new.self c.self.invariant.2 c.requires.number written added room grows in
    (tied, c.in_default.ensures.unique, numbers)

pub returns-clause-waiting : goal.returns-clause-waiting
returns-clause-waiting c = λ q.
    let ws = c.self.inside.wanted.items in
    let written = blocked-items c.args.p c.args.want ws c.grow.new.wanted.items c.in_ok-grow.ensures.grown in
    rw (← c.self.view_is) (ap (λ (os : List (Option Want)). waiting_at os q) written ∙ waiting-blocked c.args.p c.args.want ws c.requires.number q)
