use Rattle.std.proofs.Common.{◌≡◌, ◌-◌, None, Some, Option, List, set, sym, ap, ◌∙◌}
use Rattle.hep_cells.specs.declared.want.Want.{Want}
use Rattle.hep_blocked.specs.WaitQueues.{list_of}
use Rattle.hep_blocked.specs.Waiting.{waiting_at}
use Rattle.hep_blocked.proofs.QueueRemoving.{numbers-removed, removed-items, tied-removed, waiting-placed}
use Rattle.hep_blocked.proofs.waits.Waits.remove.Goals as goal

pub invariant_of-self : goal.invariant_of-self
invariant_of-self c =
    let p = c.args.p in
    let ws = c.self.inside.wanted.items in
    let waits : waiting_at c.self.inside.wanted.items c.args.p ≡ Some c.in-Some.want = ap (λ (os : List (Option Want)). waiting_at os p) c.self.view_is ∙ sym c.in-Some.ensures in
    let removed = removed-items p ws (waiting-placed c.in-Some.want ws p waits).0 in
    let items = set c.self.inside.wanted.items (c.args.p - 1) None in
    let tied = tied-removed p c.in-Some.want ws items waits removed (list_of c.self.inside.lists) (list_of c.take_out.new.lists) c.self.invariant.0 c.take_out.ensures.left in
    let numbers = numbers-removed p c.in-Some.want ws items waits removed c.self.inside.numbers c.remove.new.self c.self.invariant.2 c.remove.ensures.ready c.remove.ensures.room in
    (tied, c.take_out.ensures.unique, numbers)
