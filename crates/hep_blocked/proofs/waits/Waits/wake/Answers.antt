use Rattle.std.proofs.Common.{List, [], Option, sym, ap, ◌∙◌}
use Rattle.hep_machine.specs.Words.{is_number_among}
use Rattle.hep_cells.specs.declared.want.Want.{Want}
use Rattle.hep_blocked.specs.WaitQueues.{list_of}
use Rattle.hep_blocked.specs.Waiting.{waiting_at}
use Rattle.hep_blocked.proofs.Numbering.{numbers-woken}
use Rattle.hep_blocked.proofs.QueueInvariants.{cleared-awake, cleared-waiting, tied-woken, woken-among, woken-known, woken-ready}
use Rattle.hep_blocked.proofs.waits.Waits.wake.Goals as goal

pub wake_each-requires-clause-known : goal.wake_each-requires-clause-known
wake_each-requires-clause-known c =
    let listed = c.deref.ensures.value ∙ sym c.in-Some.ensures.taken in
    woken-known c.args.want c.deref.result.now c.self.inside.wanted.items (list_of c.self.inside.lists) c.self.invariant.0 listed

pub invariant_of-self : goal.invariant_of-self
invariant_of-self c =
    let listed = c.deref.ensures.value ∙ sym c.in-Some.ensures.taken in
    let ws = c.self.inside.wanted.items in
    let lists = list_of c.self.inside.lists in
    let woken = c.wake_each.ensures.wanted ∙ cleared-awake c.args.want c.deref.result.now ws lists c.self.invariant.0 listed in
    let tied = tied-woken c.args.want ws c.wake_each.new.wanted.items lists (list_of c.take.new.lists) c.self.invariant.0 woken c.in-Some.ensures.rest in
    let left = numbers-woken c.args.want c.deref.result.now ws c.wake_each.new.wanted.items lists c.self.inside.numbers c.wake_each.new.numbers c.self.invariant.2 c.self.invariant.0 in
    let numbers = left listed woken c.wake_each.ensures.numbers c.wake_each.ensures.places in
    (tied, c.in-Some.ensures.unique, numbers)

pub returns-in-Some-clause-woken : goal.returns-in-Some-clause-woken
returns-in-Some-clause-woken c =
    let listed = c.deref.ensures.value ∙ sym c.in-Some.ensures.taken in
    rw (← c.self.view_is) (c.wake_each.ensures.wanted ∙ cleared-awake c.args.want c.deref.result.now c.self.inside.wanted.items (list_of c.self.inside.lists) c.self.invariant.0 listed)

pub returns-in-Some-clause-waiting : goal.returns-in-Some-clause-waiting
returns-in-Some-clause-waiting c = λ q.
    let listed = c.deref.ensures.value ∙ sym c.in-Some.ensures.taken in
    rw (← c.self.view_is) (ap (λ (os : List (Option Want)). waiting_at os q) c.wake_each.ensures.wanted ∙ cleared-waiting c.args.want c.deref.result.now c.self.inside.wanted.items (list_of c.self.inside.lists) c.self.invariant.0 listed q)

pub returns-in-Some-clause-ready : goal.returns-in-Some-clause-ready
returns-in-Some-clause-ready c =
    let listed = c.deref.ensures.value ∙ sym c.in-Some.ensures.taken in
    rw (← c.self.view_is) (c.wake_each.ensures.ready ∙ woken-ready c.args.want c.deref.result.now c.self.inside.wanted.items (list_of c.self.inside.lists) c.self.invariant.0 listed c.args.ready.now.ready)

pub returns-in-Some-clause-among : goal.returns-in-Some-clause-among
returns-in-Some-clause-among c = λ q.
    let listed = c.deref.ensures.value ∙ sym c.in-Some.ensures.taken in
    rw (← c.self.view_is) (ap (is_number_among q) c.wake_each.ensures.ready ∙ woken-among c.args.want c.deref.result.now c.self.inside.wanted.items (list_of c.self.inside.lists) c.self.invariant.0 listed c.args.ready.now.ready q)

pub returns-in_default-clause-woken : goal.returns-in_default-clause-woken
returns-in_default-clause-woken c =
    rw (← c.self.view_is) (cleared-awake c.args.want [] c.self.inside.wanted.items (list_of c.self.inside.lists) c.self.invariant.0 (sym c.in_default.ensures.taken))

pub returns-in_default-clause-ready : goal.returns-in_default-clause-ready
returns-in_default-clause-ready c =
    rw (← c.self.view_is) (woken-ready c.args.want [] c.self.inside.wanted.items (list_of c.self.inside.lists) c.self.invariant.0 (sym c.in_default.ensures.taken) c.args.ready.now.ready)
