use Rattle.std.proofs.Common.{◌++◌, [], ◌∷◌, sym}
use Rattle.indexmap.specs.IndexMap.{get}
use Rattle.hep_blocked.specs.WaitQueues.{want_eq}
use Rattle.hep_blocked.proofs.Wants.{list-kept, on-err}
use Rattle.hep_blocked.proofs.Wants.{list-written}
use Rattle.hep_blocked.proofs.wait_queues.push.Goals as goal

pub returns-in_ok-push-clause-added : goal.returns-in_ok-push-clause-added
returns-in_ok-push-clause-added c =
    list-written (get want_eq c.args.lists.now) (get want_eq (c.get_mut.follows.lender c.push.new.self)) c.args.want (λ ps. ps ++ c.args.p ∷ []) c.in-Some.list.now c.push.new.self
    (sym c.in-Some.ensures.value) c.in_ok-push.ensures.items ((c.get_mut.follows.holds c.push.new.self).3 c.requires).0

pub returns-in_err-push-clause-refused : goal.returns-in_err-push-clause-refused
returns-in_err-push-clause-refused c = on-err c.from_residual.result (
    list-kept (get want_eq c.args.lists.now) (get want_eq (c.get_mut.follows.lender c.push.new.self)) c.args.want c.in-Some.list.now c.push.new.self
    (sym c.in-Some.ensures.value) c.in_err-push.ensures.items ((c.get_mut.follows.holds c.push.new.self).3 c.requires).0)
