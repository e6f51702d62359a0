use Rattle.std.proofs.Common.{◌≡◌, rules, sym}
use Rattle.std.proofs.lemmas.Fn.{filter_same}
use Rattle.indexmap.specs.IndexMap.{get}
use Rattle.hep_machine.specs.Words.{without}
use Rattle.hep_blocked.specs.WaitQueues.{want_eq}
use Rattle.hep_blocked.proofs.Wants.{list-written}
use Rattle.hep_blocked.proofs.wait_queues.take_out.Goals as goal
use Rattle.hep_source.proofs.Tests.{some-there}

pub returns-in-Some-clause-left : goal.returns-in-Some-clause-left
returns-in-Some-clause-left c =
    let kept : c.retain.new.self.items ≡ without c.args.p c.in-Some.list.now.items = filter_same _ _ _ (λ x b f' k. search rules) _ _ c.retain.ensures.filtered in
    list-written (get want_eq c.args.lists.now) (get want_eq (c.get_mut.follows.lender c.retain.new.self)) c.args.want (without c.args.p) c.in-Some.list.now c.retain.new.self
    (sym c.in-Some.ensures.value) kept ((c.get_mut.follows.holds c.retain.new.self).3 (some-there (get want_eq c.args.lists.now c.args.want) c.in-Some.list.now (sym c.in-Some.ensures.value))).0
