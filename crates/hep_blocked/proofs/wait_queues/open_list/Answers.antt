use Rattle.std.proofs.Common.{◌∙◌, sym}
use Rattle.indexmap.specs.IndexMap.{get}
use Rattle.hep_blocked.specs.WaitQueues.{want_eq}
use Rattle.hep_blocked.proofs.Wants.{list-opened}
use Rattle.hep_blocked.proofs.wait_queues.open_list.Goals as goal
use Rattle.hep_source.proofs.Tests.{none-from-not}

pub returns-in_ok-insert-clause-same : goal.returns-in_ok-insert-clause-same
returns-in_ok-insert-clause-same c =
    let none = none-from-not (get want_eq c.args.lists.now c.args.want) (sym c.contains_key.ensures ∙ c.if-not-contains_key.true) in
    list-opened (get want_eq c.args.lists.now) (get want_eq c.insert.new.self) c.args.want c.new.result none c.new.ensures.items c.in_ok-insert.ensures.updates.0
