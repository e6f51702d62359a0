use Rattle.std.proofs.Common.{subst, sym}
use Rattle.hep_machine.specs.Words.{schedule_of}
use Rattle.hep_why.specs.Watches.{AreNewWatches, IsNewWatch}
use Rattle.hep_why.proofs.ListedWatches.{each-last, listed-more, listed-no_more}
use Rattle.hep_why.proofs.watch_updates.add_watch.Goals as goal

pub returns-in_ok-push-in-Some-clause-listed : goal.returns-in_ok-push-in-Some-clause-listed
returns-in_ok-push-in-Some-clause-listed c =
    rw c.in_ok-push-in-Some.ensures.items
    (listed-more c.args.core.now.core c.args.p c.args.watches.now.items c.in-Some.watch c.in-Some.ensures)

pub returns-in_ok-push-in-Some-clause-each : goal.returns-in_ok-push-in-Some-clause-each
returns-in_ok-push-in-Some-clause-each c all =
    let core = c.args.core.now.core in
    subst (AreNewWatches core.program core.cells (schedule_of core.history)) (sym c.in_ok-push-in-Some.ensures.items) (
    each-last (IsNewWatch core.program core.cells (schedule_of core.history))
    c.args.watches.now.items c.in-Some.watch all c.in-Some.ensures.1)

pub returns-in-None-clause-listed : goal.returns-in-None-clause-listed
returns-in-None-clause-listed c = listed-no_more c.args.core.now.core c.args.p c.args.watches.now.items c.in-None.ensures
