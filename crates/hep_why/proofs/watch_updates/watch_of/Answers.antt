use Rattle.hep_why.proofs.ListedWatches.{new-watch, no-watch}
use Rattle.hep_why.proofs.watch_updates.watch_of.Goals as goal

pub returns-in-Some : goal.returns-in-Some
returns-in-Some c =
    new-watch c.args.core.now.core c.image.result.now c.args.p c.machine.result.now c.in-Some.want c.listed.result c.image.ensures
    c.machine.ensures.after c.in-Some.ensures.want c.in-Some.ensures.listed c.listed.ensures

pub returns-in-None : goal.returns-in-None
returns-in-None c = no-watch c.args.core.now.core c.args.p c.in-None.ensures.listed
