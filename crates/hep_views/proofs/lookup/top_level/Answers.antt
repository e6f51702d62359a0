use Rattle.hep_state.proofs.Processes.{process-at, some-levels-at}
use Rattle.hep_views.proofs.lookup.top_level.Goals as goal

pub top-requires : goal.top-requires
top-requires c = some-levels-at (process-at c.args.machine.now c.args.p c.requires.numbers c.place-at.ensures c.requires.living.kept c.index.ensures)

pub returns : goal.returns
returns c levels =
    let it = process-at c.args.machine.now c.args.p c.requires.numbers c.place-at.ensures levels.kept c.index.ensures in
    c.top.ensures levels.level levels.below levels.operands levels.pending it.stack
