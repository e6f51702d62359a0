use Rattle.std.proofs.Common.{◌≡◌, subst}
use Rattle.hep_proc.specs.declared.process.Local.{Local}
use Rattle.hep_state.proofs.Processes.{process-at, some-levels-at}
use Rattle.hep_private.specs.Batches.{HasNoPrivate}
use Rattle.hep_commit.proofs.turns_in_place.stands_alone.Goals as goal

pub place-at-requires : goal.place-at-requires
place-at-requires c = record { numbers = c.requires.numbers; living = c.requires.living }

pub top-level-requires : goal.top-level-requires
top-level-requires c = some-levels-at (process-at c.args.machine.now c.args.p c.requires.numbers c.place-at.ensures c.requires.living.kept c.index.ensures)

pub returns : goal.returns
returns c alone e =
    let it = process-at c.args.machine.now c.args.p c.requires.numbers c.place-at.ensures e.kept c.index.ensures in
    let level : c.top-level.result ≡ e.level = c.top-level.ensures e.level e.below e.operands e.pending it.stack in
    subst (λ (l : Local). HasNoPrivate c.args.ahead.now l.unit l.index) level (c.rests.ensures.none alone)
