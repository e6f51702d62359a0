use Rattle.hep_state.proofs.Processes.{process-at}
use Rattle.hep_commit.proofs.StandingProcesses.{standing}
use Rattle.hep_commit.proofs.validation.is_next_private.Goals as goal

pub place-at-requires : goal.place-at-requires
place-at-requires c = record { numbers = c.requires.after.2.numbers; living = c.requires.living }

pub is_next_private-requires : goal.is_next_private-requires
is_next_private-requires c = standing c.requires c.place-at.ensures c.index-process.ensures

pub returns-clause-private : goal.returns-clause-private
returns-clause-private c e =
    let it = process-at c.args.machine.now c.args.p c.requires.after.2.numbers c.place-at.ensures e.kept c.index-process.ensures in
    c.is_next_private.ensures.private e.level e.below e.operands e.pending it.stack
