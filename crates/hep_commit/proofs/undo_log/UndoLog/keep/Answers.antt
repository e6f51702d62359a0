use Rattle.hep_state.proofs.Processes.{process-at}
use Rattle.hep_commit.proofs.StandingProcesses.{standing}
use Rattle.hep_commit.proofs.undo_log.UndoLog.keep.Goals as goal
use Rattle.std.proofs.lemmas.Result.{on_ok_weaker}

pub place-at-requires : goal.place-at-requires
place-at-requires c = record { numbers = c.requires.1.after.2.numbers; living = c.requires.1.living }

pub keep-requires : goal.keep-requires
keep-requires c = (c.requires.0, standing c.requires.1 c.place-at.ensures c.index-process.ensures)

pub returns-clause-kept : goal.returns-clause-kept
returns-clause-kept c =
    on_ok_weaker c.keep.result (λ is e.
    let it = process-at c.args.machine.now c.args.p c.requires.1.after.2.numbers c.place-at.ensures e.kept c.index-process.ensures in
    is e.level e.below e.operands e.pending it.stack) c.keep.ensures.kept
