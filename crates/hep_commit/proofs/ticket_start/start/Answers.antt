use Rattle.hep_state.proofs.Processes.{process-at}
use Rattle.hep_commit.proofs.StandingProcesses.{ok-too, standing}
use Rattle.hep_commit.proofs.ticket_start.start.Goals as goal

pub place-at-requires : goal.place-at-requires
place-at-requires c = record { numbers = c.requires.1.after.2.numbers; living = c.requires.1.living }

pub ticket_of-requires : goal.ticket_of-requires
ticket_of-requires c = (c.requires.0, standing c.requires.1 c.place-at.ensures c.index-process.ensures)

pub returns-clause-ticket : goal.returns-clause-ticket
returns-clause-ticket c =
    ok-too c.ticket_of.result c.ticket_of.ensures.ticket (λ ticket is e.
    let it = process-at c.args.machine.now c.args.id.process c.requires.1.after.2.numbers c.place-at.ensures e.kept c.index-process.ensures in
    is e.level e.below e.operands e.pending it.stack)
