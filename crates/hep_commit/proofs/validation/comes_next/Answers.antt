use Rattle.std.proofs.Common.{ap, sym}
use Rattle.hep_state.proofs.Processes.{process-at}
use Rattle.hep_commit.specs.Offers.{offered}
use Rattle.hep_commit.proofs.StandingProcesses.{its-levels, its-place, standing}
use Rattle.hep_commit.proofs.validation.comes_next.Goals as goal

pub place-at-requires : goal.place-at-requires
place-at-requires c =
    let turn = c.requires.can.1 in
    record { numbers = turn.after.2.numbers; living = its-levels (sym (ap (λ id. id.process) (c.ticket.ensures c.args.owned.now.image.now))) turn.living }

pub is_next-requires-clause-owned : goal.is_next-requires-clause-owned
is_next-requires-clause-owned c = (
  c.requires.can.0,
  standing c.requires.can.1 (its-place (ap (λ id. id.process) (c.ticket.ensures c.args.owned.now.image.now)) c.place-at.ensures) c.index-process.ensures,
)

pub returns-clause-made : goal.returns-clause-made
returns-clause-made c e =
    let m = c.args.machine.now in
    let program = c.args.owned.now.image.now in
    let p = (offered program c.args.offer.now).id.process in
    let it = process-at m p c.requires.can.1.after.2.numbers (its-place (ap (λ id. id.process) (c.ticket.ensures program)) c.place-at.ensures) e.kept c.index-process.ensures in
    c.is_next.ensures.made e.level e.below e.operands e.pending it.stack
