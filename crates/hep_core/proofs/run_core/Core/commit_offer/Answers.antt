use Rattle.std.proofs.Common.{◌≡◌, ◌∙◌, true≢false, refl, sym, ap}
use Rattle.hep_commit.specs.Offers.{offered}
use Rattle.hep_core.specs.Tickets.{has_ticket}
use Rattle.hep_core.proofs.OtherTickets.{committed-good}
use Rattle.hep_core.proofs.run_core.Core.commit_offer.Goals as goal

pub returns-then-not-has_ticket-clause-committed : goal.returns-then-not-has_ticket-clause-committed
returns-then-not-has_ticket-clause-committed c = (
  c.in_default.ensures.none,
  (λ good. true≢false (sym good.1.0.2 ∙ (ap (λ id. has_ticket id c.args.self.now.core.out) (sym (c.ticket.ensures c.args.self.now.core.program)) ∙ sym c.if-not-has_ticket.ensures.ticket))),
  refl,
)

pub returns-then-steps-eq0-clause-kept : goal.returns-then-steps-eq0-clause-kept
returns-then-steps-eq0-clause-kept c =
    committed-good c.args.self.now (offered c.args.self.now.core.program c.args.offer.now) c.commit_alone.result c.commit_alone.new.self c.commit_alone.ensures.committed c.commit_alone.ensures.others

pub returns-clause-kept : goal.returns-clause-kept
returns-clause-kept c = committed-good c.args.self.now (offered c.args.self.now.core.program c.args.offer.now) c.commit_behind.result c.commit_behind.new.self c.commit_behind.ensures.committed c.commit_behind.ensures.others
