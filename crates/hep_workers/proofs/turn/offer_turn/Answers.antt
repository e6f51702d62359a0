use Rattle.std.proofs.Common.{◌++◌, ◌∷◌, [], Err, ap, length, refl, sym, ◌∙◌}
use Rattle.hep_core.specs.Commits.{IsCommitted}
use Rattle.hep_core.specs.Offers.{offered}
use Rattle.hep_workers.proofs.Committed.{fault-so, no-entry, one-entry}
use Rattle.hep_workers.proofs.turn.offer_turn.Goals as goal
use Rattle.hep_state.proofs.UnchangedStates.{on-err}

pub returns-clause-named : goal.returns-clause-named
returns-clause-named c =
    let old = c.args.core.now in
    let turn = c.in_ok-turn.turn in
    let process = sym (ap (λ id. id.process) (c.ticket-process.ensures c.args.core.now.core.program)) in (
      refl,
      c.len-index.ensures.count ∙ ap length c.history.ensures,
      one-entry old c.commit_offer.new.self (offered c.args.core.now.core.program c.args.offer.now) turn c.in_ok-turn.ensures.committed
          ∙ (λ i. old.core.history ++ record { process = process i; steps = turn.steps } ∷ []),
    )

pub returns-clause-made : goal.returns-clause-made
returns-clause-made c = (c.in_ok-turn.turn, refl, c.in_ok-turn.ensures.committed)

pub returns-in_err-turn-clause-unmade : goal.returns-in_err-turn-clause-unmade
returns-in_err-turn-clause-unmade c =
    fault-so c.from_residual.result c.in_err-turn.field-0.0 (λ fault. IsCommitted c.args.core.now (offered c.args.core.now.core.program c.args.offer.now) (Err fault) c.commit_offer.new.self) c.from_residual.ensures.1 c.in_err-turn.ensures.committed

pub returns-in_err-turn-clause-kept : goal.returns-in_err-turn-clause-kept
returns-in_err-turn-clause-kept c =
    on-err c.from_residual.result c.from_residual.ensures.0 (no-entry c.args.core.now c.commit_offer.new.self (offered c.args.core.now.core.program c.args.offer.now) c.in_err-turn.field-0.0 c.in_err-turn.ensures.committed)
