use Rattle.std.proofs.Common.{◌∙◌, ap, length, refl}
use Rattle.hep_workers.proofs.Committed.{at-once-entry}
use Rattle.hep_workers.proofs.turn.turn_at_once.Goals as goal

pub returns-clause-named : goal.returns-clause-named
returns-clause-named c = (
  refl,
  c.len-index.ensures.count ∙ ap length c.history.ensures,
  at-once-entry c.args.core.now c.turn_at_once.new.self c.in_ok-turn.turn.process c.in_ok-turn.turn.steps c.in_ok-turn.ensures.made,
)

pub returns-clause-made : goal.returns-clause-made
returns-clause-made c = c.in_ok-turn.ensures.made

pub returns-clause-few : goal.returns-clause-few
returns-clause-few c = c.in_ok-turn.ensures.few
