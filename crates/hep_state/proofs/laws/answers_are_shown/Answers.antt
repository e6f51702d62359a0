use Rattle.hep_state.proofs.SilentTurns.{answered-shown}
use Rattle.hep_state.proofs.laws.answers_are_shown.Goals as goal

pub returns : goal.returns
returns c t v arena nodes turning left size sim = answered-shown turning v arena nodes left size sim
