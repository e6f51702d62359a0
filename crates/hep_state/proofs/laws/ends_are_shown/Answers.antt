use Rattle.hep_state.proofs.SilentTurns.{returned-shown}
use Rattle.hep_state.proofs.laws.ends_are_shown.Goals as goal

pub returns : goal.returns
returns c t arena nodes turning left size sim = returned-shown turning arena nodes left size sim
