use Rattle.hep_state.proofs.SilentTurns.{stopped-shown}
use Rattle.hep_state.proofs.laws.stops_are_shown.Goals as goal

pub returns : goal.returns
returns c t turning sim = stopped-shown turning sim
