use Rattle.hep_state.proofs.SilentTurns.{printed-shown}
use Rattle.hep_state.proofs.laws.records_are_shown.Goals as goal

pub returns : goal.returns
returns c t items index turning sim = printed-shown turning items index sim
