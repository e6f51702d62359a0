use Rattle.hep_state.proofs.SilentTurns.{waited-shown}
use Rattle.hep_state.proofs.laws.waiting_is_shown.Goals as goal

pub returns : goal.returns
returns c t cell full turning sim = waited-shown turning cell full sim
