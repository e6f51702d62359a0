use Rattle.hep_blocked.proofs.TouchedUnits.{states-stay}
use Rattle.hep_blocked.proofs.need_laws.other_units_keep_their_states.Goals as goal

pub returns : goal.returns
returns c = states-stay
