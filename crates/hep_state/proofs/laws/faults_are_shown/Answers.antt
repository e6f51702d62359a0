use Rattle.hep_state.proofs.SilentTurns.{failed-shown}
use Rattle.hep_state.proofs.laws.faults_are_shown.Goals as goal

pub returns : goal.returns
returns c t arena nodes line kind turning left size sim = failed-shown turning arena nodes line kind left size sim
