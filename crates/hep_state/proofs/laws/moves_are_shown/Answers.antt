use Rattle.hep_state.proofs.SilentTurns.{moved-shown}
use Rattle.hep_state.proofs.laws.moves_are_shown.Goals as goal

pub returns : goal.returns
returns c t contents operands index turning size sim = moved-shown turning contents operands index size sim
