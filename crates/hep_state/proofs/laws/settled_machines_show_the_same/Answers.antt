use Rattle.hep_state.proofs.TopActivations.{settled}
use Rattle.hep_state.proofs.laws.settled_machines_show_the_same.Goals as goal

pub returns : goal.returns
returns c t operands index turning stands = settled turning operands index stands
