use Rattle.hep_state.proofs.AlikeMachines.{alike-after}
use Rattle.hep_state.proofs.laws.alike_machines_keep_the_same_states.Goals as goal

pub returns : goal.returns
returns c program cells choices old new alike h = alike-after alike h
