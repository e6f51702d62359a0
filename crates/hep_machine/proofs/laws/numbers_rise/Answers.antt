use Rattle.hep_machine.proofs.Others.{activations_after, processes_after}
use Rattle.hep_machine.proofs.laws.numbers_rise.Goals as goal

pub returns : goal.returns
returns c = record { activations = activations_after; processes = processes_after }
