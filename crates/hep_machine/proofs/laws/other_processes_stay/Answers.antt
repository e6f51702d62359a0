use Rattle.hep_machine.proofs.Others.{others_stay}
use Rattle.hep_machine.proofs.laws.other_processes_stay.Goals as goal

pub returns : goal.returns
returns c program p q s t e d one h = others_stay program p q s t e d h
