use Rattle.hep_machine.proofs.Others.{dead_idle, dead_stays}
use Rattle.hep_machine.proofs.laws.dead_processes_stay_dead.Goals as goal

pub returns : goal.returns
returns c = record { idle = dead_idle; dead = λ program p q s dead one h. dead_stays program p q s dead h }
