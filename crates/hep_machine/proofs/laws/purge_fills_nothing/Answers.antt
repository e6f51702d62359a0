use Rattle.hep_machine.proofs.Purges.{purge_fills}
use Rattle.hep_machine.proofs.laws.purge_fills_nothing.Goals as goal

pub returns : goal.returns
returns c = purge_fills
