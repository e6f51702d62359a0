use Rattle.hep_why.proofs.CycleLinks.{next-changed}
use Rattle.hep_why.proofs.laws.next_ones_changed_it.Goals as goal

pub returns : goal.returns
returns c = next-changed
