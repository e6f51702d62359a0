use Rattle.hep_proc.proofs.Children.{can-count}
use Rattle.hep_proc.proofs.laws.children_are_activations.Goals as goal

pub returns : goal.returns
returns c = can-count
