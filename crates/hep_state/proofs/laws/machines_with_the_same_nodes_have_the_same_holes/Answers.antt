use Rattle.hep_state.proofs.EqualLayouts.{holes-same}
use Rattle.hep_state.proofs.laws.machines_with_the_same_nodes_have_the_same_holes.Goals as goal

pub returns : goal.returns
returns c program cells choices turns m n rename renamed h k = holes-same program cells choices turns m n rename renamed h k
