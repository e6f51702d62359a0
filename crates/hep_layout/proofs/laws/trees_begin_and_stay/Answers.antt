use Rattle.hep_layout.proofs.Beginning.{rest-first, tree-same, needed-same}
use Rattle.hep_layout.proofs.laws.trees_begin_and_stay.Goals as goal

pub returns : goal.returns
returns c = record { begins = rest-first; tree = tree-same; needed = needed-same }
