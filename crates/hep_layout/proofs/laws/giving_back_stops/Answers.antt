use Rattle.hep_layout.proofs.FrameTree.{node-needed, needed-all}
use Rattle.hep_layout.proofs.laws.giving_back_stops.Goals as goal

pub returns : goal.returns
returns c = record {
  node = λ s on out nodes k n tree at. node-needed s on out nodes k n tree at;
  needed = needed-all;
}
