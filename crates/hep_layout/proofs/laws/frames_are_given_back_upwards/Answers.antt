use Rattle.hep_layout.proofs.FrameTree.{parent-apart, parent-counts, parent-kept, tree-left, needed-left}
use Rattle.hep_layout.proofs.laws.frames_are_given_back_upwards.Goals as goal

pub returns : goal.returns
returns c = record {
  tree = λ s on out nodes k n tree at. tree-left s on out nodes k n tree at;
  needed = λ s on out nodes k n tree at. needed-left s on out nodes k n tree at;
  parent = λ s on out nodes k n tree at alone. let node = tree.shown k n at in parent-kept s on out nodes k n tree at alone n.activation n.parent node.out_is node.parent_is;
  apart = λ s on out nodes k l n tree at. parent-apart s on out nodes k n tree at l;
  counted = λ s on out nodes k l n m tree at. parent-counts s on out nodes k n tree at l m;
}
