use Rattle.hep_layout.proofs.FrameTreeSteps.{tree-ended, needed-ended}
use Rattle.hep_layout.proofs.laws.activations_end.Goals as goal

pub returns : goal.returns
returns c = record {
  tree = λ s on out nodes k n tree at. tree-ended s on out nodes k n tree at;
  needed = needed-ended;
}
