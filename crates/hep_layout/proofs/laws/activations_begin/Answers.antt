use Rattle.hep_layout.proofs.FrameTreeSteps.{tree-entered, needed-entered}
use Rattle.hep_layout.proofs.laws.activations_begin.Goals as goal

pub returns : goal.returns
returns c = record {
  tree = λ s t x on out nodes first cells v k n tree free at more owner. tree-entered s t x on out nodes first cells v k n tree free at more owner;
  needed = λ s t x on out nodes k n tree at more owner. needed-entered s t x on out nodes k n tree at more owner;
}
