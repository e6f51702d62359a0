use Rattle.hep_layout.proofs.FrameTreeSteps.{filter-without, framed-ended, framed-entered, framed-left}
use Rattle.hep_layout.proofs.laws.nodes_have_frames.Goals as goal

pub returns : goal.returns
returns c = record {
  begun = λ s t x on out nodes first cells v k n layout tree free at more owner. framed-entered s t x on out nodes first cells v k n tree free at more owner layout;
  ended = framed-ended;
  given = framed-left;
  layout = filter-without;
}
