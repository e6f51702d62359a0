use Rattle.hep_layout.proofs.FrameTree.{held-node, rest-held}
use Rattle.hep_layout.proofs.laws.frames_out_are_held.Goals as goal

pub returns : goal.returns
returns c = record { out = rest-held; nodes = held-node }
