use Rattle.hep_layout.proofs.HeldFrames.{held-earlier}
use Rattle.hep_layout.proofs.laws.what_was_held_is_held_no_more.Goals as goal

pub returns : goal.returns
returns c = held-earlier
