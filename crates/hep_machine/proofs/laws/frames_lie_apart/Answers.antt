use Rattle.hep_machine.proofs.Frames.{frames_apart}
use Rattle.hep_machine.proofs.laws.frames_lie_apart.Goals as goal

pub returns : goal.returns
returns c = frames_apart
