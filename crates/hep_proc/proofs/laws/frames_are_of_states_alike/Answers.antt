use Rattle.hep_proc.proofs.UnchangedFrames.{keeps-same}
use Rattle.hep_proc.proofs.laws.frames_are_of_states_alike.Goals as goal

pub returns : goal.returns
returns c = keeps-same
