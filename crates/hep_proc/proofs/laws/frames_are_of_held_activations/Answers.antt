use Rattle.hep_proc.proofs.UnchangedFrames.{keeps-held, keeps-remaining}
use Rattle.hep_proc.proofs.laws.frames_are_of_held_activations.Goals as goal

pub returns : goal.returns
returns c = record { out = keeps-held; layout = keeps-remaining }
