use Rattle.hep_image.proofs.Activations.{activations-bound}
use Rattle.hep_image.proofs.frame_laws.activations_are_bound.Goals as goal

pub returns : goal.returns
returns c = activations-bound
