use Rattle.hep_image.proofs.Variables.{frame-reached, reached}
use Rattle.hep_image.proofs.frame_laws.cells_are_reached.Goals as goal

pub returns : goal.returns
returns c = record { address = reached; frame = frame-reached }
