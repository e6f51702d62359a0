use Rattle.hep_image.proofs.BlockOwners.{tells_block}
use Rattle.hep_image.proofs.FrameOwners.{tells_argument, tells_variable}
use Rattle.hep_image.proofs.laws.cells_tell_their_variables.Goals as goal

pub returns : goal.returns
returns c = record { variable = tells_variable; argument = tells_argument; block = tells_block }
