use Rattle.std.proofs.Common.{ap}
use Rattle.std.specs.Option.{unwrap_or}
use Rattle.hep_machine.specs.Words.{unset_cell}
use Rattle.hep_image.proofs.frame_laws.cells_are_found.Goals as goal

pub returns : goal.returns
returns c program s layout contents holds p at e = ap (λ o. unwrap_or o unset_cell) (holds at p e)
