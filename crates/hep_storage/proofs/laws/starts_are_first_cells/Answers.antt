use Rattle.hep_storage.proofs.Beginnings.{first-start}
use Rattle.hep_storage.proofs.laws.starts_are_first_cells.Goals as goal

pub returns : goal.returns
returns c = first-start
