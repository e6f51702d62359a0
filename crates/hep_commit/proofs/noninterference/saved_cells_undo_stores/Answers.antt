use Rattle.hep_commit.proofs.SavedCells.{saved-undo}
use Rattle.hep_commit.proofs.noninterference.saved_cells_undo_stores.Goals as goal

pub returns : goal.returns
returns c first contents cells records of = saved-undo first contents cells records of
