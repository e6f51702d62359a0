use Rattle.hep_proc.proofs.Openings.{opening-wanted}
use Rattle.hep_proc.proofs.laws.openings_want_unset_cells.Goals as goal

pub returns : goal.returns
returns c = opening-wanted
