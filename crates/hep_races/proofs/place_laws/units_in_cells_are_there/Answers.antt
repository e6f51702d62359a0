use Rattle.hep_races.proofs.UnitsInCells.{there}
use Rattle.hep_races.proofs.place_laws.units_in_cells_are_there.Goals as goal

pub returns : goal.returns
returns c program cells choices layout at cell laid e = there program cells choices layout laid at cell e
