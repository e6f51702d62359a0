use Rattle.hep_machine.proofs.CellStates.{states_kept}
use Rattle.hep_machine.proofs.laws.one_cell_changes_state.Goals as goal

pub returns : goal.returns
returns c = states_kept
