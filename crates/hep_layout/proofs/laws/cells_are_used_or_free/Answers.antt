use Rattle.hep_layout.proofs.Memory.{memory-cells}
use Rattle.hep_layout.proofs.laws.cells_are_used_or_free.Goals as goal

pub returns : goal.returns
returns c = memory-cells
