use Rattle.std.proofs.Common.{◌↔◌, drop}
use Rattle.hep_private.specs.OwnState.{values_at}
use Rattle.hep_commit.specs.BatchStarts.{AreThere}
use Rattle.hep_commit.proofs.batch_validation.are_there.Given as goal

abbrev pub invariant-loop-cell : goal.invariant-loop-cell
invariant-loop-cell l = AreThere l.first l.slots (values_at l.copies 0) l.cells ↔ AreThere l.first l.slots (values_at l.copies 0) (drop l.cell-index l.cells)
