use Rattle.std.proofs.Common.{◌≡◌, ◌++◌, drop}
use Rattle.hep_private.specs.OwnState.{values_at}
use Rattle.hep_commit.specs.SegmentStarts.{copies_of}
use Rattle.hep_commit.proofs.slots.copy_cells.Given as goal

abbrev pub invariant-loop-cell : goal.invariant-loop-cell
invariant-loop-cell l = l.copies.items ++ copies_of (values_at l.slots l.first) (drop l.cell-index l.cells) ≡ l.initial.copies.items ++ copies_of (values_at l.slots l.first) l.cells
