use Rattle.std.proofs.Common.{◌≡◌, ◌++◌, drop}
use Rattle.hep_commit.proofs.own_cells.add_private.Given as goal

abbrev pub invariant-loop-cell : goal.invariant-loop-cell
invariant-loop-cell l = l.cells.items ++ drop l.cell-index l.private ≡ l.initial.cells.items ++ l.private
