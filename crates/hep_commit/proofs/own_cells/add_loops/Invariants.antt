use Rattle.std.proofs.Common.{◌≡◌, ◌++◌, None, drop}
use Rattle.hep_commit.specs.OwnCells.{loop_cells_behind}
use Rattle.hep_commit.proofs.own_cells.add_loops.Given as goal

abbrev pub invariant-loop-instruction : goal.invariant-loop-instruction
invariant-loop-instruction l = l.cells.items ++ loop_cells_behind l.last (drop l.instruction-index l.code) ≡ l.initial.cells.items ++ loop_cells_behind None l.code
