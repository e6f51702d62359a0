use Rattle.std.proofs.Common.{◌≡◌, ◌++◌, drop}
use Rattle.hep_commit.specs.UndoLogs.{slots_of}
use Rattle.hep_commit.proofs.slots.copy_slots.Given as goal

abbrev pub invariant-loop-cell : goal.invariant-loop-cell
invariant-loop-cell l = l.kept.items ++ slots_of l.first (drop l.cell-index l.cells) l.slots ≡ l.initial.kept.items ++ slots_of l.first l.cells l.slots
