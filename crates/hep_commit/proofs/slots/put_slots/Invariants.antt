use Rattle.std.proofs.Common.{◌≡◌, drop}
use Rattle.hep_commit.specs.UndoLogs.{with_slots}
use Rattle.hep_commit.proofs.slots.put_slots.Given as goal

abbrev pub invariant-loop-cell : goal.invariant-loop-cell
invariant-loop-cell l = with_slots l.first (drop l.cell-index l.cells) l.rest l.slots ≡ with_slots l.first l.cells l.kept l.initial.slots
