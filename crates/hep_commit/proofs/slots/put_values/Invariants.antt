use Rattle.std.proofs.Common.{◌≡◌, drop}
use Rattle.hep_private.specs.OwnState.{values_at}
use Rattle.hep_commit.specs.BatchStarts.{slots_with}
use Rattle.hep_commit.specs.UndoLogs.{with_slots}
use Rattle.hep_commit.proofs.slots.put_values.Given as goal

abbrev pub invariant-loop-cell : goal.invariant-loop-cell
invariant-loop-cell l =
    with_slots l.first (drop l.cell-index l.cells) (slots_with (values_at l.copies 0) (drop l.cell-index l.cells)) l.slots
    ≡ with_slots l.first l.cells (slots_with (values_at l.copies 0) l.cells) l.initial.slots
