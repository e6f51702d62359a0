-- The private state of a process, saved while private steps are made, and restored: docs/MACHINE.md, "Private steps"
-- and "Workers".
use Rattle.std.specs.Prelude.{◌+◌, ℕ, List, [], ◌∷◌, map, slice_set}
use Rattle.hep_machine.specs.Words.{Value}
use Rattle.hep_machine.specs.declared.slot.Slot.{Slot}
use Rattle.hep_image.specs.Addressing.{cells_in}
use Rattle.hep_state.specs.Words.{HasLevels, Snapshot, with_contents, with_stack}
use Rattle.hep_commit.specs.SegmentStarts.{first_of}
use Rattle.hep_commit.specs.declared.undo_log.UndoLog.{UndoLog}

-- the slots of the own cells, the operands, and the index
pub record UndoLogValue : Type 0 where
  pub slots : List Slot
  pub operands : List Value
  pub index : ℕ

abbrev pub saved_value : List Slot → List Value → ℕ → UndoLogValue
saved_value slots operands index = record { slots = slots; operands = operands; index = index }

abbrev pub nothing_saved : UndoLogValue
nothing_saved = saved_value [] [] 0

abbrev pub saved_in : UndoLog → UndoLogValue
saved_in s = saved_value s.slots.items s.operands.items s.index

-- the slots of cells of a frame that begins at `first`
abbrev pub slots_of : ℕ → List ℕ → List Slot → List Slot
slots_of first cells contents = map (λ c. cells_in contents (first + c)) cells

-- the contents of the arena, with these slots in these cells of the frame
abbrev pub with_slots : ℕ → List ℕ → List Slot → List Slot → List Slot
with_slots first [] slots contents = contents
with_slots first (c ∷ cs) [] contents = contents
with_slots first (c ∷ cs) (s ∷ ss) contents = with_slots first cs ss (slice_set contents (first + c) s)

-- what is saved of a process, with these own cells
abbrev pub saved_of : {m : Snapshot} {p : ℕ} → HasLevels m p → List ℕ → UndoLogValue
saved_of {m} levels cells = saved_value (slots_of (first_of levels) cells m.arena.contents) levels.operands levels.level.index

-- the machine in which it is restored
abbrev pub snapshot_restored : {m : Snapshot} {p : ℕ} → HasLevels m p → List ℕ → UndoLogValue → Snapshot
snapshot_restored {m} {p} levels cells saved =
    with_stack (with_contents m (with_slots (first_of levels) cells saved.slots m.arena.contents)) p (record levels.level { index = saved.index } ∷ levels.below)
    saved.operands levels.pending
