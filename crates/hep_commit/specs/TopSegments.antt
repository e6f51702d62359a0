-- The top activation of a process, and how the steps of a segment change it.
use Rattle.std.specs.Prelude.{◌≡◌, ◌<◌, ◌≤◌, ℕ, List, length, vec_capacity}
use Rattle.hep_machine.specs.Words.{Units, Value}
use Rattle.hep_machine.specs.declared.slot.Slot.{Slot}
use Rattle.hep_code.specs.Words.{deepest}
use Rattle.hep_step.specs.Simulation.{unit_code}
use Rattle.hep_private.specs.declared.record.Record.{Record}
use Rattle.hep_private.specs.OwnState.{values_at}
use Rattle.hep_proc.specs.declared.frames.Frames.{Frames}
use Rattle.hep_proc.specs.declared.process.Local.{Local}
use Rattle.hep_proc.specs.declared.process.Process.{Process}
use Rattle.hep_proc.specs.Nodes.{nodes_of}
use Rattle.hep_proc.specs.Stacks.{HoldsOfTop, stack_of, stack_with}
use Rattle.hep_private.specs.Segments.{IsMadeFrom, SegmentValue, Start, segment_value}
use Rattle.hep_private.specs.declared.ticket.TicketId.{TicketId}
use Rattle.hep_state.specs.Words.{IsThere, frame_under}
use Rattle.hep_commit.specs.OwnCells.{AreOwnCells, own_cells_of}
use Rattle.hep_commit.specs.UndoLogs.{UndoLogValue, saved_value, slots_of, with_slots}
use Rattle.hep_commit.specs.declared.own_cells.OwnCellTable.{OwnCellTable}
use Rattle.hep_private.specs.InPlace.{stored_with}

-- the first cell of the frame of a level
abbrev pub first_under : Frames → Local → ℕ
first_under frames l = (frame_under (nodes_of frames.nodes) l.key).first

-- the start at the place of its activation
abbrev pub start_under : Frames → Local → List Value → Start
start_under frames l operands =
    record { unit = l.unit; index = l.index; operands = operands; values = values_at frames.arena.contents (first_under frames l) }

-- a statement holds of the start of the top activation
abbrev pub HoldsOfStart : Process → Frames → (Start → Type 0) → Type 0
HoldsOfStart q frames IsSo = HoldsOfTop q (λ l _ operands _. IsSo (start_under frames l operands))

-- the segment of a ticket with these records from a start
abbrev pub segment_from : TicketId → Start → List Record → ℕ → List Value → SegmentValue
segment_from id start records index left = segment_value id start.unit start.index start.operands records index left

-- the process has other operands and another index
abbrev pub StandsWith : Process → List Value → ℕ → Process → Type 0
StandsWith old left index new =
    HoldsOfTop old (λ l ls _ pending. stack_of new ≡ stack_with (record l { index = index }) ls left pending)

-- the frame has the stores of steps with these records
abbrev pub StoresIn : Process → Frames → List Record → Frames → Type 0
StoresIn q old records new =
    HoldsOfTop q (λ l _ _ _. new.arena.contents ≡ stored_with (first_under old l) old.arena.contents records)

-- n private steps of its top activation were made in its frame, which lead there
pub record MakesPrivate (program : Units) (old : Process) (before : Frames) (n : ℕ) (new : Process) (after : Frames) : Type 0 where
  pub records : List Record
  pub left : List Value
  pub index : ℕ
  pub count : length records ≡ n
  pub made : (id : TicketId) → HoldsOfStart old before (λ start. IsMadeFrom program start (segment_from id start records index left))
  pub stack : StandsWith old left index new
  pub cells : StoresIn old before records after

-- its own cells have these slots
abbrev pub RestoresCells : Units → Process → Frames → List Slot → Frames → Type 0
RestoresCells program q old slots new =
    HoldsOfTop q (λ l _ _ _. new.arena.contents ≡ with_slots (first_under old l) (own_cells_of program l.unit) slots old.arena.contents)

-- the saved state is that of the top activation
abbrev pub KeepsTop : Units → Process → Frames → UndoLogValue → Type 0
KeepsTop program q frames saved =
    HoldsOfTop q (λ l _ operands _.
    saved ≡ saved_value (slots_of (first_under frames l) (own_cells_of program l.unit) frames.arena.contents) operands l.index)

-- its unit and its frame exist, and it has no more operands than its unit has at most
pub record IsStanding (program : Units) (q : Process) (frames : Frames) : Type 0 where
  pub l : Local
  pub ls : List Local
  pub operands : List Value
  pub pending : List Value
  pub stack : stack_of q ≡ stack_with l ls operands pending
  pub there : IsThere program (nodes_of frames.nodes) l
  pub few : length operands ≤ deepest (unit_code program l.unit)

-- and the tables are those of the image
abbrev pub IsOwned : OwnCellTable → Process → Frames → Type 0
IsOwned owned q frames = AreOwnCells owned.image.now owned.tables.now × IsStanding owned.image.now q frames

-- a segment's unit exists, and its operands at the end have room
pub record IsFor (program : Units) (q : Process) (s : SegmentValue) : Type 0 where
  pub inside : s.unit < length program
  pub room : length s.end_operands ≤ vec_capacity q.operands
