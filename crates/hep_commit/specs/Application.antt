-- The contracts of private steps in a machine: docs/MACHINE.md, "Private steps" and "Workers".
use Rattle.std.specs.Prelude.{◌≡◌, ◌≤◌, ◌↔◌, IsTrue, ℕ, Bool, length}
use Rattle.hep_machine.specs.Words.{Units}
use Rattle.hep_code.specs.Words.{deepest}
use Rattle.hep_step.specs.Simulation.{unit_code}
use Rattle.hep_private.specs.declared.ticket.TicketId.{TicketId}
use Rattle.hep_private.specs.Segments.{IsMadeFrom, SegmentValue, TicketValue, is_next_private}
use Rattle.hep_state.specs.declared.core_state.CoreState.{CoreState}
use Rattle.hep_state.specs.Words.{HasLevels, IsItsTurn, snapshot_of}
use Rattle.hep_commit.specs.SegmentStarts.{snapshot_taken, start_in, ticket_of}
use Rattle.hep_commit.specs.OwnCells.{AreOwnCells, own_cells_of}
use Rattle.hep_commit.specs.UndoLogs.{UndoLogValue, saved_of, snapshot_restored}
use Rattle.hep_commit.specs.declared.own_cells.OwnCellTable.{OwnCellTable}

-- ---- tickets

-- it is the turn of process p, and the tables are those of the image
abbrev pub CanStart : OwnCellTable → ℕ → CoreState → Type 0
CanStart owned p m = AreOwnCells owned.image.now owned.tables.now × IsItsTurn owned.image.now p m

-- the ticket has the place of its process, and copies of its own cells
abbrev pub IsTicketOf : Units → TicketId → CoreState → TicketValue → Type 0
IsTicketOf program id m ticket =
    (levels : HasLevels (snapshot_of m) id.process) → ticket ≡ ticket_of id (start_in levels) (own_cells_of program levels.level.unit)

-- ---- segments

-- the result is whether the segment's steps are the private ones that come next of its process
abbrev pub IsMadeIn : Bool → Units → CoreState → SegmentValue → Type 0
IsMadeIn result program m s = (levels : HasLevels (snapshot_of m) s.id.process) → IsTrue result ↔ IsMadeFrom program (start_in levels) s

-- the result is whether the next step of process p is private
abbrev pub IsNextPrivateIn : Bool → Units → ℕ → CoreState → Type 0
IsNextPrivateIn result program p m = (levels : HasLevels (snapshot_of m) p) → result ≡ is_next_private program (start_in levels)

-- the steps of a segment can be made
pub record CanTake (program : Units) (s : SegmentValue) (m : CoreState) : Type 0 where
  pub turn : IsItsTurn program s.id.process m
  pub made : IsMadeFrom program (start_in turn.living) s

-- the steps of a segment were made
abbrev pub HasTakenIn : SegmentValue → CoreState → CoreState → Type 0
HasTakenIn s old new = (levels : HasLevels (snapshot_of old) s.id.process) → snapshot_of new ≡ snapshot_taken levels s

-- n private steps of process p were made, which are those of a segment, whichever ticket of p it is made of
abbrev pub HasMadePrivate : Units → ℕ → CoreState → ℕ → CoreState → Type 0
HasMadePrivate program p old n new =
    (id : TicketId) → id.process ≡ p → (s : SegmentValue) × (s.id ≡ id) × (length s.records ≡ n) × CanTake program s old × HasTakenIn s old new

-- ---- what is saved of a process

-- the saved state is that of process p
abbrev pub IsSavedOf : Units → ℕ → CoreState → UndoLogValue → Type 0
IsSavedOf program p m saved = (levels : HasLevels (snapshot_of m) p) → saved ≡ saved_of levels (own_cells_of program levels.level.unit)

-- it can be restored, since the operands have room
pub record CanRestore (owned : OwnCellTable) (p : ℕ) (saved : UndoLogValue) (m : CoreState) : Type 0 where
  pub tables : AreOwnCells owned.image.now owned.tables.now
  pub turn : IsItsTurn owned.image.now p m
  pub room : length saved.operands ≤ deepest (unit_code owned.image.now turn.living.level.unit)

-- it was restored
abbrev pub HasRestored : Units → ℕ → UndoLogValue → CoreState → CoreState → Type 0
HasRestored program p saved old new =
    (levels : HasLevels (snapshot_of old) p) → snapshot_of new ≡ snapshot_restored levels (own_cells_of program levels.level.unit) saved
