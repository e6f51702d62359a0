-- A turn of private steps in place, with the step after them: docs/MACHINE.md, "Private steps" and "Workers".
use Rattle.std.specs.Prelude.{◌≡◌, ◌<◌, ◌⊎◌, ℕ, suc, Bool, true, false, is_some, length}
use Rattle.hep_machine.specs.Words.{Units, unit_at}
use Rattle.hep_image.specs.Private.{private_cells}
use Rattle.hep_step.specs.Simulation.{unit_code}
use Rattle.hep_private.specs.OwnState.{begun}
use Rattle.hep_private.specs.StepRecords.{recorded}
use Rattle.hep_advance.specs.DecodedImages.{AreTables}
use Rattle.hep_private.specs.declared.ticket.TicketId.{TicketId}
use Rattle.hep_private.specs.Segments.{SegmentValue, Start, most_records}
use Rattle.hep_state.specs.declared.core_state.CoreState.{CoreState}
use Rattle.hep_state.specs.Words.{HasLevels, KeepsState, snapshot_of}
use Rattle.hep_commit.specs.SegmentStarts.{start_in}
use Rattle.hep_commit.specs.OwnCells.{AreOwnCells}
use Rattle.hep_commit.specs.Application.{CanTake, IsNextPrivateIn}
use Rattle.hep_commit.specs.declared.turns_in_place.PreparedProgram.{PreparedProgram}

-- the tables, the own cells and the private code are those of the image
pub record IsPrepared (prepared : PreparedProgram) : Type 0 where
  pub tables : AreTables prepared.image.now prepared.tables.now
  pub own : AreOwnCells prepared.image.now prepared.own.now
  pub ahead : prepared.ahead.now ≡ prepared.image.now

-- the next n steps from a start are private
abbrev pub are_private : Units → Start → ℕ → Bool
are_private program start n =
    is_some (
    recorded (private_cells (unit_at program start.unit)) (unit_code program start.unit) n (begun start.index start.operands start.values))

-- ---- turns in place

-- the turn is the steps of a segment, which come next, one at least, and the step after them, which isn't private; or
-- that step is private and is left out, and the segment has as many steps as it may have
pub record IsMadeOfRecords (program : Units) (old : CoreState) (n : ℕ) (s : SegmentValue) : Type 0 where
  pub can : CanTake program s old
  pub some : 0 < length s.records
  pub total : ((n ≡ suc (length s.records)) × (are_private program (start_in can.turn.living) (suc (length s.records)) ≡ false))
      ⊎ ((n ≡ length s.records) × (length s.records ≡ most_records) × (are_private program (start_in can.turn.living) (suc (length s.records)) ≡ true))

-- the turn has n steps, whichever ticket of process p the segment is made of
abbrev pub IsMadeInPlace : Units → ℕ → CoreState → ℕ → Type 0
IsMadeInPlace program p old n =
    (id : TicketId) → id.process ≡ p → (s : SegmentValue) × (s.id ≡ id) × IsMadeOfRecords program old n s

-- the next n steps of process p are private
abbrev pub ArePrivateIn : Units → ℕ → CoreState → ℕ → Type 0
ArePrivateIn program p m n = (levels : HasLevels (snapshot_of m) p) → are_private program (start_in levels) n ≡ true

-- ---- its parts

-- after private steps, one at least, the next step isn't private and adds one to their number; or it is private, and
-- the number stays, which is the greatest of a segment
abbrev pub IsEndBehind : Units → ℕ → CoreState → ℕ → ℕ → Type 0
IsEndBehind program p old n total =
    (0 < n)
    × (((total ≡ suc n) × IsNextPrivateIn false program p old) ⊎ ((total ≡ n) × (n ≡ most_records) × IsNextPrivateIn true program p old))

-- the machine shows the same snapshot, and keeps each state that it kept
pub record IsAsBefore (program : Units) (old new : CoreState) : Type 0 where
  pub shown : snapshot_of new ≡ snapshot_of old
  pub kept : KeepsState program old new
  pub made : new.made ≡ old.made
