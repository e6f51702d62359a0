-- Where a process is behind the steps of a segment, whether the next one is private there, and what is put back of it.
use Rattle.std.proofs.Common.{◌≡◌, ℕ, suc, ◌≤◌, List, length, is_some, false, refl, sym, ap, ◌∙◌, arith}
use Rattle.hep_machine.specs.Words.{Units, numbered, unit_at}
use Rattle.hep_code.specs.Words.{deepest}
use Rattle.hep_image.specs.Image.{most_cells}
use Rattle.hep_image.specs.Private.{private_cells}
use Rattle.hep_step.specs.Simulation.{unit_code}
use Rattle.hep_private.specs.OwnState.{begun, values_at}
use Rattle.hep_private.specs.StepRecords.{next_made}
use Rattle.hep_state.proofs.BindingCalls.{set-numbered}
use Rattle.hep_proc.specs.declared.process.Local.{Local}
use Rattle.hep_proc.specs.Stacks.{stack_with}
use Rattle.hep_private.specs.Segments.{IsMadeFrom, SegmentValue, is_next_private}
use Rattle.hep_state.specs.declared.core_state.CoreState.{CoreState}
use Rattle.hep_state.specs.Words.{HasLevels, IsAfter, IsItsTurn, IsSameButTop, Snapshot, frame_under}
use Rattle.hep_state.proofs.TakenTurns.{room-ahead}
use Rattle.hep_state.proofs.UnchangedStates.{levels-same}
use Rattle.hep_commit.specs.SegmentStarts.{first_of, snapshot_taken, start_in}
use Rattle.hep_commit.specs.OwnCells.{own_cells_of}
use Rattle.hep_commit.specs.UndoLogs.{saved_of, snapshot_restored}
use Rattle.hep_commit.specs.TurnsInPlace.{are_private}
use Rattle.hep_commit.proofs.StandingProcesses.{turns}
use Rattle.hep_commit.proofs.AppliedSegments.{AreTurnsIn, gone}
use Rattle.hep_private.specs.InPlace.{stored_with}

-- ---- where a process is

-- behind the steps of a segment
pub levels-taken : {m : Snapshot} {p : ℕ} (levels : HasLevels m p) (s : SegmentValue) → HasLevels (snapshot_taken levels s) p
levels-taken {m} {p} levels s =
    let before = stack_with levels.level levels.below levels.operands levels.pending in
    let moved = stack_with (record levels.level { index = s.end_index }) levels.below s.end_operands levels.pending in
    record {
      level = record levels.level { index = s.end_index };
      below = levels.below;
      operands = s.end_operands;
      pending = levels.pending;
      kept = set-numbered m.processes p before moved levels.kept;
    }

-- with other operands and another index at its top
pub levels-left : (program : Units) {old new : Snapshot} {p : ℕ} (levels : HasLevels old p) → IsSameButTop program p old new → HasLevels new p
levels-left program {old} {new} {p} levels top =
    let came = top levels in
    let before = stack_with levels.level levels.below levels.operands levels.pending in
    let after = stack_with (record levels.level { index = came.1 }) levels.below came.0 levels.pending in
    record {
      level = record levels.level { index = came.1 };
      below = levels.below;
      operands = came.0;
      pending = levels.pending;
      kept = ap (λ (m : Snapshot). numbered m.processes p) came.2 ∙ set-numbered old.processes p before after levels.kept;
    }

-- of the same unit
pub unit-taken : {m : Snapshot} {p : ℕ} (levels : HasLevels m p) (s : SegmentValue) → (levels-taken levels s).level.unit ≡ levels.level.unit
unfolding levels-taken
unit-taken levels s = refl

pub unit-left : (program : Units) {old new : Snapshot} {p : ℕ} (levels : HasLevels old p) (after : HasLevels new p) → IsSameButTop program p old new → after.level.unit ≡ levels.level.unit
unfolding levels-left
unit-left program levels after top = ap (λ (l : Local). l.unit) (levels-same after (levels-left program levels top)).0

-- whichever levels it has, it is at one start
pub same-start : {m : Snapshot} {p : ℕ} (levels there : HasLevels m p) → start_in levels ≡ start_in there
same-start {m} levels there =
    let same = levels-same levels there in
    λ j. record { unit = (same.0 j).unit; index = (same.0 j).index; operands = same.2 j; values = values_at m.arena.contents (frame_under m.nodes (same.0 j).key).first }

-- it has no more operands than its unit has at most
pub few-operands : {program : Units} {p : ℕ} {m : CoreState} (turn : IsItsTurn program p m) → length turn.living.operands ≤ deepest (unit_code program turn.living.level.unit)
few-operands turn = omega (arith, room-ahead (turns turn))

-- ---- whether the next step is private behind those of a segment

module _ {program : Units} (laws : AreTurnsIn program) {cells : ℕ} {choices : List ℕ} {m : Snapshot} {p : ℕ} (few : cells ≤ most_cells) (after : IsAfter program cells choices m) (running : m.halted ≡ false) (levels : HasLevels m p) (s : SegmentValue)
    (made : IsMadeFrom program (start_in levels) s) where
  pub private-taken : is_next_private program (start_in (levels-taken levels s)) ≡ are_private program (start_in levels) (suc (length s.records))
  unfolding levels-taken
  private-taken =
      (λ j. is_some (next_made (private_cells (unit_at program levels.level.unit)) (unit_code program levels.level.unit) (begun (sym made.1.index j) (sym made.1.operands j) (values_at (stored_with (first_of levels) m.arena.contents s.records) (first_of levels)))))
      ∙ (gone laws few after running levels s made).next

-- ---- what is put back

-- what the law of put back machines says
abbrev pub AreAsBefore : Type 0
AreAsBefore =
    (program : Units) (m new : Snapshot) (p : ℕ) (s : SegmentValue) (levels : HasLevels m p) (after : HasLevels new p) → IsMadeFrom program (start_in levels) s → IsSameButTop program p (snapshot_taken levels s) new
    → snapshot_restored after (own_cells_of program levels.level.unit) (saved_of levels (own_cells_of program levels.level.unit)) ≡ m
