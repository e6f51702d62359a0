-- The ready and the waiting processes after a turn that made a step: docs/MACHINE.md, "Which process comes next".
use Rattle.std.specs.Prelude.{◌≡◌, ℕ, ◌+◌, ◌≤◌, ◌||◌, Bool, false, List, Option, Some, slice_get}
use Rattle.std.specs.Option.{is_some}
use Rattle.hep_machine.specs.Words.{Units, is_number_among, living, run}
use Rattle.hep_cells.specs.declared.want.Want.{Want}
use Rattle.hep_image.specs.Image.{most_cells}
use Rattle.hep_blocked.specs.RosterUpdates.{awake_by, awake_where, is_noted, is_woken, is_woken_where}
use Rattle.hep_blocked.specs.Rosters.{RosterValue, want_of}
use Rattle.hep_step.specs.declared.closed_range.ClosedRange.{ClosedRange}
use Rattle.hep_step.specs.PurgeEffects.{have_cell}
use Rattle.hep_state.specs.declared.core_state.CoreState.{CoreState}
use Rattle.hep_state.specs.declared.turn.TurnOutcome.{TurnOutcome}
use Rattle.hep_state.specs.declared.turn.TurnOutcome.TheVariants.{Stepped, Purged, Waits}
use Rattle.hep_state.specs.Words.{AreNumbered, snapshot_of, IsAfter}

-- the ready processes after a step of process p, before which `made` processes had been made: those that were ready
-- and still live, and one that was made
abbrev pub NotesReady : ℕ → ℕ → CoreState → List ℕ → List ℕ → Type 0
NotesReady p made m old new =
    (program : Units) (cells : ℕ) (choices : List ℕ) → IsAfter program cells choices (snapshot_of m) → (q : ℕ)
    → is_number_among q new ≡ is_noted p (is_some (living (run program choices) p)) made m.made old q

-- each process that was made has room to be enrolled, and none was enrolled that wasn't made
pub record HasRoomLeft (m : CoreState) (roster : RosterValue) : Type 0 where
  pub room : m.made ≤ roster.room
  pub last : roster.last ≤ m.made

-- `made` processes had been made before, all enrolled ones among them; those that are made have room to be enrolled,
-- and the kept ones rise by their numbers
pub record CanNote (roster : RosterValue) (made : ℕ) (m : CoreState) : Type 0 where
  pub last : roster.last ≤ made
  pub more : made ≤ m.made
  pub room : m.made ≤ roster.room
  pub numbers : AreNumbered m

-- the want that a process still has after a turn, by what the turn changed or by the cells that a PURGE emptied
abbrev pub awake_after : TurnOutcome → List ClosedRange → Option Want → Option Want
awake_after (Stepped changed) emptied waiting = awake_by changed waiting
awake_after Purged emptied waiting = awake_where (have_cell emptied) waiting
awake_after (Waits want) emptied waiting = waiting

abbrev pub is_woken_after : TurnOutcome → List ClosedRange → (ℕ → Option Want) → ℕ → Bool
is_woken_after (Stepped changed) emptied waiting q = is_woken changed waiting q
is_woken_after Purged emptied waiting q = is_woken_where (have_cell emptied) waiting q
is_woken_after (Waits want) emptied waiting q = false

-- the cells that a PURGE emptied lie in an arena
abbrev pub AreInArena : TurnOutcome → List ClosedRange → Type 0
AreInArena Purged emptied = (i : ℕ) (r : ClosedRange) → slice_get emptied i ≡ Some r → r.first + r.cells ≤ most_cells
AreInArena _ emptied = Unit {0}

-- the waiting and the ready processes after a turn of process p that made a step, before which `made` processes had
-- been made
pub record GoAlongTurn (p made : ℕ) (turned : TurnOutcome) (m : CoreState) (old new : RosterValue) : Type 0 where
  pub waiting : (q : ℕ) → want_of new.waiting q ≡ awake_after turned m.passing.ranges.items (want_of old.waiting q)
  pub ready : (program : Units) (cells : ℕ) (choices : List ℕ) → IsAfter program cells choices (snapshot_of m) → (q : ℕ)
      → is_number_among q new.ready
      ≡ (is_woken_after turned m.passing.ranges.items (want_of old.waiting) q || is_noted p (is_some (living (run program choices) p)) made m.made old.ready q)
