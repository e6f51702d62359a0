-- A history that is made again for an observer: docs/ARCHITECTURE.md, "Forms".
use Rattle.std.specs.Prelude.{◌≡◌, ◌+◌, ◌≤◌, ℕ, List, ◌++◌, drop, length, take, IsSome}
use Rattle.hep_machine.specs.declared.event.Entry.{Entry}
use Rattle.hep_machine.specs.Words.{AreSteps, State, Units, is_held, layout_of, opening, opening_layout, run, schedule_of}
use Rattle.hep_fast.specs.declared.decoded_image.DecodedImage.{DecodedImage}
use Rattle.hep_fast.specs.DecodedImages.{AreTables}
use Rattle.hep_state.specs.Words.{IsMachineAfter}
use Rattle.hep_fold.specs.declared.history_range.HistoryRange.{HistoryRange}
use Rattle.hep_fold.specs.declared.replay_machine.ReplayMachine.{ReplayMachine}
use Rattle.hep_fold.specs.Observers.{IsUnderWay, Replay}
use Rattle.hep_fold.specs.ReplayMachines.{made_by, most_turns}
use Rattle.hep_fold.specs.Turns.{seen_along, turns_from}

-- ---- turns that are left

module _ {O S : Type 0} (knows : Units → Replay → List ℕ → O → S → Type 0) (see : Units → ℕ → ℕ → State → S → S) (tabled : DecodedImage) where
  -- the earlier turns were made, and an observer knows of them; the turns left can be made, and then it will know this
  pub record IsFolding (replay : Replay) (total : S) (left : List (ℕ × ℕ)) (again : ReplayMachine) (o : O) : Type 0 where
    pub seen : S
    pub tables : AreTables tabled.image.now tabled.tables.now
    pub under_way : IsUnderWay tabled.image.now replay (made_by again) left again.machine
    pub numbers : again.machine.made ≤ again.roster.room
    pub known : knows tabled.image.now replay (made_by again) o seen
    pub so_far : seen_along tabled.image.now (see tabled.image.now) (run tabled.image.now (made_by again)) left seen ≡ total

  -- there are turns left, the first of which are these
  abbrev pub CanFold : List (ℕ × ℕ) → ReplayMachine → O → Type 0
  CanFold first again o = (replay : Replay) × (total : S) × (left : List (ℕ × ℕ)) × IsFolding replay total (first ++ left) again o

  -- the turns that are left before something and after it
  abbrev pub Folds : List (ℕ × ℕ) → ReplayMachine → O → List (ℕ × ℕ) → ReplayMachine → O → Type 0
  Folds before old o behind new n =
      (replay : Replay) (total : S) (left : List (ℕ × ℕ)) → IsFolding replay total (before ++ left) old o → IsFolding replay total (behind ++ left) new n

-- ---- whole histories

-- the entries before the end of a range, and those before its start
abbrev pub entries_until : HistoryRange → List Entry
entries_until range = take range.end range.history.now.items

abbrev pub entries_before : HistoryRange → List Entry
entries_before range = take range.start range.history.now.items

-- the turns of the entries in a range
abbrev pub turns_within : HistoryRange → List (ℕ × ℕ)
turns_within range = turns_from (range.start + 1) (drop range.start (entries_until range))

-- all turns before the end of a range, in an arena of this many cells
abbrev pub replay_of : ℕ → HistoryRange → Replay
replay_of cells range = record { cells = cells; turns = turns_from 1 (entries_until range) }

-- the range is one of the history's; all turns before its end can be made in an arena of this many cells, and are no
-- more than a replay makes
pub record CanBeMade (program : Units) (cells : ℕ) (range : HistoryRange) : Type 0 where
  pub fits : IsSome (opening_layout program cells)
  pub order : range.start ≤ range.end
  pub within : range.end ≤ length range.history.now.items
  pub steps : AreSteps program (opening program) (schedule_of (entries_until range))
  pub laid : IsSome (layout_of program cells is_held (schedule_of (entries_until range)))
  pub few : length (schedule_of (entries_until range)) ≤ most_turns

-- a machine has made the turns before a range, in an arena of this many cells, and the turns in it can be made
pub record IsAtStart (tabled : DecodedImage) (cells : ℕ) (range : HistoryRange) (again : ReplayMachine) : Type 0 where
  pub tables : AreTables tabled.image.now tabled.tables.now
  pub possible : CanBeMade tabled.image.now cells range
  pub made : made_by again ≡ schedule_of (entries_before range)
  pub after : IsMachineAfter tabled.image.now cells (made_by again) again.machine
  pub numbers : again.machine.made ≤ again.roster.room

module _ {O S : Type 0} (knows : Units → Replay → List ℕ → O → S → Type 0) (tabled : DecodedImage) (range : HistoryRange) where
  -- and an observer knows this of the turns before the range
  pub record KnowsBefore (again : ReplayMachine) (o : O) (cells : ℕ) (seen : S) : Type 0 where
    pub start : IsAtStart tabled cells range again
    pub known : knows tabled.image.now (replay_of cells range) (schedule_of (entries_before range)) o seen

  -- it knows this of the turns before the end of the range
  abbrev pub KnowsAll : O → ℕ → S → Type 0
  KnowsAll o cells seen = knows tabled.image.now (replay_of cells range) (schedule_of (entries_until range)) o seen

-- what is known at the end of a range, by what was known at its start
abbrev pub seen_within : {S : Type 0} → Units → (ℕ → ℕ → State → S → S) → HistoryRange → S → S
seen_within program see range seen = seen_along program see (run program (schedule_of (entries_before range))) (turns_within range) seen
