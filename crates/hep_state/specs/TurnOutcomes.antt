-- The result of a turn, and what it may mean for waiting processes: docs/MACHINE.md, "Which process comes next".
use Rattle.std.specs.Prelude.{◌≡◌, ◌≢◌, ℕ, true, false, not, List, [], ◌∷◌, ◌++◌, Option, Some, None}
use Rattle.hep_machine.specs.Words.{Units, Layout, is_held, layout_of, run, Location, step}
use Rattle.hep_cells.specs.declared.want.Want.{Want}
use Rattle.hep_layout.specs.Words.{address}
use Rattle.hep_blocked.specs.RosterUpdates.{HasChanged}
use Rattle.hep_step.specs.declared.closed_range.ClosedRange.{ClosedRange}
use Rattle.hep_step.specs.PurgeEffects.{have_cell}
use Rattle.hep_step.specs.PurgeReady.{AreReached}
use Rattle.hep_step.specs.declared.effect.Effect.{Effect}
use Rattle.hep_step.specs.declared.effect.Effect.TheVariants as effect
use Rattle.hep_state.specs.declared.core_state.CoreState.{CoreState}
use Rattle.hep_state.specs.declared.turn.TurnOutcome.{TurnOutcome}
use Rattle.hep_state.specs.declared.turn.TurnOutcome.TheVariants.{Stepped, Purged, Waits}
use Rattle.hep_state.specs.OperandRoom.{IsMachineAfter}
use Rattle.hep_state.specs.Snapshots.{Snapshot, snapshot_of}
use Rattle.hep_state.specs.TurnTaking.{IsSameButTop, LeavesOthers}
use Rattle.hep_state.specs.Turns.{HasWaited}

-- the step of process p fills or empties the storage unit in the changed cell, if one is given, and leaves each other
-- one as full as it was
pub record Changes (program : Units) (cells : ℕ) (choices : List ℕ) (p : ℕ) (changed : Option Want) : Type 0 where
  pub told : (layout : Layout) → layout_of program cells is_held choices ≡ Some layout → HasChanged program choices p layout changed
  pub differs : (w : Want) (layout : Layout) (at : Location) → changed ≡ Some w → layout_of program cells is_held choices ≡ Some layout → address program (run program choices) layout at ≡ Some w.cell
      → ((run program choices).store at).full ≡ not w.full

-- each storage unit that is kept in a cell of these ranges is empty after the step, and each other one is as full as before
pub record HasPurged (program : Units) (cells : ℕ) (choices : List ℕ) (p : ℕ) (ranges : List ClosedRange) : Type 0 where
  pub emptied : (layout : Layout) (at : Location) (c : ℕ) → layout_of program cells is_held choices ≡ Some layout → address program (run program choices) layout at ≡ Some c → have_cell ranges c ≡ true
      → ((run program (choices ++ p ∷ [])).store at).full ≡ false
  pub others : (layout : Layout) (at : Location) (c : ℕ) → layout_of program cells is_held choices ≡ Some layout → address program (run program choices) layout at ≡ Some c → have_cell ranges c ≡ false
      → ((run program (choices ++ p ∷ [])).store at).full ≡ ((run program choices).store at).full

-- after these turns p made a step, which changed this cell alone, if one is given, or emptied the cells of a PURGE;
-- or it waits
abbrev pub HasTurned : Units → ℕ → List ℕ → ℕ → TurnOutcome → CoreState → Type 0
HasTurned program cells choices p (Stepped changed) new =
    (step program p (run program choices) ≢ None) × IsMachineAfter program cells (choices ++ p ∷ []) new
    × Changes program cells choices p changed
HasTurned program cells choices p Purged new =
    (step program p (run program choices) ≢ None) × IsMachineAfter program cells (choices ++ p ∷ []) new
    × HasPurged program cells choices p new.passing.ranges.items × AreReached new.frames.arena new.passing.ranges.items
HasTurned program cells choices p (Waits want) new =
    HasWaited program cells choices p want.cell want.full (snapshot_of new) × IsMachineAfter program cells choices new

-- where the process waits, its leading constants may have been pushed, and nothing else has changed; a step leaves
-- the other processes at their places
abbrev pub LeavesRest : TurnOutcome → Units → ℕ → Snapshot → Snapshot → Type 0
LeavesRest (Waits want) program p old new = IsSameButTop program p old new
LeavesRest _ program p old new = LeavesOthers p old new

-- an operation that waits changes nothing
abbrev pub StaysWaiting : Effect → Snapshot → Snapshot → Type 0
StaysWaiting (effect.Waits want) old new = new ≡ old
StaysWaiting _ old new = Unit {0}
