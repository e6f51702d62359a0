-- A turn that only begins or ends an activation of a process, which lives on: docs/MACHINE.md, "Steps".
use Rattle.std.specs.Prelude.{◌≡◌, ◌<◌, ◌≤◌, ◌+◌, ◌^◌, ℕ, Bool, true, false, List, ◌∷◌, IsSome, None}
use Rattle.hep_machine.specs.Words.{Units, frame_cells, unit_at}
use Rattle.hep_arena.specs.Holes.{first_fit}
use Rattle.hep_code.specs.Words.{IsPastPushes}
use Rattle.hep_step.specs.NextCalls.{is_creation}
use Rattle.hep_step.specs.Effects.{Effect}
use Rattle.hep_step.specs.Simulation.{unit_code}
use Rattle.hep_proc.specs.declared.process.Local.{Local}
use Rattle.hep_state.specs.declared.core_state.CoreState.{CoreState}
use Rattle.hep_state.specs.declared.turn.TurnOutcome.TheVariants.{Stepped}
use Rattle.hep_state.specs.declared.next_step.NextFunctionReturn.{NextFunctionReturn}
use Rattle.hep_state.specs.declared.next_step.NextCall.{NextCall}
use Rattle.hep_state.specs.Calls.{IsMaking}
use Rattle.hep_state.specs.NextSteps.{IsAtAnswer, IsAtReturn}
use Rattle.hep_state.specs.TurnOutcomes.{HasTurned}
use Rattle.hep_state.specs.TurnParts.{AfterTurns, IsAtCallAhead, IsItsTurn, KeepsRoomOf}
use Rattle.hep_state.specs.Snapshots.{snapshot_of}
use Rattle.hep_state.specs.TurnTaking.{IsToEnd, LeavesOthers}
use Rattle.hep_state.specs.TurnEffects.{HasLevels, HoldsInTurn}

-- ---- the conditions of a turn

-- it is the turn of process p, which has no leading constants
pub record IsSettledTurn (program : Units) (p : ℕ) (m : CoreState) : Type 0 where
  pub turn : IsItsTurn program p m
  pub past : IsPastPushes (unit_code program turn.living.level.unit) turn.living.level.index

-- and one more activation can have a number
pub record CanLiveOn (program : Units) (p : ℕ) (m : CoreState) : Type 0 where
  pub settled : IsSettledTurn program p m
  pub countable : m.activations + 1 < 2 ^ 64

-- process p is at a CALL or reference
pub record CanMakeCall (program : Units) (p : ℕ) (m : CoreState) (call : NextCall) : Type 0 where
  pub at : IsAtCallAhead program p m call
  pub above : is_creation call.way ≡ false
  pub countable : m.activations + 1 < 2 ^ 64

-- its dummy arguments are given this, some operands are kept, and there is a gap for the frame of its activation
pub record CanBeginCall (program : Units) (p : ℕ) (m : CoreState) (call : NextCall) (kept : ℕ) : Type 0 where
  pub calling : CanMakeCall program p m call
  pub making : AfterTurns program m (λ cells choices. HoldsInTurn program cells choices p (snapshot_of m) (λ t. IsMaking call.way t call.unit kept call.next m.passing.given.items m.passing.shapes.items))
  pub gap : IsSome (first_fit (frame_cells (unit_at program call.unit)) m.frames.arena.holes)

-- process p is at RETURN or the END of a subroutine
pub record CanReturn (program : Units) (p : ℕ) (m : CoreState) : Type 0 where
  pub turn : IsItsTurn program p m
  pub at : IsAtReturn program p (snapshot_of m)

-- process p is at the END of a function
pub record CanAnswer (program : Units) (p : ℕ) (m : CoreState) (answer : NextFunctionReturn) : Type 0 where
  pub turn : IsItsTurn program p m
  pub at : IsAtAnswer program p (snapshot_of m) answer

-- the top activation of process p is to end with this effect
abbrev pub IsToEndBy : Units → ℕ → CoreState → Effect → Type 0
IsToEndBy program p m effect = AfterTurns program m (λ cells choices. IsToEnd program cells choices p (snapshot_of m) effect)

-- ---- the results of a turn

-- a turn of process p was a step, which filled and emptied no storage unit
abbrev pub StepsBy : Units → ℕ → CoreState → CoreState → Type 0
StepsBy program p old new = AfterTurns program old (λ cells choices. HasTurned program cells choices p (Stepped None) new)

-- process p still has activations and can go on, no process was made, and at most `more` activations; the other
-- processes are at the same places
pub record LivesOn (p more : ℕ) (old new : CoreState) : Type 0 where
  pub living : HasLevels (snapshot_of new) p
  pub running : new.halted ≡ old.halted
  pub made : new.made ≡ old.made
  pub counted : new.activations ≤ old.activations + more
  pub others : LeavesOthers p (snapshot_of old) (snapshot_of new)

-- the same, if an activation was below its top one
abbrev pub LivesOnBelow : ℕ → CoreState → CoreState → Type 0
LivesOnBelow p old new = (levels : HasLevels (snapshot_of old) p) (l : Local) (ls : List Local) → levels.below ≡ l ∷ ls → LivesOn p 0 old new

-- and the process lives on
pub record StepsOn (program : Units) (p : ℕ) (old new : CoreState) : Type 0 where
  pub turned : StepsBy program p old new
  pub lives : LivesOn p 1 old new

-- the machine shows the same snapshot, with the same room
pub record StaysShown (program : Units) (old new : CoreState) : Type 0 where
  pub shown : snapshot_of new ≡ snapshot_of old
  pub made : new.made ≡ old.made
  pub rooms : KeepsRoomOf program old new

-- such a turn was made, or the snapshot is the same
abbrev pub HasLivedOn : Units → ℕ → CoreState → Bool → CoreState → Type 0
HasLivedOn program p old true new = StepsOn program p old new
HasLivedOn program p old false new = StaysShown program old new
