-- One turn of a process in a machine, in its parts: docs/MACHINE.md, "Steps".
use Rattle.std.specs.Prelude.{◌≡◌, ◌≢◌, ◌≤◌, ◌+◌, ℕ, List, [], ◌∷◌, ◌++◌, drop, length, Some}
use Rattle.hep_machine.specs.Words.{Value, Units, Work, numbered}
use Rattle.hep_code.specs.declared.instruction.Instruction.{Instruction}
use Rattle.hep_code.specs.Words.{IsPastPushes, Stands, deepest, left_to_do, most_operands}
use Rattle.hep_layout.specs.Words.{Nodes}
use Rattle.hep_image.specs.declared.array.Array.{Array}
use Rattle.hep_step.specs.declared.frame.Frame.{Frame as CellFrame}
use Rattle.hep_step.specs.declared.effect.Effect.{Effect}
use Rattle.hep_step.specs.declared.effect.Effect.TheVariants.{Moved, Printed, Failed, Waits, Returned, Answered, Stopped, LeftOut}
use Rattle.hep_step.specs.Effects as effects
use Rattle.hep_step.specs.StepReady.{frame_in_arena}
use Rattle.hep_step.specs.Simulation.{unit_addressed, unit_arrays, unit_code}
use Rattle.hep_proc.specs.declared.process.Local.{Local}
use Rattle.hep_proc.specs.Stacks.{Stack}
use Rattle.hep_state.specs.TopPlace.{frame_under}
use Rattle.hep_state.specs.Snapshots.{Snapshot}
use Rattle.hep_state.specs.TurnEffects.{HasLevels, HoldsInTurn, IsEffectOf, IsTurning, TurnOf, snapshot_stopped, with_stack}
use Rattle.hep_state.specs.Turns.{HasStepped, HasWaited}

-- ---- the place of a process's top activation

-- the code after its operation, its unit's arrays, and its frame; the unit's deepest stack of operands is within the
-- limit
pub record IsBehind (program : Units) (nodes : Nodes) (l : Local) (entries : List Instruction) (arrays : List Array) (frame : CellFrame) : Type 0 where
  pub behind : entries ≡ drop (l.index + 1) (unit_code program l.unit)
  pub arrays_are : arrays ≡ unit_arrays program l.unit
  pub framed : frame ≡ frame_in_arena (frame_under nodes l.key)
  pub few : deepest (unit_code program l.unit) ≤ most_operands

-- ---- the next operation

-- the leading constants were pushed
pub record IsSettled (program : Units) (unit : ℕ) (operands : List Value) (index : ℕ) (new : List Value) (after : ℕ) : Type 0 where
  pub past : IsPastPushes (unit_code program unit) after
  pub stands : (k : ℕ) (work : Work) → Stands (unit_addressed program unit) k work operands index → Stands (unit_addressed program unit) k work new after

-- ---- the rest of a turn

-- the top activation ends with this effect, which is that of the source machine's step
pub record IsEnding (t : TurnOf) (effect : effects.Effect) : Type 0 where
  pub turning : IsTurning t
  pub simulated : IsEffectOf t turning effect

-- the top activation of process p does so
abbrev pub IsToEnd : Units → ℕ → List ℕ → ℕ → Snapshot → effects.Effect → Type 0
IsToEnd program cells choices p m effect = HoldsInTurn program cells choices p m (λ t. IsEnding t effect)

-- after the operation the machine shows the state after the turn, with the record or the stop; or the process waits;
-- or an activation has to end
abbrev pub IsLeft : Units → ℕ → List ℕ → ℕ → Snapshot → Effect → Type 0
IsLeft program cells choices p m (Moved changed) = HasStepped program cells choices p m
IsLeft program cells choices p m (Printed items) = HasStepped program cells choices p (record m { records = m.records ++ items ∷ [] })
IsLeft program cells choices p m (Failed line kind) = IsToEnd program cells choices p m (effects.fails line kind)
IsLeft program cells choices p m (Waits want) = HasWaited program cells choices p want.cell want.full m
IsLeft program cells choices p m Returned = IsToEnd program cells choices p m effects.returns
IsLeft program cells choices p m (Answered v) = IsToEnd program cells choices p m (effects.answers v)
IsLeft program cells choices p m Stopped = HasStepped program cells choices p (snapshot_stopped m)
IsLeft program cells choices p m LeftOut = ⊥

-- the rest of the unit's code to be executed is the same, whether leading constants are pushed or not
abbrev pub LeavesSame : Units → ℕ → List Value → ℕ → List Value → ℕ → Type 0
LeavesSame program unit operands index new after =
    left_to_do new after (unit_code program unit) ≡ left_to_do operands index (unit_code program unit)

-- all is the same, but that leading constants of process p may have been pushed
abbrev pub IsSameButTop : Units → ℕ → Snapshot → Snapshot → Type 0
IsSameButTop program p old new =
    (levels : HasLevels old p) → (operands : List Value) × (index : ℕ)
    × (new ≡ with_stack old p (record levels.level { index = index } ∷ levels.below) operands levels.pending)
    × LeavesSame program levels.level.unit levels.operands levels.level.index operands index

-- and they were pushed
abbrev pub HasSettledTop : Units → ℕ → Snapshot → Snapshot → Type 0
HasSettledTop program p old new =
    (levels : HasLevels old p) → (operands : List Value) × (index : ℕ)
    × (new ≡ with_stack old p (record levels.level { index = index } ∷ levels.below) operands levels.pending)
    × LeavesSame program levels.level.unit levels.operands levels.level.index operands index
    × IsSettled program levels.level.unit levels.operands levels.level.index operands index

-- the stacks of all processes but p are the same, of those that were made before
abbrev pub LeavesOthers : ℕ → Snapshot → Snapshot → Type 0
LeavesOthers p old new = (q : ℕ) (k : Stack) → q ≢ p → numbered old.processes q ≡ Some k → numbered new.processes q ≡ Some k

-- the views of two machines are the same, except for the places of processes
pub record IsSeenSame (old new : Snapshot) : Type 0 where
  pub arena : new.arena ≡ old.arena
  pub nodes : new.nodes ≡ old.nodes
  pub processes : length new.processes ≡ length old.processes
  pub activations : new.activations ≡ old.activations
  pub records : new.records ≡ old.records
  pub faults : new.faults ≡ old.faults
  pub halted : new.halted ≡ old.halted
