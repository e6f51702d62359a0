-- A process whose turn it is, and how a turn changes a core's machine: docs/MACHINE.md, "Steps".
use Rattle.std.specs.Prelude.{◌≡◌, ℕ, false, true, List, [], ◌∷◌, ◌++◌, Some}
use Rattle.hep_machine.specs.Words.{Value, Units, Frame, is_held, living, numbered, with_numbered, with_process, run, Process, State, Top, fault_of, stack_after_return, stack_after_value}
use Rattle.hep_machine.specs.declared.event.Fault.{Fault}
use Rattle.hep_machine.specs.declared.event.Kind.{Kind}
use Rattle.hep_machine.specs.declared.record.Item.{Item}
use Rattle.hep_machine.specs.declared.slot.Slot.{Slot}
use Rattle.hep_machine.specs.State.{Level as SourceLevel}
use Rattle.hep_arena.specs.Space.{Space}
use Rattle.hep_layout.specs.Words.{Nodes}
use Rattle.hep_proc.specs.FrameTable.{FramesOf, HasLeft, frames_in}
use Rattle.hep_step.specs.Effects.{Effect}
use Rattle.hep_step.specs.Simulation.{IsRunning, RunningTop, Simulates}
use Rattle.hep_proc.specs.declared.process.Local.{Local}
use Rattle.hep_proc.specs.Stacks.{Stack, operands_answered, pending_answered, stack_with}
use Rattle.hep_state.specs.TopPlace.{frame_under}
use Rattle.hep_state.specs.Snapshots.{Snapshot}
use Rattle.hep_state.specs.Turns.{HasStepped, IsAfter}

-- ---- levels

-- process p has activations: the top level, the levels below it, and their operands
pub record HasLevels (m : Snapshot) (p : ℕ) : Type 0 where
  pub level : Local
  pub below : List Local
  pub operands : List Value
  pub pending : List Value
  pub kept : numbered m.processes p ≡ Some (stack_with level below operands pending)

-- ---- turns

-- a process whose turn it is, in a machine after some turns: the program, the arena's cells, those turns, the
-- machine, the process, its levels, the top one first, the operands of the top level and of those below, and its
-- levels in the source machine
pub record TurnOf : Type 0 where
  pub program : Units
  pub cells : ℕ
  pub choices : List ℕ
  pub machine : Snapshot
  pub process : ℕ
  pub level : Local
  pub below : List Local
  pub operands : List Value
  pub pending : List Value
  pub top : SourceLevel × Process

-- the turn of a process with these levels
abbrev pub turn_with : Units → ℕ → List ℕ → {m : Snapshot} {p : ℕ} → HasLevels m p → SourceLevel × Process → TurnOf
turn_with program cells choices {m} {p} levels top =
    record {
      program = program;
      cells = cells;
      choices = choices;
      machine = m;
      process = p;
      level = levels.level;
      below = levels.below;
      operands = levels.operands;
      pending = levels.pending;
      top = top;
    }

-- the state before the turn, the process in it with its top activation, and the frame of that
abbrev pub state_before : TurnOf → State
state_before t = run t.program t.choices

abbrev pub top_before : TurnOf → Top
top_before t = record { state = state_before t; process = t.process; level = t.top.0; below = t.top.1 }

abbrev pub top_frame : TurnOf → Frame
top_frame t = frame_under t.machine.nodes t.level.key

-- the process lives after those turns, and these are its levels and its operands
pub record IsTurning (t : TurnOf) : Type 0 where
  pub after : IsAfter t.program t.cells t.choices t.machine
  pub running : (state_before t).halted ≡ false
  pub kept : numbered t.machine.processes t.process ≡ Some (stack_with t.level t.below t.operands t.pending)
  pub lives : living (state_before t) t.process ≡ Some t.top

-- its levels
abbrev pub levels_turning : (t : TurnOf) → IsTurning t → HasLevels t.machine t.process
levels_turning t turning = record { level = t.level; below = t.below; operands = t.operands; pending = t.pending; kept = turning.kept }

-- a statement holds in the turn of process p, in a machine after these turns
pub record HoldsInTurn (program : Units) (cells : ℕ) (choices : List ℕ) (p : ℕ) (m : Snapshot) (IsSo : TurnOf → Type 0) : Type 0 where
  pub levels : HasLevels m p
  pub top : SourceLevel × Process
  pub holds : IsSo (turn_with program cells choices levels top)

abbrev pub turn_of : {program : Units} {cells : ℕ} {choices : List ℕ} {p : ℕ} {m : Snapshot} {IsSo : TurnOf → Type 0} → HoldsInTurn program cells choices p m IsSo → TurnOf
turn_of {program} {cells} {choices} at = turn_with program cells choices at.levels at.top

-- the frames of the state before it
abbrev pub frames_before : (t : TurnOf) → IsTurning t → FramesOf
frames_before t turning = frames_in t.program (state_before t) (is_held (state_before t)) turning.after.layout

-- the top activation, in the arena and in the code
abbrev pub running_top : (t : TurnOf) → IsTurning t → RunningTop
running_top t turning =
    record {
      program = t.program;
      top = top_before t;
      layout = turning.after.layout;
      frame = top_frame t;
      arena = t.machine.arena;
      operands = t.operands;
      index = t.level.index;
    }

-- the top activation satisfies what the laws of steps require
abbrev pub IsTopRunning : (t : TurnOf) → IsTurning t → Type 0
IsTopRunning t turning = IsRunning (running_top t turning)

-- an effect is that of the source machine's step
abbrev pub IsEffectOf : (t : TurnOf) → IsTurning t → Effect → Type 0
IsEffectOf t turning effect = Simulates (running_top t turning) effect

-- ---- the state after the turn

-- the state after the top activation has ended
abbrev pub state_returned : TurnOf → State
state_returned t = with_process (state_before t) t.process (stack_after_return t.program (state_before t) t.top.1)

-- the state after a function has ended with this value
abbrev pub state_answered : TurnOf → Value → State
state_answered t v = with_process (state_before t) t.process (stack_after_value t.program (state_before t) v t.top.1)

-- the state after a fault has ended the process
abbrev pub state_failed : TurnOf → Kind → State
state_failed t kind = with_process (record (state_before t) { faults = (state_before t).faults ++ fault_of t.program (top_before t) kind ∷ [] }) t.process []

-- the frames that this state doesn't need any more were given back
abbrev pub HaveLeft : (t : TurnOf) → IsTurning t → State → Space → Nodes → Type 0
HaveLeft t turning s arena nodes = HasLeft (frames_in t.program s (is_held (state_before t)) turning.after.layout) t.machine.arena arena t.machine.nodes nodes

-- a step was made, after which this is the machine
abbrev pub HasMadeTurn : TurnOf → Snapshot → Type 0
HasMadeTurn t new = HasStepped t.program t.cells t.choices t.process new

-- ---- the machine after the turn

-- with another stack of process p
abbrev pub with_stack : Snapshot → ℕ → List Local → List Value → List Value → Snapshot
with_stack m p levels operands pending =
    record m { processes = with_numbered m.processes p (record { levels = levels; operands = operands; pending = pending }) }

-- with other cells of the arena
abbrev pub with_contents : Snapshot → List Slot → Snapshot
with_contents m contents = record m { arena = record { contents = contents; holes = m.arena.holes } }

-- the leading constants were pushed
abbrev pub turn_settled : TurnOf → List Value → ℕ → TurnOf
turn_settled t operands index =
    record t {
      machine = with_stack t.machine t.process (record t.level { index = index } ∷ t.below) operands t.pending;
      level = record t.level { index = index };
      operands = operands;
    }

-- the top activation is at another index
abbrev pub snapshot_moved : TurnOf → List Slot → List Value → ℕ → Snapshot
snapshot_moved t contents operands index = with_stack (with_contents t.machine contents) t.process (record t.level { index = index } ∷ t.below) operands t.pending

-- a record was printed
abbrev pub snapshot_printed : TurnOf → List Item → ℕ → Snapshot
snapshot_printed t items index = with_stack (record t.machine { records = t.machine.records ++ items ∷ [] }) t.process (record t.level { index = index } ∷ t.below) [] t.pending

-- all processes were stopped
abbrev pub snapshot_stopped : Snapshot → Snapshot
snapshot_stopped m = record m { halted = true }

-- the top activation has ended, and its frame was given back, if it could be
abbrev pub snapshot_returned : TurnOf → Space → Nodes → Snapshot
snapshot_returned t arena nodes = with_stack (record t.machine { arena = arena; nodes = nodes }) t.process t.below [] t.pending

-- a function on top has ended with a value, and its frame was given back, if it could be
abbrev pub snapshot_answered : TurnOf → Value → Space → Nodes → Snapshot
snapshot_answered t v arena nodes =
    with_stack (record t.machine { arena = arena; nodes = nodes }) t.process t.below (operands_answered t.pending t.below v) (pending_answered t.pending t.below)

-- the stacks where the top level of process p, which has no operands, has become a process of its own, at an index
abbrev pub stacks_parted : {m : Snapshot} {p : ℕ} → HasLevels m p → ℕ → List Stack
stacks_parted {m} {p} levels index =
    with_numbered m.processes p (record { levels = levels.below; operands = []; pending = levels.pending })
    ++ record { levels = record levels.level { index = index } ∷ []; operands = []; pending = [] } ∷ []

-- the top activation is a process of its own, at an index, and the one below it goes on
abbrev pub snapshot_parted : {m : Snapshot} {p : ℕ} → HasLevels m p → ℕ → Snapshot
snapshot_parted {m} levels index = record m { processes = stacks_parted levels index }

abbrev pub snapshot_resumed : (t : TurnOf) → IsTurning t → ℕ → Snapshot
snapshot_resumed t turning index = snapshot_parted (levels_turning t turning) index

-- a fault has ended the process, in the statement with this initial line
abbrev pub fault_at : TurnOf → ℕ → Kind → Fault
fault_at t line kind = record { process = t.process; unit = t.level.unit; line = line; kind = kind }

abbrev pub snapshot_failed : TurnOf → ℕ → Kind → Space → Nodes → Snapshot
snapshot_failed t line kind arena nodes = with_stack (record t.machine { arena = arena; nodes = nodes; faults = t.machine.faults ++ fault_at t line kind ∷ [] }) t.process [] [] []
