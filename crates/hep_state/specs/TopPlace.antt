-- The place of the top activation of a process, and its next operation: docs/MACHINE.md, "Steps".
use Rattle.std.specs.Prelude.{◌≡◌, ◌<◌, ℕ, true, List, length, Some, None, IfOk, OnErr, Result, vec_capacity}
use Rattle.std.specs.Option.{unwrap_or}
use Rattle.hep_machine.specs.Words.{Frame, Units, Value}
use Rattle.hep_arena.specs.Space.{Space}
use Rattle.hep_layout.specs.Words.{FrameNode, Nodes}
use Rattle.hep_image.specs.declared.unit.UnitCode.{UnitCode}
use Rattle.hep_image.specs.Image.{IsUnitCode}
use Rattle.hep_step.specs.declared.effect.Effect.{Effect}
use Rattle.hep_step.specs.declared.frame.Frame.{Frame as CellFrame}
use Rattle.hep_step.specs.Effects.{effect_at, changed_at}
use Rattle.hep_step.specs.PerformedSteps.{IsPerformed, snapshot}
use Rattle.hep_step.specs.StepReady.{IsReady, frame_in_arena}
use Rattle.hep_step.specs.Simulation.{unit_arrays, unit_code}
use Rattle.hep_proc.specs.declared.frames.Frames.{Frames}
use Rattle.hep_proc.specs.declared.process.Local.{Local}
use Rattle.hep_proc.specs.declared.process.Process.{Process}
use Rattle.hep_proc.specs.Nodes.{nodes_of}
use Rattle.hep_proc.specs.Stacks.{HoldsOfTop, Stack, stack_of, stack_with}

-- ---- nodes

-- the node under a key; one of no activation where there is none
abbrev pub no_node : FrameNode
no_node = record { activation = 0; unit = 0; first = 0; cells = 0; parent = None; children = 0; finished = true }

abbrev pub node_under : Nodes → ℕ → FrameNode
node_under nodes key = unwrap_or (nodes key) no_node

-- the frame of that node
abbrev pub frame_under : Nodes → ℕ → Frame
frame_under nodes key = record { activation = (node_under nodes key).activation; first = (node_under nodes key).first; cells = (node_under nodes key).cells }

-- ---- the place of a process

-- a level's node is under its key, and its unit is one of the program's
abbrev pub IsThere : Units → Nodes → Local → Type 0
IsThere program nodes l = (l.unit < length program) × (nodes l.key ≡ Some (node_under nodes l.key))

-- a process has a top level, whose unit and node exist
abbrev pub IsPlaced : Units → Frames → Process → Type 0
IsPlaced program frames q =
    (l : Local) × (ls : List Local) × (operands : List Value) × (pending : List Value)
    × (stack_of q ≡ stack_with l ls operands pending) × IsThere program (nodes_of frames.nodes) l

-- the place of a level: its unit, its frame in the arena, and its index in the unit's code
pub record IsPlace (program : Units) (nodes : Nodes) (l : Local) (unit : UnitCode) (frame : CellFrame) (index : ℕ) : Type 0 where
  pub code : IsUnitCode program l.unit unit
  pub framed : frame ≡ frame_in_arena (frame_under nodes l.key)
  pub at : index ≡ l.index

-- that of the top level
abbrev pub HasPlace : Units → Frames → Process → UnitCode → CellFrame → ℕ → Type 0
HasPlace program frames q unit frame index =
    HoldsOfTop q (λ l _ _ _. IsPlace program (nodes_of frames.nodes) l unit frame index)

-- ---- the next operation is performed

-- a process has a top level, whose unit and frame exist, and its next operation can be performed
pub record CanAdvance (program : Units) (k : Stack) (capacity : ℕ) (arena : Space) (nodes : Nodes) : Type 0 where
  pub l : Local
  pub ls : List Local
  pub operands : List Value
  pub pending : List Value
  pub stack : k ≡ stack_with l ls operands pending
  pub inside : l.unit < length program
  pub there : nodes l.key ≡ Some (node_under nodes l.key)
  pub ready : IsReady (unit_code program l.unit) (unit_arrays program l.unit) arena (frame_in_arena (frame_under nodes l.key)) operands capacity l.index

-- the next operation was performed, and changed the cells and the stack; or memory was refused, and nothing else has
-- changed
pub record IsAdvanced {E : Type 0} (program : Units) (nodes : Nodes) (l : Local) (ls : List Local) (operands pending : List Value) (before after : Space) (result : Result Effect E) (k : Stack) : Type 0 where
  pub next : ℕ
  pub left : List Value
  pub stack : k ≡ stack_with (record l { index = next }) ls left pending
  pub performed : IfOk result (λ effect. IsPerformed (effect_at (unit_code program l.unit) (unit_arrays program l.unit) (node_under nodes l.key).first before.contents operands l.index) (changed_at (unit_code program l.unit) (unit_arrays program l.unit) (node_under nodes l.key).first before.contents operands l.index) (snapshot before.contents operands l.index) effect (snapshot after.contents left next))
  pub refused : OnErr result (snapshot after.contents left next ≡ snapshot before.contents operands l.index)

-- the next operation of a process can be performed
abbrev pub CanAdvanceTop : Units → Process → Frames → Type 0
CanAdvanceTop program q frames = CanAdvance program (stack_of q) (vec_capacity q.operands) frames.arena (nodes_of frames.nodes)

-- and it was
abbrev pub AdvancesTop : {E : Type 0} → Units → Process → Frames → Result Effect E → Process → Frames → Type 0
AdvancesTop program old frames result new after =
    HoldsOfTop old (λ l ls operands pending.
    IsAdvanced program (nodes_of frames.nodes) l ls operands pending frames.arena after.arena result (stack_of new))
