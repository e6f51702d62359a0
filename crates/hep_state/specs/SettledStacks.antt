-- The place of a process in the code: the code after the next operation of its top level, and its leading constants.
use Rattle.std.specs.Prelude.{◌≡◌, ◌+◌, ◌<◌, ◌≤◌, ℕ, List, drop, length, vec_capacity}
use Rattle.hep_machine.specs.Words.{Value, Units}
use Rattle.hep_code.specs.declared.instruction.Instruction.{Instruction}
use Rattle.hep_code.specs.Words.{values_ahead}
use Rattle.hep_proc.specs.declared.frames.Frames.{Frames}
use Rattle.hep_proc.specs.Nodes.{nodes_of}
use Rattle.hep_image.specs.declared.array.Array.{Array}
use Rattle.hep_step.specs.declared.frame.Frame.{Frame as CellFrame}
use Rattle.hep_step.specs.Simulation.{unit_code}
use Rattle.hep_proc.specs.declared.process.Local.{Local}
use Rattle.hep_proc.specs.declared.process.Process.{Process}
use Rattle.hep_proc.specs.Stacks.{HoldsOfTop, stack_of, stack_with}
use Rattle.hep_state.specs.TopPlace.{IsThere}
use Rattle.hep_state.specs.TurnTaking.{IsBehind, IsSettled, LeavesSame}

-- ---- the top level

-- the process has a top level, whose unit and node exist, and an operation comes next in the unit's code
abbrev pub IsInCode : Units → Frames → Process → Type 0
IsInCode program frames q =
    (l : Local) × (ls : List Local) × (operands : List Value) × (pending : List Value)
    × (stack_of q ≡ stack_with l ls operands pending) × IsThere program (nodes_of frames.nodes) l
    × (l.index < length (unit_code program l.unit))

-- the code after its operation, its unit's arrays, and its frame are these
abbrev pub HasBehind : Units → Frames → Process → List Instruction → List Array → CellFrame → Type 0
HasBehind program frames q entries arrays frame =
    HoldsOfTop q (λ l _ _ _. IsBehind program (nodes_of frames.nodes) l entries arrays frame)

-- ---- changes of it

-- there is room for its leading constants in a code
abbrev pub CanSettle : Process → List Instruction → Type 0
CanSettle q code =
    (l : Local) × (ls : List Local) × (operands : List Value) × (pending : List Value) × (stack_of q ≡ stack_with l ls operands pending)
    × (length operands + values_ahead (drop l.index code) ≤ vec_capacity q.operands)

-- if this is the code of its unit in a program, its leading constants were pushed
abbrev pub Settles : Process → List Instruction → Process → Type 0
Settles old code new =
    (program : Units) (l : Local) (ls : List Local) (operands pending : List Value) → code ≡ unit_code program l.unit
    → stack_of old ≡ stack_with l ls operands pending
    → (index : ℕ) × (after : List Value) × (stack_of new ≡ stack_with (record l { index = index }) ls after pending)
    × IsSettled program l.unit operands l.index after index
    × LeavesSame program l.unit operands l.index after index
