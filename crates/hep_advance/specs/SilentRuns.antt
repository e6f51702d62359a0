-- Turns of one process in a row, after which it lives and which fill and empty no cell: docs/MACHINE.md, "Steps" and
-- "The opening and runs".
use Rattle.std.specs.Prelude.{◌≡◌, ◌≢◌, ℕ, suc, ◌<◌, ◌≤◌, false, List, [], ◌∷◌, ◌++◌, length, Some, None, vec_capacity}
use Rattle.hep_machine.specs.declared.slot.Slot.{Slot}
use Rattle.hep_machine.specs.Words.{Value, Units, Layout, common_cells, frame_cells, is_held, layout_of, living, run, step, unit_at}
use Rattle.hep_arena.specs.Space.{Space}
use Rattle.hep_layout.specs.Words.{Nodes}
use Rattle.hep_proc.specs.declared.frames.Frames.{Frames}
use Rattle.hep_proc.specs.Nodes.{nodes_of}
use Rattle.hep_step.specs.PerformedSteps as step
use Rattle.hep_step.specs.PerformedSteps.{snapshot}
use Rattle.hep_step.specs.StepReady.{frame_in_arena}
use Rattle.hep_step.specs.Simulation.{unit_arrays, unit_code}
use Rattle.hep_proc.specs.declared.process.Local.{Local}
use Rattle.hep_state.specs.declared.core_state.CoreState.{CoreState}
use Rattle.hep_proc.specs.declared.process.Process.{Process}
use Rattle.hep_proc.specs.Stacks.{HoldsOfTop, Stack, stack_of, stack_with}
use Rattle.hep_state.specs.Words.{AfterTurns, Changes, HasLevels, IsItsTurn, IsMachineAfter, Snapshot, frame_under, node_under}
use Rattle.hep_step.specs.SilentSteps.{CanGoOn, Goes, HasNoMove}
use Rattle.hep_fast.specs.declared.decoded_image.DecodedImage.{DecodedImage}
use Rattle.hep_fast.specs.DecodedImages.{AreTables}

-- ---- the top activation

-- n steps of the activation at a level lead from one snapshot to another
abbrev pub GoesAt : Units → Nodes → Local → step.Snapshot → ℕ → step.Snapshot → Type 0
GoesAt program nodes l s n t = Goes (unit_code program l.unit) (unit_arrays program l.unit) (node_under nodes l.key).first s n t

-- no plain operation that moves the activation comes next
abbrev pub HasNoMoveAt : Units → Nodes → Local → step.Snapshot → Type 0
HasNoMoveAt program nodes l s = HasNoMove (unit_code program l.unit) (unit_arrays program l.unit) (node_under nodes l.key).first s

-- a process has a top level, whose unit and frame exist, and it can go on wherever its steps lead; the frame has the
-- cells of the unit, and COMMON lies in the arena
pub record CanGo (program : Units) (k : Stack) (capacity : ℕ) (arena : Space) (nodes : Nodes) : Type 0 where
  pub l : Local
  pub ls : List Local
  pub operands : List Value
  pub pending : List Value
  pub stack : k ≡ stack_with l ls operands pending
  pub inside : l.unit < length program
  pub there : nodes l.key ≡ Some (node_under nodes l.key)
  pub sized : (frame_under nodes l.key).cells ≡ frame_cells (unit_at program l.unit)
  pub common : common_cells program ≤ length arena.contents
  pub ready : (n : ℕ) (t : step.Snapshot) → GoesAt program nodes l (snapshot arena.contents operands l.index) n t
      → CanGoOn (unit_code program l.unit) (unit_arrays program l.unit) arena.holes (frame_in_arena (frame_under nodes l.key)) capacity t

-- it has made n steps, and fewer than `most` only where there is no further move
pub record HasGoneOn (program : Units) (nodes : Nodes) (l : Local) (ls : List Local) (operands pending : List Value) (before after : Space) (most n : ℕ) (k : Stack) : Type 0 where
  pub next : ℕ
  pub left : List Value
  pub stack : k ≡ stack_with (record l { index = next }) ls left pending
  pub gone : GoesAt program nodes l (snapshot before.contents operands l.index) n (snapshot after.contents left next)
  pub all : n < most → HasNoMoveAt program nodes l (snapshot after.contents left next)

-- the top activation of a process can go on: its frame is among these, and the tables are those of the image
abbrev pub CanGoTop : DecodedImage → Process → Frames → Type 0
CanGoTop tabled q frames =
    AreTables tabled.image.now tabled.tables.now
    × CanGo tabled.image.now (stack_of q) (vec_capacity q.operands) frames.arena (nodes_of frames.nodes)

abbrev pub GoesTop : Units → Process → Frames → ℕ → ℕ → Process → Frames → Type 0
GoesTop program old frames most made new after =
    HoldsOfTop old (λ l ls operands pending.
    HasGoneOn program (nodes_of frames.nodes) l ls operands pending frames.arena after.arena most made (stack_of new))

-- the tables are those of the image, and a process has a top level, whose unit exists
pub record IsTabledTop (tabled : DecodedImage) (q : Process) : Type 0 where
  pub tables : AreTables tabled.image.now tabled.tables.now
  pub l : Local
  pub ls : List Local
  pub operands : List Value
  pub pending : List Value
  pub stack : stack_of q ≡ stack_with l ls operands pending
  pub inside : l.unit < length tabled.image.now

-- whatever the cells and the frames are, no plain operation of its top activation comes next
abbrev pub RestsAtTop : Units → Process → Type 0
RestsAtTop program q =
    HoldsOfTop q (λ l ls operands pending. (nodes : Nodes) (contents : List Slot) → HasNoMoveAt program nodes l (snapshot contents operands l.index))

-- a process lives, and no plain operation that moves it comes next
pub record HasNoMoveAhead (program : Units) (p : ℕ) (m : Snapshot) : Type 0 where
  pub living : HasLevels m p
  pub none : HasNoMoveAt program m.nodes living.level (snapshot m.arena.contents living.operands living.level.index)

-- ---- turns

-- it is the turn of a process, and the tables are those of the image
pub record CanTakeTurns (tabled : DecodedImage) (p : ℕ) (m : CoreState) : Type 0 where
  pub turn : IsItsTurn tabled.image.now p m
  pub tables : AreTables tabled.image.now tabled.tables.now

-- the turn of p after these turns is a step, which fills and empties no storage unit, makes and ends no process, and
-- is no STOP; and each frame has a gap
pub record IsPlainTurn (program : Units) (cells : ℕ) (choices : List ℕ) (p : ℕ) : Type 0 where
  pub stepped : step program p (run program choices) ≢ None
  pub unchanged : Changes program cells choices p None
  pub going : (run program (choices ++ p ∷ [])).halted ≡ false
  pub lives : living (run program (choices ++ p ∷ [])) p ≢ None
  pub made : length (run program (choices ++ p ∷ [])).processes ≡ length (run program choices).processes
  pub layout : Layout
  pub laid : layout_of program cells is_held (choices ++ p ∷ []) ≡ Some layout

-- p made n such turns
pub data HasGone (program : Units) (cells p : ℕ) : List ℕ → ℕ → List ℕ → Type 0 where
  none : (choices : List ℕ) → HasGone program cells p choices 0 choices
  more : (choices : List ℕ) (n : ℕ) (after : List ℕ) → HasGone program cells p choices n after → IsPlainTurn program cells after p → HasGone program cells p choices (suc n) (after ++ p ∷ [])

-- whatever turns led to the state that a machine keeps, p made n such turns after them, and the new machine keeps the
-- state after those
abbrev pub MakesMoves : Units → ℕ → CoreState → ℕ → CoreState → Type 0
MakesMoves program p old made new =
    AfterTurns program old (λ cells choices.
    (after : List ℕ) × HasGone program cells p choices made after × IsMachineAfter program cells after new)
