-- Steps of one activation, and turns of one process, that only move it and begin where nothing is watched.
use Rattle.std.specs.Prelude.{◌≡◌, ◌⊎◌, ℕ, suc, ◌<◌, ◌≤◌, Bool, true, false, List}
use Rattle.hep_arena.specs.Space.{Space}
use Rattle.hep_code.specs.declared.instruction.Instruction.{Instruction}
use Rattle.hep_image.specs.declared.array.Array.{Array}
use Rattle.hep_layout.specs.Words.{Nodes}
use Rattle.hep_machine.specs.Words.{Value, Units, run}
use Rattle.hep_step.specs.SilentSteps.{Goes, HasNoMove}
use Rattle.hep_proc.specs.declared.frames.Frames.{Frames}
use Rattle.hep_proc.specs.declared.process.Local.{Local}
use Rattle.hep_proc.specs.declared.process.Process.{Process}
use Rattle.hep_proc.specs.Nodes.{nodes_of}
use Rattle.hep_proc.specs.Stacks.{HoldsOfTop, Stack, stack_of, stack_with}
use Rattle.hep_step.specs.PerformedSteps as step
use Rattle.hep_step.specs.PerformedSteps.{snapshot}
use Rattle.hep_step.specs.Simulation.{unit_arrays, unit_code}
use Rattle.hep_state.specs.declared.core_state.CoreState.{CoreState}
use Rattle.hep_state.specs.Words.{AfterTurns, HasLevels, Snapshot, node_under}
use Rattle.hep_advance.specs.SilentRuns.{HasNoMoveAhead, HasNoMoveAt}
use Rattle.hep_advance.specs.declared.breakpoints.Breakpoints.{Breakpoints}
use Rattle.hep_advance.specs.BreakpointRows.{PassesFrom, is_watched, row_of, watched_at}

-- n plain operations from one snapshot to another, like `Goes` of hep_step, each from an index that isn't watched
pub data Passes (row : List Bool) (code : List Instruction) (arrays : List Array) (first : ℕ) : step.Snapshot → ℕ → step.Snapshot → Type 0 where
  starts : (s : step.Snapshot) → Passes row code arrays first s 0 s
  settled : (s : step.Snapshot) (n : ℕ) (t u : step.Snapshot) → Passes row code arrays first s n t → Goes code arrays first t 0 u → Passes row code arrays first s n u
  passes : (s : step.Snapshot) (n : ℕ) (t u : step.Snapshot)
      → Passes row code arrays first s n t → watched_at row t.index ≡ false → Goes code arrays first t 1 u → Passes row code arrays first s (suc n) u

-- at most `most` of them, and fewer only where the index is watched, or no plain operation that moves the activation
-- comes next
pub record HasPassed (row : List Bool) (code : List Instruction) (arrays : List Array) (first : ℕ) (s : step.Snapshot) (most n : ℕ) (t : step.Snapshot) : Type 0 where
  pub passed : Passes row code arrays first s n t
  pub few : n ≤ most
  pub all : n < most → (watched_at row t.index ≡ true) ⊎ HasNoMove code arrays first t

-- the same of the activation at the top level of a process, which had these operands
pub record HasPassedOn (program : Units) (watches : List Breakpoints) (nodes : Nodes) (l : Local) (ls : List Local) (operands pending : List Value) (before after : Space) (most n : ℕ) (k : Stack) : Type 0 where
  pub next : ℕ
  pub left : List Value
  pub stack : k ≡ stack_with (record l { index = next }) ls left pending
  pub passed : Passes (row_of watches l.unit) (unit_code program l.unit) (unit_arrays program l.unit) (node_under nodes l.key).first (snapshot before.contents operands l.index) n (snapshot after.contents left next)
  pub all : n < most → (is_watched watches l.unit next ≡ true) ⊎ HasNoMoveAt program nodes l (snapshot after.contents left next)

-- the same of the top activation of a process
abbrev pub PassesTop : Units → List Breakpoints → Process → Frames → ℕ → ℕ → Process → Frames → Type 0
PassesTop program watches old frames most made new after =
    HoldsOfTop old (λ l ls operands pending.
    HasPassedOn program watches (nodes_of frames.nodes) l ls operands pending frames.arena after.arena most made (stack_of new))

-- whatever turns led to the state that a machine keeps, each of the next turns of process p begins where nothing is
-- watched
abbrev pub PassesTurns : Units → List Breakpoints → ℕ → CoreState → ℕ → Type 0
PassesTurns program watches p old made =
    AfterTurns program old (λ cells choices. PassesFrom program watches p (run program choices) made)

-- a process lives and is at an index that is watched
pub record IsBeforeWatched (watches : List Breakpoints) (p : ℕ) (m : Snapshot) : Type 0 where
  pub living : HasLevels m p
  pub watched : is_watched watches living.level.unit living.level.index ≡ true

-- or no plain operation that moves it comes next
abbrev pub EndsBefore : Units → List Breakpoints → ℕ → Snapshot → Type 0
EndsBefore program watches p m = IsBeforeWatched watches p m ⊎ HasNoMoveAhead program p m
