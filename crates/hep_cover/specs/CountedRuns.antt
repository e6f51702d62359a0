-- Steps of one activation, and turns of one process, that only move it, with the counts of the statements that they
-- begin.
use Rattle.std.specs.Prelude.{◌≡◌, ℕ, suc, Bool, ◌<◌, ◌≤◌, List, drop, Option}
use Rattle.hep_arena.specs.Space.{Space}
use Rattle.hep_code.specs.declared.instruction.Instruction.{Instruction}
use Rattle.hep_image.specs.declared.array.Array.{Array}
use Rattle.hep_layout.specs.Words.{Nodes}
use Rattle.hep_machine.specs.Words.{Value, Units, run}
use Rattle.hep_step.specs.SilentSteps.{HasNoMove, IsMove, IsSettledTo}
use Rattle.hep_proc.specs.declared.frames.Frames.{Frames}
use Rattle.hep_proc.specs.declared.process.Local.{Local}
use Rattle.hep_proc.specs.declared.process.Process.{Process}
use Rattle.hep_proc.specs.Nodes.{nodes_of}
use Rattle.hep_proc.specs.Stacks.{HoldsOfTop, Stack, stack_of, stack_with}
use Rattle.hep_step.specs.PerformedSteps.{Snapshot, snapshot}
use Rattle.hep_step.specs.Simulation.{unit_arrays, unit_code}
use Rattle.hep_state.specs.declared.core_state.CoreState.{CoreState}
use Rattle.hep_state.specs.Words.{AfterTurns, node_under}
use Rattle.hep_advance.specs.SilentRuns.{HasNoMoveAt}
use Rattle.hep_fold.specs.Turns.{seen_along, turns_in_row}
use Rattle.hep_cover.specs.Counts.{counted, counted_after}
use Rattle.hep_cover.specs.StartMarks.{mark}

-- n plain operations from one snapshot to another, like `Goes` of hep_step, and the counts after them
pub data Tallies (operations : List ℕ) (code : List Instruction) (arrays : List Array) (first : ℕ) : Snapshot → List (Option ℕ) → ℕ → Snapshot → List (Option ℕ) → Type 0 where
  stays : (s : Snapshot) (counts : List (Option ℕ)) → Tallies operations code arrays first s counts 0 s counts
  settles : (s : Snapshot) (counts : List (Option ℕ)) (n : ℕ) (t : Snapshot) (now : List (Option ℕ)) (u : Snapshot)
      → Tallies operations code arrays first s counts n t now → IsSettledTo code t u → Tallies operations code arrays first s counts n u now
  steps : (s : Snapshot) (counts : List (Option ℕ)) (n : ℕ) (t : Snapshot) (now : List (Option ℕ)) (u : Snapshot)
      → Tallies operations code arrays first s counts n t now → IsMove code arrays first t u
      → Tallies operations code arrays first s counts (suc n) u (counted (mark operations (drop t.index code)) now)

-- at most `most` of them, and fewer only where no plain operation that moves the activation comes next
pub record HasTallied (operations : List ℕ) (code : List Instruction) (arrays : List Array) (first : ℕ) (s : Snapshot) (counts : List (Option ℕ)) (most n : ℕ) (t : Snapshot) (now : List (Option ℕ)) : Type 0 where
  pub tallied : Tallies operations code arrays first s counts n t now
  pub few : n ≤ most
  pub all : n < most → HasNoMove code arrays first t

-- the same of the activation at the top level of a process, which had these operands
pub record HasTalliedOn (program : Units) (operations : List ℕ) (nodes : Nodes) (l : Local) (ls : List Local) (operands pending : List Value) (before after : Space) (counts : List (Option ℕ)) (most n : ℕ) (k : Stack) (now : List (Option ℕ)) : Type 0 where
  pub next : ℕ
  pub left : List Value
  pub stack : k ≡ stack_with (record l { index = next }) ls left pending
  pub tallied : Tallies operations (unit_code program l.unit) (unit_arrays program l.unit) (node_under nodes l.key).first (snapshot before.contents operands l.index) counts n (snapshot after.contents left next) now
  pub all : n < most → HasNoMoveAt program nodes l (snapshot after.contents left next)

-- the same of the top activation of a process
abbrev pub TalliesTop : Units → List ℕ → Process → Frames → List (Option ℕ) → ℕ → ℕ → Process → Frames → List (Option ℕ) → Type 0
TalliesTop program operations old frames counts most made new after now =
    HoldsOfTop old (λ l ls operands pending.
    HasTalliedOn program operations (nodes_of frames.nodes) l ls operands pending
    frames.arena after.arena counts most made (stack_of new) now)

-- whatever turns led to the state that a machine keeps, the next turns of process p, whatever entries they are part of,
-- lead from some counts to others
abbrev pub CountsTurns : Units → List ℕ → ℕ → CoreState → List (Option ℕ) → ℕ → List (Option ℕ) → Type 0
CountsTurns program operations p old counts made now =
    AfterTurns program old (λ cells choices. (apart : Bool) (entry : ℕ)
    → now ≡ seen_along program (counted_after program operations) (run program choices) (turns_in_row apart entry p made) counts)
