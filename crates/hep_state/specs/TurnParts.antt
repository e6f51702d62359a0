-- The parts of a turn in a machine, whatever turns there were before: docs/MACHINE.md, "Steps".
use Rattle.std.specs.Prelude.{◌≡◌, ◌∷◌, ◌<◌, ◌≤◌, ◌+◌, ◌^◌, ℕ, Bool, false, List, [], length, vec_capacity, vec_len}
use Rattle.std.specs.Prelude.{Ok, Option, IsSome}
use Rattle.slab.specs.Slab.{HasRoomFor}
use Rattle.hep_machine.specs.Words.{Layout, State, Units}
use Rattle.hep_machine.specs.declared.event.Kind.{Kind}
use Rattle.hep_arena.specs.Holes.{first_fit}
use Rattle.hep_code.specs.Words.{deepest}
use Rattle.hep_proc.specs.declared.frames.Frames.{Frames}
use Rattle.hep_proc.specs.FrameTable.{CanLeave, HasLeft, IsEnded, Keeps, LeadUpwards, all_but, frames_in}
use Rattle.hep_proc.specs.Nodes.{nodes_of}
use Rattle.hep_image.specs.Image.{most_cells}
use Rattle.hep_layout.specs.Words.{is_stacked}
use Rattle.hep_machine.specs.Words.{living, run}
use Rattle.std.specs.Option.{is_some}
use Rattle.hep_step.specs.declared.closed_range.ClosedRange.{ClosedRange}
use Rattle.hep_step.specs.PurgeEffects.{purged}
use Rattle.hep_step.specs.PurgeReady.{AreReached}
use Rattle.hep_cells.specs.declared.want.Want.{Want}
use Rattle.hep_step.specs.declared.effect.Effect.{Effect as Performed}
use Rattle.hep_step.specs.declared.call_kind.CallKind.{CallKind}
use Rattle.hep_step.specs.declared.call_kind.CallKind.TheVariants.{Creates}
use Rattle.hep_step.specs.NextCalls.{is_creation}
use Rattle.hep_step.specs.Effects.{Effect, fails}
use Rattle.hep_step.specs.Simulation.{unit_code}
use Rattle.hep_state.specs.declared.calling.CalledUnit.{CalledUnit}
use Rattle.hep_proc.specs.declared.process.Local.{Local}
use Rattle.hep_state.specs.declared.core_state.CoreState.{CoreState}
use Rattle.hep_state.specs.declared.core_state.ArgumentBuffers.{ArgumentBuffers}
use Rattle.hep_proc.specs.declared.process.Process.{Process}
use Rattle.hep_proc.specs.Stacks.{keys_of}
use Rattle.hep_state.specs.declared.turn.TurnOutcome.TheVariants.{Purged}
use Rattle.hep_state.specs.declared.next_step.NextCall.{NextCall}
use Rattle.hep_state.specs.declared.next_step.NextPurge.{NextPurge}
use Rattle.hep_state.specs.Calls.{HasEntered, IsMaking, Makes, state_made}
use Rattle.hep_state.specs.NextSteps.{HasCallAhead, HasPurgeAhead, HasResumeAhead, IsWithoutCall, ranges_ahead}
use Rattle.hep_state.specs.TurnOutcomes.{Changes, HasTurned, StaysWaiting}
use Rattle.hep_state.specs.OperandRoom.{HasRoomAt, HaveRoom, HoldsOfProcess, IsMachineAfter}
use Rattle.hep_state.specs.Snapshots.{AreNumbered, snapshot_of}
use Rattle.hep_state.specs.TurnTaking.{IsLeft, IsToEnd}
use Rattle.hep_state.specs.TurnEffects.{HasLevels, HoldsInTurn, snapshot_parted, turn_of, with_contents, with_stack}
use Rattle.hep_state.specs.Turns.{HasStepped, HasWaited, IsAfter}

-- ---- states

-- the machine keeps a state of the program, after some turns
abbrev pub IsReached : Units → CoreState → Type 0
IsReached program m = (cells : ℕ) × (choices : List ℕ) × IsMachineAfter program cells choices m

-- a statement holds of every arena's size and turns after which the machine keeps the state
abbrev pub AfterTurns : Units → CoreState → (ℕ → List ℕ → Type 0) → Type 0
AfterTurns program m IsSo = (cells : ℕ) (choices : List ℕ) → IsMachineAfter program cells choices m → IsSo cells choices

-- a machine keeps a state of the program, and process p of it, which has activations, has its turn
pub record IsItsTurn (program : Units) (p : ℕ) (m : CoreState) : Type 0 where
  pub after : IsReached program m
  pub running : m.halted ≡ false
  pub living : HasLevels (snapshot_of m) p

-- a state that the old machine keeps is kept by the new one
abbrev pub KeepsState : Units → CoreState → CoreState → Type 0
KeepsState program old new = AfterTurns program old (λ cells choices. IsMachineAfter program cells choices new)

-- the new machine has the room that the old one had for a program
abbrev pub KeepsRoomOf : Units → CoreState → CoreState → Type 0
KeepsRoomOf program old new = (cells : ℕ) → HaveRoom program cells old → HaveRoom program cells new

-- the answer is whether process p lives in the state that the machine keeps
abbrev pub IsWhetherLives : Bool → ℕ → CoreState → Type 0
IsWhetherLives lives p m =
    (program : Units) (cells : ℕ) (choices : List ℕ) → IsAfter program cells choices (snapshot_of m)
    → lives ≡ is_some (living (run program choices) p)

-- ---- the end of activations

-- the top activation of process p is to end with this effect
abbrev pub IsEndingBy : Effect → ℕ → CoreState → Type 0
IsEndingBy effect p m =
    (program : Units) × (cells : ℕ) × (choices : List ℕ) × IsToEnd program cells choices p (snapshot_of m) effect × AreNumbered m

-- and there is room for operands
abbrev pub IsEndingWithRoom : Effect → ℕ → CoreState → Type 0
IsEndingWithRoom effect p m =
    (program : Units) × (cells : ℕ) × (choices : List ℕ) × IsToEnd program cells choices p (snapshot_of m) effect
    × HaveRoom program cells m

-- if it had to end so, the step of process p was made
abbrev pub EndsBy : Effect → ℕ → CoreState → CoreState → Type 0
EndsBy effect p old new =
    (program : Units) (cells : ℕ) (choices : List ℕ) → IsToEnd program cells choices p (snapshot_of old) effect
    → HasStepped program cells choices p (snapshot_of new)

-- the next operation of process p is no CALL, CREATE, reference, PURGE or RESUME
pub record IsAtOperation (program : Units) (p : ℕ) (m : CoreState) : Type 0 where
  pub after : IsReached program m
  pub running : m.halted ≡ false
  pub plain : IsWithoutCall program p (snapshot_of m)

-- it was performed, with this effect
abbrev pub LeavesBy : Units → ℕ → CoreState → CoreState → Performed → Type 0
LeavesBy program p old new effect =
    AfterTurns program old (λ cells choices. IsLeft program cells choices p (snapshot_of new) effect)

-- and it fills or empties this cell alone, if one is given
abbrev pub ChangesNext : Units → ℕ → CoreState → Option Want → Type 0
ChangesNext program p old changed =
    AfterTurns program old (λ cells choices. Changes program cells choices p changed)

-- it was performed, with this effect; and where the process waits, the machine shows the same as before
abbrev pub Performs : Units → ℕ → CoreState → CoreState → Performed → Type 0
Performs program p old new effect =
    LeavesBy program p old new effect × StaysWaiting effect (snapshot_of old) (snapshot_of new)

-- what was written, the number of processes made, and the room are the same
pub record KeepsWritten (program : Units) (old new : CoreState) : Type 0 where
  pub rooms : KeepsRoomOf program old new
  pub records : new.records ≡ old.records
  pub faults : new.faults ≡ old.faults
  pub made : new.made ≡ old.made

-- the next operation of process p was performed, with an effect, and there is room for operands
abbrev pub IsLeftWithRoom : Performed → ℕ → CoreState → Type 0
IsLeftWithRoom effect p m =
    (program : Units) × (cells : ℕ) × (choices : List ℕ) × IsLeft program cells choices p (snapshot_of m) effect × HaveRoom program cells m

-- and for a record and a fault
abbrev pub CanEndTurn : Performed → ℕ → CoreState → Type 0
CanEndTurn effect p m =
    IsLeftWithRoom effect p m × (vec_len m.records < vec_capacity m.records) × (vec_len m.faults < vec_capacity m.faults)

-- if that was its effect, the step was made
abbrev pub StepsAfter : Performed → ℕ → CoreState → CoreState → Type 0
StepsAfter effect p old new =
    (program : Units) (cells : ℕ) (choices : List ℕ) → IsLeft program cells choices p (snapshot_of old) effect
    → HasStepped program cells choices p (snapshot_of new)

-- or the process waits
abbrev pub WaitsAfter : Performed → ℕ → CoreState → CoreState → Want → Type 0
WaitsAfter effect p old new want =
    (program : Units) (cells : ℕ) (choices : List ℕ) → IsLeft program cells choices p (snapshot_of old) effect
    → HasWaited program cells choices p want.cell want.full (snapshot_of new)

-- the frames of levels, the last one first, have left, whichever activations end with them
abbrev pub HaveFramesLeft : List Local → Frames → Frames → Type 0
HaveFramesLeft leaving old new =
    (program : Units) (s t : State) (out : ℕ → Bool) (layout : Layout) (ends : List ℕ)
    → Keeps (frames_in program s out layout) old.arena (nodes_of old.nodes)
    → CanLeave (nodes_of old.nodes) (is_stacked s) (keys_of leaving) ends
    → IsEnded program layout (all_but ends (is_stacked s)) s t → LeadUpwards t
    → HasLeft (frames_in program t out layout) old.arena new.arena (nodes_of old.nodes) (nodes_of new.nodes)

-- ---- CALL, CREATE and references

-- process p is at one of them
abbrev pub IsAtCallAhead : Units → ℕ → CoreState → NextCall → Type 0
IsAtCallAhead program p m call =
    (cells : ℕ) × (choices : List ℕ) × IsMachineAfter program cells choices m × HasCallAhead program cells choices p (snapshot_of m) call

-- the dummy arguments are given this, and the first operands, as many as given, are kept
abbrev pub IsGivenBy : Units → ℕ → CoreState → NextCall → ℕ → ArgumentBuffers → Type 0
IsGivenBy program p m call kept passing =
    AfterTurns program m (λ cells choices. HasCallAhead program cells choices p (snapshot_of m) call
    → HoldsInTurn program cells choices p (snapshot_of m)
    (λ t. IsMaking call.way t call.unit kept call.next passing.given.items passing.shapes.items))

-- it is a fault
abbrev pub FailsAtCall : Units → ℕ → CoreState → NextCall → Kind → Type 0
FailsAtCall program p m call kind =
    AfterTurns program m (λ cells choices. HasCallAhead program cells choices p (snapshot_of m) call
    → IsToEnd program cells choices p (snapshot_of m) (fails call.line kind))

-- the activation of a unit can begin: its frame has a gap and its node room
pub record CanBegin (p : ℕ) (m : CoreState) (called : CalledUnit) : Type 0 where
  pub making : (way : CallKind) × (program : Units) × (cells : ℕ) × (choices : List ℕ) × (kept : ℕ) × (index : ℕ)
      × Makes way program cells choices p m called kept index
  pub few : length m.frames.arena.contents ≤ most_cells
  pub countable : m.activations + 1 < 2 ^ 64
  pub gap : IsSome (first_fit called.cells m.frames.arena.holes)
  pub node : HasRoomFor m.frames.nodes 1
  pub numbers : AreNumbered m

-- its frame has entered, with its node under a key
abbrev pub Begins : ℕ → CalledUnit → CoreState → ℕ → CoreState → Type 0
Begins p called old key new =
    (way : CallKind) (program : Units) (cells : ℕ) (choices : List ℕ) (kept index : ℕ)
    → (e : Makes way program cells choices p old called kept index)
    → HasEntered (turn_of e.making) e.making.holds.turning called.unit key (state_made e.making.holds)
    new.frames.arena (nodes_of new.frames.nodes)

-- it can begin above the top activation of process p, by CALL or reference
pub record CanCall (p : ℕ) (m : CoreState) (called : CalledUnit) (kept index : ℕ) : Type 0 where
  pub calling : (way : CallKind) × (program : Units) × (cells : ℕ) × (choices : List ℕ) × (is_creation way ≡ false)
      × Makes way program cells choices p m called kept index
  pub few : length m.frames.arena.contents ≤ most_cells
  pub countable : m.activations + 1 < 2 ^ 64
  pub gap : IsSome (first_fit called.cells m.frames.arena.holes)
  pub node : HasRoomFor m.frames.nodes 1
  pub level : HoldsOfProcess m p (λ q. vec_len q.levels < vec_capacity q.levels)
  pub pending : HoldsOfProcess m p (λ q. vec_len q.pending + kept ≤ vec_capacity q.pending)
  pub numbers : AreNumbered m

-- if it is called or referred to, the step was made
abbrev pub StepsByCall : ℕ → CalledUnit → ℕ → ℕ → CoreState → CoreState → Type 0
StepsByCall p called kept index old new =
    (way : CallKind) (program : Units) (cells : ℕ) (choices : List ℕ) → is_creation way ≡ false
    → Makes way program cells choices p old called kept index → HasStepped program cells choices p (snapshot_of new)

-- if the operands of process p have room for those of the unit, the room is kept
abbrev pub KeepsRoomAt : ℕ → ℕ → CoreState → CoreState → Type 0
KeepsRoomAt p unit old new =
    (program : Units) (cells : ℕ) → HaveRoom program cells old → HasRoomAt program p unit old → HaveRoom program cells new

-- it can begin as the only activation of a process, which is empty so far and has the next number
pub record CanCreate (p : ℕ) (m : CoreState) (called : CalledUnit) (index : ℕ) (made : Process) : Type 0 where
  pub creating : (program : Units) × (cells : ℕ) × (choices : List ℕ) × (kept : ℕ)
      × Makes Creates program cells choices p m called kept index
  pub few : length m.frames.arena.contents ≤ most_cells
  pub countable : m.activations + 1 < 2 ^ 64
  pub gap : IsSome (first_fit called.cells m.frames.arena.holes)
  pub node : HasRoomFor m.frames.nodes 1
  pub empty : (made.levels.items ≡ []) × (made.operands.items ≡ []) × (made.pending.items ≡ [])
  pub level : vec_len made.levels < vec_capacity made.levels
  pub process : vec_len m.processes < vec_capacity m.processes
  pub next : made.number ≡ m.made + 1
  pub numbers : AreNumbered m

-- if it is created, the step was made
abbrev pub StepsByCreation : ℕ → CalledUnit → ℕ → CoreState → CoreState → Type 0
StepsByCreation p called index old new =
    (program : Units) (cells : ℕ) (choices : List ℕ) (kept : ℕ) → Makes Creates program cells choices p old called kept index
    → HasStepped program cells choices p (snapshot_of new)

-- if the operands of the new process have room for those of the unit, the room is kept
abbrev pub KeepsRoomWith : Process → ℕ → CoreState → CoreState → Type 0
KeepsRoomWith made unit old new =
    (program : Units) (cells : ℕ) → HaveRoom program cells old → deepest (unit_code program unit) ≤ vec_capacity made.operands
    → HaveRoom program cells new

-- ---- RESUME

-- process p is at one, after which it goes on at an index
abbrev pub IsAtResumeAhead : Units → ℕ → CoreState → ℕ → Type 0
IsAtResumeAhead program p m next =
    (cells : ℕ) × (choices : List ℕ) × IsMachineAfter program cells choices m × HasResumeAhead program cells choices p (snapshot_of m) next

-- the top activation of process p can become a process of its own, which is empty so far and has the next number
pub record CanPart (p : ℕ) (m : CoreState) (made : Process) : Type 0 where
  pub levels : HasLevels (snapshot_of m) p
  pub empty : (made.levels.items ≡ []) × (made.operands.items ≡ []) × (made.pending.items ≡ [])
  pub level : vec_len made.levels < vec_capacity made.levels
  pub process : vec_len m.processes < vec_capacity m.processes
  pub next : made.number ≡ m.made + 1
  pub numbers : AreNumbered m

-- it has become one, at an index
abbrev pub PartsAt : ℕ → ℕ → CoreState → CoreState → Type 0
PartsAt p index old new = (levels : HasLevels (snapshot_of old) p) → snapshot_of new ≡ snapshot_parted levels index

-- if its operands have room for those of its unit, the room is kept
abbrev pub KeepsRoomParting : ℕ → Process → CoreState → CoreState → Type 0
KeepsRoomParting p made old new =
    (program : Units) (cells : ℕ) → HaveRoom program cells old → (levels : HasLevels (snapshot_of old) p)
    → deepest (unit_code program levels.level.unit) ≤ vec_capacity made.operands → HaveRoom program cells new

-- ---- PURGE

-- process p is at one
abbrev pub IsAtPurgeAhead : Units → ℕ → CoreState → NextPurge → Type 0
IsAtPurgeAhead program p m purge =
    (cells : ℕ) × (choices : List ℕ) × IsMachineAfter program cells choices m × HasPurgeAhead program cells choices p (snapshot_of m) purge

-- its targets name these cells
abbrev pub NamesRanges : Units → ℕ → CoreState → NextPurge → List ClosedRange → Type 0
NamesRanges program p m purge ranges =
    (cells : ℕ) (choices : List ℕ) → (at : HasPurgeAhead program cells choices p (snapshot_of m) purge)
    → ranges_ahead purge at.holds ≡ Ok ranges

-- it is a fault
abbrev pub FailsAtPurge : Units → ℕ → CoreState → NextPurge → Kind → Type 0
FailsAtPurge program p m purge kind =
    (cells : ℕ) (choices : List ℕ) → HasPurgeAhead program cells choices p (snapshot_of m) purge
    → IsToEnd program cells choices p (snapshot_of m) (fails purge.line kind)

-- process p lives, and the cells that were found are in the arena
pub record CanEmpty (p : ℕ) (m : CoreState) : Type 0 where
  pub living : HasLevels (snapshot_of m) p
  pub numbers : AreNumbered m
  pub reached : AreReached m.frames.arena m.passing.ranges.items
  pub few : length m.frames.arena.contents ≤ most_cells

-- they are empty, and process p is at an index
abbrev pub EmptiesTargets : ℕ → ℕ → CoreState → CoreState → Type 0
EmptiesTargets p index old new =
    (levels : HasLevels (snapshot_of old) p)
    → snapshot_of new ≡ with_stack (with_contents (snapshot_of old) (purged old.passing.ranges.items old.frames.arena.contents)) p
    (record levels.level { index = index } ∷ levels.below) [] levels.pending

-- its turn was made
abbrev pub TurnsByPurge : Units → ℕ → NextPurge → CoreState → CoreState → Type 0
TurnsByPurge program p purge old new =
    AfterTurns program old (λ cells choices. HasPurgeAhead program cells choices p (snapshot_of old) purge
    → HasTurned program cells choices p Purged new)
