-- The machine after a CALL, CREATE or reference: docs/MACHINE.md, "Steps" and "Layout".
use Rattle.std.specs.Prelude.{◌≡◌, ℕ, ◌+◌, ◌<◌, ◌≤◌, Bool, true, false, List, [], ◌∷◌, ◌++◌, length, take, Option, Some, None}
use Rattle.hep_machine.specs.Words.{Name, Units, function_name, unit_at, Binding, Actual, common_cells, frame_of, lowest_gap, with_numbered, State, step, Bounds, frame_cells}
use Rattle.hep_arena.specs.Space.{Space}
use Rattle.hep_code.specs.Words.{entry_index}
use Rattle.hep_image.specs.BoundActivations.{AreKept}
use Rattle.hep_layout.specs.Words.{Nodes, new_node, with_node}
use Rattle.hep_step.specs.declared.dummy_storage.DummyStorage.{DummyStorage}
use Rattle.hep_step.specs.Shapes.{AreShapesOf}
use Rattle.hep_step.specs.declared.call_kind.CallKind.{CallKind}
use Rattle.hep_step.specs.declared.call_kind.CallKind.TheVariants.{Calls, Creates, Refers}
use Rattle.hep_step.specs.NextCalls.{GoesOn, is_creation}
use Rattle.hep_step.specs.Simulation.{unit_addressed}
use Rattle.hep_state.specs.declared.calling.CalledUnit.{CalledUnit}
use Rattle.hep_proc.specs.declared.process.Local.{Local}
use Rattle.hep_proc.specs.Stacks.{Stack}
use Rattle.hep_state.specs.declared.core_state.CoreState.{CoreState}
use Rattle.hep_state.specs.Snapshots.{Snapshot, snapshot_of}
use Rattle.hep_state.specs.TurnEffects.{HoldsInTurn, IsTurning, TurnOf, frames_before, state_before}
use Rattle.hep_binding.specs.Calling.{ArePassed, CallOf, IsAllWritten, IsPassing, layout_with, state_made_by}

-- the level of a new activation of unit u, whose node is under a key, at its first executable statement
abbrev pub entered_level : Units → ℕ → ℕ → Local
entered_level program u key = record { key = key; unit = u; kept = 0; index = entry_index (unit_addressed program u) }

-- the stacks with a new level: above the top level of the process, which keeps its first operands, or in a process of
-- its own; the level that makes it is at another index
abbrev pub stacks_made_by : Bool → TurnOf → ℕ → Local → Local → List Stack
stacks_made_by false t kept new behind =
    with_numbered t.machine.processes t.process (record { levels = new ∷ (record behind { kept = kept } ∷ t.below); operands = []; pending = t.pending ++ take kept t.operands })
stacks_made_by true t kept new behind =
    with_numbered t.machine.processes t.process (record { levels = behind ∷ t.below; operands = []; pending = t.pending })
    ++ record { levels = new ∷ []; operands = []; pending = [] } ∷ []

-- the machine after a call, reference or creation of unit u; the activation that makes it keeps its first operands
-- and goes on at an index
abbrev pub snapshot_made_by : Bool → TurnOf → ℕ → ℕ → ℕ → ℕ → Space → Nodes → Snapshot
snapshot_made_by creates t u key kept index arena nodes =
    record t.machine {
      arena = arena;
      nodes = nodes;
      processes = stacks_made_by creates t kept (entered_level t.program u key) (record t.level { index = index });
      activations = t.machine.activations + 1;
    }

-- the step leads to a state s, whose last activation runs unit u; its frame has entered the lowest gap, its cells are
-- written, what its dummy arguments are associated with is in consecutive cells, and its node is under a key, a child
-- of that of the top level
pub record HasEntered (t : TurnOf) (turning : IsTurning t) (u key : ℕ) (s : State) (arena : Space) (nodes : Nodes) : Type 0 where
  pub made : step t.program t.process (state_before t) ≡ Some s
  pub inside : u < length t.program
  pub first : ℕ
  pub gap : lowest_gap t.cells (frame_of t.program s (length s.activations)) (common_cells t.program) turning.after.layout ≡ Some first
  pub written : IsAllWritten (frames_before t turning) s first arena nodes
  pub kept : AreKept t.program s (layout_with t.program s turning.after.layout first) (length s.activations)
  pub size : length arena.contents ≡ t.cells
  pub vacant : t.machine.nodes key ≡ None
  pub nodes_are : nodes ≡ with_node t.machine.nodes key (new_node (length s.activations) u first (frame_of t.program s (length s.activations)) t.level.key) t.level.key

-- just a function that is referred to has a result
abbrev pub HasResultBy : CallKind → Option Name → Type 0
HasResultBy Calls result = result ≡ None
HasResultBy Creates result = result ≡ None
HasResultBy Refers result = (x : Name) × (result ≡ Some x)

-- the top activation makes an activation of unit u, keeps its first operands, and goes on at an index
pub record IsAfterCall (way : CallKind) (t : TurnOf) (u kept index : ℕ) : Type 0 where
  pub few : kept ≤ length t.operands
  pub onward : GoesOn way (unit_addressed t.program t.level.unit) t.top.0 (take kept t.operands) index
  pub result : HasResultBy way (function_name (unit_at t.program u))

-- ---- a CALL, CREATE or reference of a unit

-- a unit of the program by its index, with the cells of its frame, and the index of its first executable statement in
-- its code
pub record IsUnit (program : Units) (u cells entry : ℕ) : Type 0 where
  pub inside : u < length program
  pub cells_are : cells ≡ frame_cells (unit_at program u)
  pub entry_is : entry ≡ entry_index (unit_addressed program u)

-- that of a turn, of unit u
abbrev pub call_in : TurnOf → ℕ → List Actual → Binding → CallOf
call_in t u actuals b =
    record { program = t.program; choices = t.choices; process = t.process; top = t.top; unit = u; actuals = actuals; binding = b }

-- the step makes an activation of unit u by CALL, CREATE or reference; its dummy arguments are given this, and these
-- are the shapes of its adjustable arrays; the activation that makes it keeps its first operands and goes on at an
-- index
pub record IsMaking (way : CallKind) (t : TurnOf) (u kept index : ℕ) (given : List DummyStorage) (shapes : List (Option Bounds)) : Type 0 where
  pub turning : IsTurning t
  pub actuals : List Actual
  pub binding : Binding
  pub passing : IsPassing (call_in t u actuals binding)
  pub passed : ArePassed (call_in t u actuals binding) turning.after.layout given
  pub shaped : AreShapesOf (unit_at t.program u) binding.dummies shapes
  pub made : step t.program t.process (state_before t) ≡ Some (state_made_by (is_creation way) (call_in t u actuals binding))
  pub after : IsAfterCall way t u kept index

-- the state to which it leads
abbrev pub state_made : {way : CallKind} {t : TurnOf} {u kept index : ℕ} {given : List DummyStorage} {shapes : List (Option Bounds)} → IsMaking way t u kept index given shapes → State
state_made {way} {t} {u} h = state_made_by (is_creation way) (call_in t u h.actuals h.binding)

-- the step of process p does so, in a machine whose buffers have just what is given, for this unit
pub record Makes (way : CallKind) (program : Units) (cells : ℕ) (choices : List ℕ) (p : ℕ) (m : CoreState) (called : CalledUnit) (kept index : ℕ) : Type 0 where
  pub making : HoldsInTurn program cells choices p (snapshot_of m) (λ t. IsMaking way t called.unit kept index m.passing.given.items m.passing.shapes.items)
  pub unit : IsUnit program called.unit called.cells called.entry
