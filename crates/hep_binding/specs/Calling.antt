-- A CALL, a CREATE or a reference of a function, and the activation that it makes: docs/MACHINE.md, "Steps" and "Binding".
use Rattle.std.specs.Prelude.{◌≡◌, ℕ, ◌+◌, ◌*◌, ◌≤◌, Bool, true, false, List, [], ◌∷◌, ◌++◌, length, Some, IsSome, Ok}
use Rattle.slab.specs.Slab.{ContainsKey, HasRoomFor}
use Rattle.hep_machine.specs.Words.{Statement, Units, dummies_of, unit_at, Binding, first_element, from_element, level_after_statement, Actual, evaluated, referred, Layout, with_frame, Scope, storage_of, living, unit_of, with_process, run, Activation, Dummy, Level, Process, State, Top, binding_of, entry_level, next_activation, scope_of, unit_on_top, with_activation, with_new_process, frame_cells}
use Rattle.hep_arena.specs.Holes.{first_fit}
use Rattle.hep_arena.specs.Space.{Space}
use Rattle.hep_layout.specs.Words.{frame_from, RunsFrom, Nodes, also, is_stacked}
use Rattle.hep_image.specs.BoundActivations.{AreKept}
use Rattle.hep_image.specs.Image.{most_cells}
use Rattle.hep_proc.specs.declared.frames.NewFrame.{NewFrame}
use Rattle.hep_proc.specs.declared.frames.Frames.{Frames}
use Rattle.hep_proc.specs.FrameTable.{AreOfSomeState, FramesOf, Keeps, frames_begun, frames_in}
use Rattle.hep_proc.specs.Nodes.{CanCount, nodes_of}
use Rattle.hep_step.specs.declared.dummy_storage.DummyStorage.{DummyStorage}
use Rattle.hep_step.specs.declared.dummy_storage.DummyStorage.TheVariants as given
use Rattle.hep_binding.specs.FrameWriting.{written_up_to}
use Rattle.hep_code.specs.Sources.{IsNamedOnce}

-- ---- a CALL, a CREATE or a reference

-- after some turns: the program, those turns, the process that calls, creates or refers to a function, its levels,
-- the top one first, the called unit, the actual arguments, and what they are bound to
pub record CallOf : Type 0 where
  pub program : Units
  pub choices : List ℕ
  pub process : ℕ
  pub top : Level × Process
  pub unit : ℕ
  pub actuals : List Actual
  pub binding : Binding

-- the state before it, and the process in that with its top activation
abbrev pub state_before_call : CallOf → State
state_before_call call = run call.program call.choices

abbrev pub caller : CallOf → Top
caller call = record { state = state_before_call call; process = call.process; level = call.top.0; below = call.top.1 }

-- the frames of that state, where these activations have frames
abbrev pub frames_before_call : CallOf → (ℕ → Bool) → Layout → FramesOf
frames_before_call call out layout = frames_in call.program (state_before_call call) out layout

-- ---- actual arguments: X3.9-1978, 15.9.3

-- what is given is the value of an expression, or the place of the storage units that a dummy argument is associated
-- with, one at least
abbrev pub IsPassed : Units → State → Layout → Scope → Actual → DummyStorage → Type 0
IsPassed program s layout scope (evaluated v) (given.Value w) = v ≡ w
IsPassed program s layout scope (referred r) (given.Units first count) =
    (1 ≤ count) × ((d : Dummy) → from_element (storage_of scope r.0) (first_element scope r) ≡ Ok d → (d.rest ≡ count) × RunsFrom program s layout d.start count first)
IsPassed program s layout scope _ _ = ⊥

-- this holds of each of them, and there are as many as are given
abbrev pub AreActualsPassed : Units → State → Layout → Scope → List Actual → List DummyStorage → Type 0
AreActualsPassed program s layout scope [] [] = Unit {0}
AreActualsPassed program s layout scope (y ∷ ys) (g ∷ gs) = IsPassed program s layout scope y g × AreActualsPassed program s layout scope ys gs
AreActualsPassed program s layout scope _ _ = ⊥

-- what is given is what the actual arguments give
abbrev pub ArePassed : CallOf → Layout → List DummyStorage → Type 0
ArePassed call layout gs =
    AreActualsPassed call.program (state_before_call call) layout (scope_of call.program (state_before_call call) call.top.0.activation) call.actuals gs

-- ---- states

-- the activation that it makes
abbrev pub called_activation : CallOf → Activation
called_activation call = record { unit = call.unit; parent = Some call.top.0.activation; dummies = call.binding.dummies }

-- the activation was made, and nothing is stored in it yet
abbrev pub state_begun : CallOf → State
state_begun call = record (state_before_call call) { activations = (state_before_call call).activations ++ called_activation call ∷ [] }

-- its level, and that of its caller or creator after the statement
abbrev pub level_called : CallOf → Level
level_called call = entry_level (unit_at call.program call.unit) (next_activation (state_before_call call))

abbrev pub level_behind : CallOf → Level
level_behind call = level_after_statement (unit_on_top call.program (caller call)) call.top.0

-- after a CALL or a reference it is on top of its caller
abbrev pub state_called : CallOf → State
state_called call = with_process (with_activation (caller call) call.unit call.binding) call.process (level_called call ∷ (call.top.0 ∷ call.top.1))

-- after a CREATE it is a process of its own, and the creator goes on
abbrev pub state_created : CallOf → State
state_created call =
    with_new_process (with_process (with_activation (caller call) call.unit call.binding) call.process (level_behind call ∷ call.top.1)) (level_called call ∷ [])

-- after either
abbrev pub state_made_by : Bool → CallOf → State
state_made_by false call = state_called call
state_made_by true call = state_created call

-- ---- its frame

-- the layout with the frame of a state's last activation
abbrev pub layout_with : Units → State → Layout → ℕ → Layout
layout_with program t layout first = with_frame layout (frame_from program t (length t.activations) first)

-- the unit of a state's last activation
abbrev pub unit_begun : Units → State → List Statement
unit_begun program t = unit_at program (unit_of t (length t.activations))

-- frames with that of state t's last activation, which begins at a cell; the requirements on other frames are as
-- before
abbrev pub frames_with : FramesOf → State → ℕ → FramesOf
frames_with f t first = record (frames_begun f t first) { wanted = f.wanted }

-- it has entered, and its first m cells are written
abbrev pub IsWritten : FramesOf → State → ℕ → ℕ → Space → Nodes → Type 0
IsWritten f t first m arena nodes = Keeps (written_up_to (frames_with f t first) (length t.activations) m) arena nodes

-- all of its cells are
abbrev pub IsAllWritten : FramesOf → State → ℕ → Space → Nodes → Type 0
IsAllWritten f t first arena nodes = IsWritten f t first (frame_cells (unit_begun f.program t)) arena nodes

-- the frames of state t are kept, with that of its last activation
abbrev pub IsKeptIn : FramesOf → State → ℕ → Space → Nodes → Type 0
IsKeptIn f t first arena nodes = Keeps (frames_in f.program t (also (length t.activations) f.out) (layout_with f.program t f.layout first)) arena nodes

-- what the dummy arguments of each activation on a stack are associated with is in consecutive cells
abbrev pub AreAllKept : Units → State → Layout → Type 0
AreAllKept program s layout = (a : ℕ) → is_stacked s a ≡ true → AreKept program s layout a

-- ---- what is passed

-- as many actual arguments are passed as the unit has dummy arguments, whose names are distinct, and they are bound without a fault
pub record IsPassing (call : CallOf) : Type 0 where
  pub lives : living (state_before_call call) call.process ≡ Some call.top
  pub bound : binding_of call.program (caller call) call.unit call.actuals ≡ Ok call.binding
  pub as_many : length call.actuals ≡ length (dummies_of (unit_at call.program call.unit))
  pub distinct : IsNamedOnce (dummies_of (unit_at call.program call.unit))

-- ---- the frame of that activation

-- the frame can enter: there is room for its node, and a gap for it, which has room for a header and what is given;
-- the frames are those of some state, and its parent's node exists, which can count one more child
pub record CanBeginWith (frames : Frames) (entrant : NewFrame) (given : List DummyStorage) : Type 0 where
  pub room : HasRoomFor frames.nodes 1
  pub few : length frames.arena.contents ≤ most_cells
  pub many : 1 + 2 * length given ≤ entrant.cells
  pub gap : IsSome (first_fit entrant.cells frames.arena.holes)
  pub there : ContainsKey frames.nodes entrant.parent
  pub kept : AreOfSomeState frames.arena (nodes_of frames.nodes)
  pub children : CanCount (nodes_of frames.nodes) entrant.parent
