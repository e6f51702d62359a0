-- What is given is what the source machine's dummy arguments are associated with: X3.9-1978, 15.9.3, and
-- docs/MACHINE.md, "Binding".
use Rattle.std.specs.Prelude.{◌≡◌, ◌≢◌, ℕ, ◌≤◌, List, [], ◌∷◌, ◌++◌, length, map, Some, Result, Ok, Err, slice_get}
use Rattle.std.specs.List.{flat_map}
use Rattle.hep_machine.specs.Words.{Name, Statement, Value, Units, unit_at, Actual, evaluated, referred, Frame, Layout, unit_of, Dummy, Scope, State, local, scope_of}
use Rattle.hep_machine.specs.declared.event.Kind.{Kind}
use Rattle.hep_arena.specs.Gaps.{frame_among}
use Rattle.hep_arena.specs.Space.{Space}
use Rattle.hep_code.specs.declared.instruction.Instruction.{Instruction}
use Rattle.hep_code.specs.declared.instruction.Instruction.TheVariants.{Pass}
use Rattle.hep_code.specs.declared.variable.Variable.{Variable}
use Rattle.hep_code.specs.declared.variable.Variable.TheVariants.{Absent}
use Rattle.hep_code.specs.Words.{PassedArgument, argument_of_actual, operands_of_actual, passed_from}
use Rattle.hep_layout.specs.Words.{Describes, descriptor_slots, RunsFrom}
use Rattle.hep_image.specs.declared.array.Array.{Array}
use Rattle.hep_image.specs.Addressing.{cells_in}
use Rattle.hep_image.specs.Places.{variable_of}
use Rattle.hep_image.specs.BoundActivations.{AreClosed, AreKept, IsBound}
use Rattle.hep_step.specs.Simulation.{RunningTop, unit_arrays}
use Rattle.hep_step.specs.declared.dummy_storage.DummyStorage.{DummyStorage}
use Rattle.hep_step.specs.declared.dummy_storage.DummyStorage.TheVariants as giving
use Rattle.hep_step.specs.ArgumentPassing.{given_by, passed_at}

-- ---- who calls

-- an activation that passes actual arguments: the program, its state, the places of frames, the arena, the
-- activation, and its frame
pub record CallerOf : Type 0 where
  pub program : Units
  pub state : State
  pub layout : Layout
  pub arena : Space
  pub activation : ℕ
  pub frame : Frame

-- the top activation of a process
abbrev pub caller_running : RunningTop → CallerOf
caller_running r =
    record {
      program = r.program;
      state = r.top.state;
      layout = r.layout;
      arena = r.arena;
      activation = r.top.level.activation;
      frame = r.frame;
    }

-- its unit, the places of the unit's variables, the unit's arrays, and the storage units of its names
abbrev pub unit_calling : CallerOf → List Statement
unit_calling c = unit_at c.program (unit_of c.state c.activation)

abbrev pub variables_calling : CallerOf → Name → Variable
variables_calling c = variable_of c.program (unit_calling c)

abbrev pub arrays_calling : CallerOf → List Array
arrays_calling c = unit_arrays c.program (unit_of c.state c.activation)

abbrev pub scope_calling : CallerOf → Scope
scope_calling c = scope_of c.program c.state c.activation

-- the arena has its dummy arguments and DOs, and keeps what the dummy arguments are associated with
pub record IsCaller (c : CallerOf) : Type 0 where
  pub closed : AreClosed c.program
  pub unit : slice_get c.program (unit_of c.state c.activation) ≡ Some (unit_calling c)
  pub framed : frame_among c.activation c.layout ≡ Some c.frame
  pub described : Describes c.program c.state c.layout (descriptor_slots c.program c.state c.layout) c.arena.contents
  pub bound : IsBound c.program c.state c.activation
  pub kept : AreKept c.program c.state c.layout c.activation

-- the top activation of a process is one
abbrev pub IsTopCaller : RunningTop → Type 0
IsTopCaller r = IsCaller (caller_running r)

-- ---- what it passes

-- storage units: those of a variable, of a whole array or of the element with these subscripts
abbrev pub storage_passed : CallerOf → Name → List Value → Result (ℕ × ℕ) Kind
storage_passed c x subscripts = passed_at (cells_in c.arena.contents) c.frame.first (arrays_calling c) (variables_calling c x) subscripts

-- actual arguments, by the entries after its operation, which more instructions may follow, and by its operands
abbrev pub passed_by_entries : CallerOf → List Actual → List Instruction → List PassedArgument
passed_by_entries c actuals more =
    passed_from (length actuals) (map (λ y. Pass (argument_of_actual (variables_calling c) y)) actuals ++ more) (flat_map operands_of_actual actuals)

-- and what they give
abbrev pub given_passed : CallerOf → List PassedArgument → Result (List DummyStorage) Kind
given_passed c = given_by (cells_in c.arena.contents) c.frame.first (arrays_calling c)

-- each variable, array or element among actual arguments has storage units
abbrev pub ArePlaced : (Name → Variable) → List Actual → Type 0
ArePlaced variables [] = Unit {0}
ArePlaced variables (evaluated v ∷ actuals) = ArePlaced variables actuals
ArePlaced variables (referred r ∷ actuals) = (variables r.0 ≢ Absent) × ArePlaced variables actuals

-- ---- what is given

module _ (program : Units) (s : State) (layout : Layout) where
  -- storage units from a cell on are what a dummy argument is associated with, whose shape is not yet known
  pub record AreUnitsOf (units : ℕ × ℕ) (d : Dummy) : Type 0 where
    pub some : 1 ≤ units.1
    pub rest : d.rest ≡ units.1
    pub shape : d.shape ≡ []
    pub run : RunsFrom program s layout d.start d.rest units.0

  -- the same storage units, or the same fault
  abbrev pub IsPassedAs : Result (ℕ × ℕ) Kind → Result Dummy Kind → Type 0
  IsPassedAs (Ok units) (Ok d) = AreUnitsOf units d
  IsPassedAs (Err k) (Err l) = k ≡ l
  IsPassedAs _ _ = ⊥

  module _ (b : ℕ) where
    -- what dummy argument x of activation b is given: the value of an expression, which is a variable of its own, or
    -- storage units
    abbrev pub IsGiven : Name → Actual → DummyStorage → Dummy → Type 0
    IsGiven x (evaluated v) (giving.Value w) d = (w ≡ v) × (d ≡ record { start = local b x 1; rest = 1; shape = [] })
    IsGiven x (referred r) (giving.Units first count) d = AreUnitsOf (first, count) d
    IsGiven x _ _ d = ⊥

    -- dummy arguments one by one
    abbrev pub AreGiven : List Name → List Actual → List DummyStorage → List Dummy → Type 0
    AreGiven [] [] [] [] = Unit {0}
    AreGiven (x ∷ xs) (y ∷ ys) (g ∷ gs) (d ∷ ds) = IsGiven x y g d × AreGiven xs ys gs ds
    AreGiven _ _ _ _ = ⊥

    -- all of them, or the same fault
    abbrev pub AreGivenAs : List Name → List Actual → Result (List DummyStorage) Kind → Result (List Dummy) Kind → Type 0
    AreGivenAs xs ys (Ok gs) (Ok ds) = AreGiven xs ys gs ds
    AreGivenAs xs ys (Err k) (Err l) = k ≡ l
    AreGivenAs xs ys _ _ = ⊥
