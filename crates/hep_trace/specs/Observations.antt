-- What was observed of a process before its turn: docs/RUNS.md, "What each step did".
use Rattle.std.specs.Prelude.{◌≡◌, ℕ, Bool, true, false, List, [], length, map, Option, Some, None, slice_get}
use Rattle.std.specs.Borrow.{Bor}
use Rattle.std.specs.Option.{option_map}
use Rattle.hep_code.specs.declared.instruction.Evaluation.TheVariants.{Load, Test}
use Rattle.hep_code.specs.declared.instruction.Operation.{Operation}
use Rattle.hep_code.specs.declared.instruction.Operation.TheVariants.{Evaluate, Store, EnterLoop, EndLoop, Print}
use Rattle.hep_core.specs.CoreValues.{CoreValue, state_of}
use Rattle.hep_image.specs.Names.{names_in_order}
use Rattle.hep_machine.specs.declared.record.Item.{Item}
use Rattle.hep_machine.specs.Words.{Level, Name, Process, Redex, State, Top, Units, Value, answer_of, does, ending_loop, evaluating, function_name, leaving, line_at, living, next_of, printing, purging, schedule_of, step_result_of, stepped, unit_name, unit_of, unit_on_top, variable_of, wants}
use Rattle.hep_machine.specs.Evaluation as source
use Rattle.hep_output.specs.Records.{items_text}
use Rattle.hep_trace.specs.Ancestry.{IsAncestryOf}
use Rattle.hep_trace.specs.FreedFrames.{top_in}
use Rattle.hep_trace.specs.References.{IsAhead, IsReferenceAhead, top_after}
use Rattle.hep_trace.specs.WokenProcesses.{listed_numbers}
use Rattle.hep_trace.specs.declared.reference.LiveProcess.{LiveProcess}
use Rattle.hep_trace.specs.declared.reference.Reference.{Reference}
use Rattle.hep_event.specs.Sites.{HasValue, IsSomeSite, IsVariableOf}
use Rattle.hep_state.specs.declared.core_state.CoreState.{CoreState}
use Rattle.hep_state_text.specs.WaitTexts.{name_seen}
use Rattle.hep_event.specs.StepTexts.{deed_text, fault_added, line_after, own_reference, own_scope, value_given, value_in}
use Rattle.hep_event.specs.LineTexts.{references_text}
use Rattle.hep_event.specs.Traces.{is_accessed}
use Rattle.hep_event.specs.declared.operation_text.StepObservation.{StepObservation}
use Rattle.hep_event.specs.PlainTexts.{IsNameOfCalled}
use Rattle.hep_event.specs.StepObservations.{numbers_before}
use Rattle.hep_event.specs.OperationTexts.{place_seen, told_text}
use Rattle.hep_trace.specs.declared.observation.BeforeTurn.{BeforeTurn}
use Rattle.hep_trace.specs.declared.observation.Observation.{Observation}
pub use Rattle.hep_trace.specs.MadeTurns.{IsTurnMade}

-- the name of the variable whose accesses alone are shown
abbrev pub name_sought : Option (Bor (List ℕ)) → Option (List ℕ)
name_sought cell = option_map (λ name. name.now) cell

-- an operation reads or stores a variable, asks for its state, or counts by it
abbrev pub is_access : Operation → Bool
is_access (Evaluate (Load x n)) = true
is_access (Evaluate (Test f x n)) = true
is_access (Store x n next) = true
is_access (EnterLoop x cells inside behind) = true
is_access (EndLoop x cells inside behind) = true
is_access _ = false

-- ---- what is observed of the next operation

-- the unit's name for it, and its place, unless it is the activation's own
abbrev pub name_referred : Units → Option Reference → List ℕ
name_referred program None = []
name_referred program (Some r) = name_seen (slice_get (names_in_order program) r.name)

abbrev pub place_referred : Option Reference → Option (List ℕ)
place_referred None = None
place_referred (Some r) = option_map (λ text. text.items) r.place

-- the reference is to a site of a machine, with this value
abbrev pub IsSomeReference : CoreState → Option Reference → Type 0
IsSomeReference m None = Unit {0}
IsSomeReference m (Some r) = IsSomeSite m r.site

abbrev pub HasReferredValue : CoreState → Option Reference → Option Value → Type 0
HasReferredValue m None v = v ≡ None
HasReferredValue m (Some r) v = HasValue m r.site v

-- the value of a redex, or of the function that ends
pub record IsValueAhead (program : Units) (t : Top) (v : Option Value) : Type 0 where
  pub redex :
      (q : Redex) → next_of (unit_on_top program t) t.level.work ≡ wants (evaluating q)
      → v ≡ value_given (answer_of (own_scope program t) t.state.store q)
  pub result :
      (x : Name) → next_of (unit_on_top program t) t.level.work ≡ does leaving → function_name (unit_on_top program t) ≡ Some x
      → v ≡ value_in program t t.state.store x

-- the targets of a PURGE
abbrev pub IsListAhead : Units → Top → List ℕ → Type 0
IsListAhead program t list =
    (targets : List source.Reference) → next_of (unit_on_top program t) t.level.work ≡ does (purging targets)
    → list ≡ references_text (map (own_reference program t) targets)

-- the variable of a DO whose iteration ends
abbrev pub IsLoopAhead : Units → Top → Operation → Type 0
IsLoopAhead program t (EndLoop x cells inside behind) =
    (d : ℕ) × (next_of (unit_on_top program t) t.level.work ≡ does (ending_loop d))
    × IsVariableOf program (unit_on_top program t) (variable_of (unit_on_top program t) d) x
IsLoopAhead program t _ = Unit {0}

-- all of it, of a process of a machine after turns of these processes
pub record IsAheadSeen (cells : ℕ) (choices : List ℕ) (ahead : LiveProcess) (top : Level × Process) (b : BeforeTurn) : Type 0 where
  pub operation : b.operation ≡ ahead.coming.now.operation
  pub operands : b.operands.items ≡ ahead.coming.now.operands.items
  pub reference : IsReferenceAhead cells choices ahead (top_after ahead.image.now choices ahead.process top) b.reference
  pub value : IsValueAhead ahead.image.now (top_after ahead.image.now choices ahead.process top) b.value
  pub list : IsListAhead ahead.image.now (top_after ahead.image.now choices ahead.process top) b.list.items
  pub numbers : b.numbers ≡ numbers_before (top_after ahead.image.now choices ahead.process top)

-- the machine is that of a core
pub record IsAheadOf (core : CoreValue) (ahead : LiveProcess) (top : Level × Process) : Type 0 where
  pub program : ahead.image.now ≡ core.program
  pub ahead_is : IsAhead core.cells (schedule_of core.history) ahead top

-- ---- what is observed after the step

-- its value was observed before, except that of a DO's variable at the end of an iteration
abbrev pub IsValueSeen : Units → Top → BeforeTurn → State → Option Value → Operation → Type 0
IsValueSeen program t b after v (EndLoop x cells inside behind) =
    (d : ℕ) → next_of (unit_on_top program t) t.level.work ≡ does (ending_loop d) → v ≡ value_in program t after.store (variable_of (unit_on_top program t) d)
IsValueSeen program t b after v _ = v ≡ b.value

-- the targets of a PURGE were observed before, and what is printed is afterwards
abbrev pub IsListSeen : Units → Top → BeforeTurn → List ℕ → Operation → Type 0
IsListSeen program t b list (Print count next) =
    (items : List Item) → next_of (unit_on_top program t) t.level.work ≡ does (printing items) → list ≡ items_text false items
IsListSeen program t b list _ = list ≡ b.list.items

-- all that is observed of a step, with what was observed before it
pub record IsSeenWith (program : Units) (t : Top) (b : BeforeTurn) (after : State) (seen : StepObservation) : Type 0 where
  pub unit : seen.unit.now ≡ unit_name (unit_on_top program t)
  pub called : IsNameOfCalled program b.operation seen.called.now
  pub variable_is : seen.variable.now ≡ name_referred program b.reference
  pub place_is : place_seen seen ≡ place_referred b.reference
  pub numbers : seen.numbers ≡ b.numbers
  pub line : seen.line ≡ line_after program t after
  pub value : IsValueSeen program t b after seen.value b.operation
  pub list : IsListSeen program t b seen.list.now b.operation

-- this determines the words for the step, if it was no fault
abbrev pub IsToldWith : Units → Top → BeforeTurn → Type 0
IsToldWith program t b =
    (after : State) (seen : StepObservation) → living t.state t.process ≡ Some (t.level, t.below) → step_result_of program t.process t.state ≡ stepped after
    → fault_added t.state.faults after.faults ≡ None → IsSeenWith program t b after seen
    → deed_text program t (step_result_of program t.process t.state) ≡ told_text seen b.operation b.operands.items

-- ---- observations

-- the place and the next operation of a process, the waiting processes, the ancestry of its top activation, and the
-- number of faults
pub record IsBefore (core : CoreValue) (t : Top) (b : BeforeTurn) : Type 0 where
  pub unit : b.unit ≡ unit_of t.state t.level.activation
  pub line : b.line ≡ line_at (unit_on_top core.program t) t.level.statement
  pub told : IsToldWith core.program t b
  pub loop : IsLoopAhead core.program t b.operation
  pub waiting : b.waiting.items ≡ listed_numbers core
  pub ancestry : IsAncestryOf t b.ancestry.items
  pub faults : b.faults ≡ length t.state.faults

abbrev pub IsShownBy : CoreValue → Top → Option BeforeTurn → Bool → Type 0
IsShownBy core t before false = before ≡ None
IsShownBy core t before true = (b : BeforeTurn) × (before ≡ Some b) × IsBefore core t b

abbrev pub IsObservationOf : CoreValue → ℕ → Option (List ℕ) → Option BeforeTurn → Option (Level × Process) → Type 0
IsObservationOf core p cell before None = before ≡ None
IsObservationOf core p cell before (Some top) = IsShownBy core (top_in core p top) before (is_accessed core.program cell (top_in core p top))

-- what was observed of process p, where the turns that access a variable of one name are shown, or all; nothing where
-- its turn has no line
abbrev pub IsObservation : CoreValue → ℕ → Option (List ℕ) → Observation → Type 0
IsObservation core p cell s = (s.process ≡ p) × IsObservationOf core p cell s.before (living (state_of core) p)

-- ---- turns

-- a process was observed before its turn, which was made
pub record IsTurnSeen (old : CoreValue) (t : Top) (b : BeforeTurn) (new : CoreValue) : Type 0 where
  pub state : t.state ≡ state_of old
  pub lives : living t.state t.process ≡ Some (t.level, t.below)
  pub before : IsBefore old t b
  pub made : IsTurnMade old t.process new

-- and that was a step, and no fault
pub record IsStepSeen (old : CoreValue) (t : Top) (b : BeforeTurn) (new : CoreValue) : Type 0 where
  pub turn : IsTurnSeen old t b new
  pub running : t.state.halted ≡ false
  pub made : step_result_of old.program t.process t.state ≡ stepped (state_of new)
  pub sound : fault_added t.state.faults (state_of new).faults ≡ None
