-- What a step does, in words, by a program and the states before and after it: docs/RUNS.md, "What each step did".
use Rattle.std.specs.Prelude.{ℕ, ◌+◌, nat_eq, Bool, false, ◌&&◌, if◌then◌else◌, List, [], ◌∷◌, length, map, Option, Some, None, Result, Ok, Err}
use Rattle.hep_machine.specs.declared.event.Fault.{Fault}
use Rattle.hep_machine.specs.declared.event.Kind.{Kind}
use Rattle.hep_machine.specs.Evaluation.{reading}
use Rattle.hep_machine.specs.Step.{gives, waits}
use Rattle.hep_machine.specs.Words.{Name, spelling, same_name, Units, Value, function_name, Level, Location, line_at, living, local, common, Reference, Process, Scope, State, Store, StepResult, stepped, waiting, absent, Top, Answer, answer_of, fails, location_of_name, next_activation, next_of, scope_of, function_unit, unit_at, unit_called, unit_name, unit_of, unit_on_top, variable_of, Redex, signing, negating, combining, applying, testing, RedexOrReference, evaluating, referring, Next, wants, does, Action, assigning, jumping, choosing, branching, testing_condition, entering_block, entering_loop, ending_loop, calling, creating, purging, printing, continuing, leaving, resuming, stopping}
use Rattle.hep_dump.specs.Faults.{kind_text}
use Rattle.hep_state_text.specs.States as states
use Rattle.hep_event.specs.LineTexts as lines
use Rattle.hep_event.specs.LineTexts.{accessed_text, read_verb, reference_text, store_verb, tested_text}

-- a storage unit is the variable x of activation a, or an element of it
abbrev pub is_own : ℕ → Name → Location → Bool
is_own a x (local b y i) = nat_eq a b && same_name x y
is_own a x (common b i) = false

-- the value of an answer, if it has one
abbrev pub value_given : Answer → Option Value
value_given (gives v store) = Some v
value_given (waits w) = None
value_given (fails k) = None

-- no words without a value
abbrev pub told_of : Option Value → (Value → List ℕ) → List ℕ
told_of None text = []
told_of (Some v) text = text v

-- the fault that a step has added, if it has one
abbrev pub fault_added : List Fault → List Fault → Option Kind
fault_added [] [] = None
fault_added [] (f ∷ fs) = Some f.kind
fault_added (g ∷ gs) [] = None
fault_added (g ∷ gs) (f ∷ fs) = fault_added gs fs

-- of an activation on top of a process, before its step
module _ (program : Units) (t : Top) where
  abbrev pub own_scope : Scope
  own_scope = scope_of program t.state t.level.activation

  -- ---- variables and elements

  abbrev pub own_reference : Reference → List ℕ
  own_reference r = reference_text (spelling r.0) r.1

  abbrev pub place_at : Name → Location → Option (List ℕ)
  place_at x at = if is_own t.level.activation x at then None else Some (states.place_text program t.state at)

  -- the place of it, unless it is the activation's own
  abbrev pub place_by : Name → Result Location Kind → Option (List ℕ)
  place_by x (Err k) = None
  place_by x (Ok at) = place_at x at

  abbrev pub place_of : Reference → Option (List ℕ)
  place_of r = place_by r.0 (location_of_name own_scope r.0 r.1)

  -- the value that a variable has in a state
  abbrev pub value_at : Store → Result Location Kind → Option Value
  value_at store (Err k) = None
  value_at store (Ok at) = (store at).value

  abbrev pub value_in : Store → Name → Option Value
  value_in store x = value_at store (location_of_name own_scope x [])

  -- ---- redexes

  abbrev pub redex_text : Redex → Value → List ℕ
  redex_text (reading r) v = accessed_text (read_verb r.0.asynchronous) (own_reference r) v (place_of r)
  redex_text (signing s x) v = lines.signed_text s x v
  redex_text (negating x) v = lines.negated_text x v
  redex_text (combining o x y) v = lines.combined_text o x y v
  redex_text (applying f xs) v = lines.applied_text f xs v
  redex_text (testing f r) v = tested_text f (own_reference r) v (place_of r)

  -- unit u of the program
  abbrev pub named : ℕ → List ℕ
  named u = unit_name (unit_at program u)

  abbrev pub call_text : ℕ → List ℕ
  call_text u = lines.call_text (named u) (next_activation t.state)

  abbrev pub sought_text : RedexOrReference → List ℕ
  sought_text (evaluating r) = told_of (value_given (answer_of own_scope t.state.store r)) (redex_text r)
  sought_text (referring x actuals) = call_text (function_unit program x)

  -- ---- actions, by the state after them

  abbrev pub line_by : State → Option (Level × Process) → ℕ
  line_by after None = 0
  line_by after (Some top) = line_at (unit_at program (unit_of after top.0.activation)) top.0.statement

  -- the line of the process after the step
  abbrev pub line_after : State → ℕ
  line_after after = line_by after (living after t.process)

  -- the main program and a subroutine end without a value, a function with that of its result
  abbrev pub leaving_text : Option Name → Process → List ℕ
  leaving_text None below = lines.end_text (nat_eq (length below) 0)
  leaving_text (Some x) below = told_of (value_in t.state.store x) (lines.answer_text (unit_name (unit_on_top program t)))

  abbrev pub resuming_text : Process → List ℕ
  resuming_text [] = lines.resume_text None
  resuming_text (level ∷ levels) = lines.resume_text (Some (length t.state.processes + 1))

  -- a GO TO and a statement that does nothing both name the line that they lead to
  abbrev pub action_text : State → Action → List ℕ
  action_text after (assigning r v) = accessed_text (store_verb r.0.asynchronous) (own_reference r) v (place_of r)
  action_text after (jumping l) = lines.jump_text (line_after after)
  action_text after (choosing labels v) = lines.choice_text (length labels) v
  action_text after (branching labels v) = lines.branch_text v
  action_text after (testing_condition v) = lines.condition_text v
  action_text after (entering_block v) = lines.condition_text v
  action_text after (entering_loop x m n k) = lines.loop_text (spelling x) m n k
  action_text after (ending_loop d) =
      told_of (value_in after.store (variable_of (unit_on_top program t) d)) (lines.next_text (spelling (variable_of (unit_on_top program t) d)))
  action_text after (calling x actuals) = call_text (unit_called program x)
  action_text after (creating x actuals) = lines.create_text (length t.state.processes + 1) (named (unit_called program x)) (next_activation t.state)
  action_text after (purging targets) = lines.purged_text (map own_reference targets)
  action_text after (printing items) = lines.print_text items
  action_text after continuing = lines.jump_text (line_after after)
  action_text after leaving = leaving_text (function_name (unit_on_top program t)) t.below
  action_text after resuming = resuming_text t.below
  action_text after stopping = lines.stop_text

  abbrev pub next_text : State → Next → List ℕ
  next_text after (wants r) = sought_text r
  next_text after (does a) = action_text after a

  -- ---- a turn

  -- a step that added a fault did nothing else
  abbrev pub step_text : State → Option Kind → List ℕ
  step_text after (Some k) = lines.fault_text (kind_text k)
  step_text after None = next_text after (next_of (unit_on_top program t) t.level.work)

  abbrev pub deed_text : StepResult → List ℕ
  deed_text (stepped s) = step_text s (fault_added t.state.faults s.faults)
  deed_text (waiting w) = lines.waits_text w.full (states.place_text program t.state w.at)
  deed_text absent = []
