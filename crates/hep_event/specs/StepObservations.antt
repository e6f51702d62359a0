-- What has to be observed of a step, by what comes next of its process: docs/RUNS.md, "What each step did".
use Rattle.std.specs.Prelude.{◌≡◌, ◌+◌, false, nat_eq, length, map, Some}
use Rattle.hep_code.specs.declared.variable.Variable.{Variable}
use Rattle.hep_code.specs.Words.{is_asynchronous}
use Rattle.hep_machine.specs.Evaluation.{reading}
use Rattle.hep_machine.specs.Words.{Action, Name, Next, Redex, Reference, State, Top, Units, answer_of, function_name, function_unit, spelling, testing, unit_at, unit_called, unit_name, unit_on_top, variable_of, wants, does, evaluating, referring, assigning, jumping, entering_loop, ending_loop, calling, creating, purging, printing, continuing, leaving}
use Rattle.hep_output.specs.Records.{items_text}
use Rattle.hep_event.specs.StepTexts.{line_after, own_reference, own_scope, place_of, value_given, value_in}
use Rattle.hep_event.specs.LineTexts.{references_text}
use Rattle.hep_event.specs.declared.plain_text.NextNumbers.{NextNumbers}
use Rattle.hep_event.specs.declared.operation_text.StepObservation.{StepObservation}
use Rattle.hep_event.specs.OperationTexts.{place_seen}

-- the numbers that come next
abbrev pub numbers_before : Top → NextNumbers
numbers_before t = record { activation = length t.state.activations + 1; process = length t.state.processes + 1; alone = nat_eq (length t.below) 0 }

-- of an activation on top of a process, with the variables of its unit's names, and the state after its step
module _ (program : Units) (t : Top) (variables : Name → Variable) (after : State) (seen : StepObservation) where
  -- a variable or an element
  pub record IsReferenceSeen (r : Reference) : Type 0 where
    pub name : seen.variable.now ≡ spelling r.0
    pub asynchronous : is_asynchronous (variables r.0) ≡ r.0.asynchronous
    pub place : place_seen seen ≡ place_of program t r

  -- and the result of an access to it
  abbrev pub IsAccessSeen : Redex → Reference → Type 0
  IsAccessSeen redex r = IsReferenceSeen r × (seen.value ≡ value_given (answer_of (own_scope program t) t.state.store redex))

  abbrev pub IsRedexSeen : Redex → Type 0
  IsRedexSeen (reading r) = IsAccessSeen (reading r) r
  IsRedexSeen (testing f r) = IsAccessSeen (testing f r) r
  IsRedexSeen _ = Unit {0}

  -- the variable of a DO, with its value after the step
  abbrev pub IsLoopSeen : Name → Type 0
  IsLoopSeen x = (seen.variable.now ≡ spelling x) × (seen.value ≡ value_in program t after.store x)

  -- the value with which a function ends
  abbrev pub IsResultSeen : Type 0
  IsResultSeen =
      (x : Name) → function_name (unit_on_top program t) ≡ Some x
      → (seen.unit.now ≡ unit_name (unit_on_top program t)) × (seen.value ≡ value_in program t t.state.store x)

  abbrev pub IsActionSeen : Action → Type 0
  IsActionSeen (assigning r v) = IsReferenceSeen r
  IsActionSeen (jumping l) = seen.line ≡ line_after program t after
  IsActionSeen (entering_loop x m n k) = seen.variable.now ≡ spelling x
  IsActionSeen (ending_loop d) = IsLoopSeen (variable_of (unit_on_top program t) d)
  IsActionSeen (calling x actuals) = seen.called.now ≡ unit_name (unit_at program (unit_called program x))
  IsActionSeen (creating x actuals) = seen.called.now ≡ unit_name (unit_at program (unit_called program x))
  IsActionSeen (purging targets) = seen.list.now ≡ references_text (map (own_reference program t) targets)
  IsActionSeen (printing items) = seen.list.now ≡ items_text false items
  IsActionSeen continuing = seen.line ≡ line_after program t after
  IsActionSeen leaving = IsResultSeen
  IsActionSeen _ = Unit {0}

  abbrev pub IsNextSeen : Next → Type 0
  IsNextSeen (wants (evaluating r)) = IsRedexSeen r
  IsNextSeen (wants (referring x actuals)) = seen.called.now ≡ unit_name (unit_at program (function_unit program x))
  IsNextSeen (does a) = IsActionSeen a

  -- what comes next was observed
  pub record IsSeen (next : Next) : Type 0 where
    pub numbers : seen.numbers ≡ numbers_before t
    pub is_so : IsNextSeen next
