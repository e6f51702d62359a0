-- The values that the steps of a process read: docs/RUNS.md, "What differs".
use Rattle.std.specs.Prelude.{ℕ, suc, nat_eq, if◌then◌else◌, List, [], ◌++◌, drop, take, Option, Some, None, option_to_list, Result, Ok, Err}
use Rattle.std.specs.Option.{option_map}
use Rattle.hep_machine.specs.declared.event.Entry.{Entry}
use Rattle.hep_machine.specs.declared.event.Kind.{Kind}
use Rattle.hep_machine.specs.declared.slot.Slot.{Slot}
use Rattle.hep_machine.specs.Evaluation.{reading}
use Rattle.hep_machine.specs.Words.{Level, Location, Name, Next, Process, Reference, Scope, State, Statement, Units, Value, does, ending_loop, evaluating, function_name, leaving, line_at, living, location_of_name, next_of, scope_of, state_after, testing, unit_at, unit_of, variable_of, wants, is_empty, is_full, StateFunction, IsEmpty, IsFull, ValueOf, Truth}
unfoldable pub use Rattle.hep_fold.specs.Turns.{seen_along}
use Rattle.hep_fold.specs.Turns.{turns_from}
use Rattle.hep_views.specs.ListedProcesses.{place_of}
use Rattle.hep_diff.specs.declared.process_step.ProcessStep.{ProcessStep}
use Rattle.hep_diff.specs.declared.process_step.CellReading.{CellReading}

-- ---- what a step reads

-- a variable or element, and how it is read: its value, or the result of a function of full and empty
abbrev pub Question : Type 0
Question = Reference × StateFunction

abbrev pub result_question : Option Name → Option Question
result_question x = option_map (λ (y : Name). ((y, []), ValueOf)) x

-- a read, the functions of full and empty, the end of an iteration of a DO, and the end of a function read something
abbrev pub question_of : List Statement → Next → Option Question
question_of unit (wants (evaluating (reading r))) = Some (r, ValueOf)
question_of unit (wants (evaluating (testing f r))) = Some (r, f)
question_of unit (does (ending_loop d)) = Some ((variable_of unit d, []), ValueOf)
question_of unit (does leaving) = result_question (function_name unit)
question_of unit _ = None

-- what is read from a cell: by FULL and EMPTY whether it is full, otherwise its value
abbrev pub answer_of : StateFunction → Slot → Option Value
answer_of IsFull c = Some (Truth (is_full c))
answer_of IsEmpty c = Some (Truth (is_empty c))
answer_of _ c = c.value

-- ---- one step

module _ (program : Units) (s : State) where
  -- nothing is read where there is no such element
  abbrev pub found_at : StateFunction → Result Location Kind → Option CellReading
  found_at f (Err k) = None
  found_at f (Ok at) = Some (record { place = place_of program s at; value = answer_of f (s.store at) })

  abbrev pub found_by : Scope → Option Question → Option CellReading
  found_by scope None = None
  found_by scope (Some q) = found_at q.1 (location_of_name scope q.0.0 q.0.1)

  abbrev pub unit_in : Level → List Statement
  unit_in level = unit_at program (unit_of s level.activation)

  -- what the step of a process at this level reads
  abbrev pub found_of : Level → Option CellReading
  found_of level = found_by (scope_of program s level.activation) (question_of (unit_in level) (next_of (unit_in level) level.work))

  -- that step, as part of an entry
  abbrev pub deed_at : ℕ → Level → ProcessStep
  deed_at entry level =
      record { entry = entry; unit = unit_of s level.activation; line = line_at (unit_in level) level.statement; found = found_of level }

  -- of process p, where it lives
  abbrev pub deed_by : ℕ → ℕ → Option ProcessStep
  deed_by entry p = option_map (λ (top : Level × Process). deed_at entry top.0) (living s p)

-- ---- histories

-- a step of process p, if that is process q
abbrev pub of_process : ℕ → ℕ → Option ProcessStep → List ProcessStep
of_process q p d = if nat_eq q p then option_to_list d else []

-- the steps of process q, with that of process p from a state, in the entry with this number
abbrev pub steps_of : Units → ℕ → ℕ → ℕ → State → List ProcessStep → List ProcessStep
steps_of program q entry p s steps = steps ++ of_process q p (deed_by program s entry p)

-- those of the entries of a history after the first n, each with the number of its entry
abbrev pub deeds_behind : Units → ℕ → List Entry → ℕ → List ProcessStep
deeds_behind program n history q =
    seen_along program (steps_of program q) (state_after program (take n history)) (turns_from (suc n) (drop n history)) []
