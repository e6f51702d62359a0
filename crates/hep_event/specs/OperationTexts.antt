-- The words for any operation, by its operands and by what was observed of its step: docs/RUNS.md, "What each step
-- did".
use Rattle.std.specs.Prelude.{ℕ, ◌-◌, Bool, List, ◌++◌, codes, drop, length, Option}
use Rattle.std.specs.Option.{option_map}
use Rattle.hep_code.specs.declared.instruction.Evaluation.TheVariants.{Load, Test}
use Rattle.hep_code.specs.declared.instruction.Operation.{Operation}
use Rattle.hep_code.specs.declared.instruction.Operation.TheVariants.{Evaluate, Store, Jump, EnterLoop, EndLoop, Answer, Purge, Print}
use Rattle.hep_code.specs.Words.{first_operand, is_asynchronous, second_operand}
use Rattle.hep_machine.specs.Words.{StateFunction, Value}
use Rattle.hep_event.specs.StepTexts.{told_of}
use Rattle.hep_event.specs.LineTexts.{accessed_text, answer_text, jump_text, loop_text, next_text, read_verb, reference_text, store_verb, tested_text}
use Rattle.hep_event.specs.declared.operation_text.StepObservation.{StepObservation}
use Rattle.hep_event.specs.PlainTexts.{plain_text}

-- the place of the variable, where it is named
abbrev pub place_seen : StepObservation → Option (List ℕ)
place_seen seen = option_map (λ place. place.now) seen.place

abbrev pub load_text : StepObservation → Bool → List Value → Value → List ℕ
load_text seen asynchronous subscripts v = accessed_text (read_verb asynchronous) (reference_text seen.variable.now subscripts) v (place_seen seen)

abbrev pub test_text : StepObservation → StateFunction → List Value → Value → List ℕ
test_text seen f subscripts v = tested_text f (reference_text seen.variable.now subscripts) v (place_seen seen)

-- the first operand is stored, and the others are subscripts
abbrev pub store_text : StepObservation → Bool → List Value → List ℕ
store_text seen asynchronous vs = accessed_text (store_verb asynchronous) (reference_text seen.variable.now (drop 1 vs)) (first_operand vs) (place_seen seen)

abbrev pub entered_text : StepObservation → List Value → List ℕ
entered_text seen vs = loop_text seen.variable.now (first_operand vs) (second_operand vs) (second_operand (drop 1 vs))

abbrev pub told_text : StepObservation → Operation → List Value → List ℕ
told_text seen (Evaluate (Load x n)) vs = told_of seen.value (load_text seen (is_asynchronous x) (drop (length vs - n) vs))
told_text seen (Evaluate (Test f x n)) vs = told_of seen.value (test_text seen f (drop (length vs - n) vs))
told_text seen (Store x n next) vs = store_text seen (is_asynchronous x) vs
told_text seen (Jump next) vs = jump_text seen.line
told_text seen (EnterLoop x cells inside behind) vs = entered_text seen vs
told_text seen (EndLoop x cells inside behind) vs = told_of seen.value (next_text seen.variable.now)
told_text seen (Answer x) vs = told_of seen.value (answer_text seen.unit.now)
told_text seen (Purge count next) vs = codes "purge" ++ seen.list.now
told_text seen (Print count next) vs = codes "print " ++ seen.list.now
told_text seen o vs = plain_text seen.called.now seen.numbers o vs
