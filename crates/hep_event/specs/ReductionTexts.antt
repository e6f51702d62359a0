-- The words for a redex of values alone, by its operation and its operands: docs/RUNS.md, "What each step did".
use Rattle.std.specs.Prelude.{ℕ, Bool, true, false, List, [], Result, Ok, Err}
use Rattle.hep_code.specs.declared.instruction.Evaluation.{Evaluation}
use Rattle.hep_code.specs.declared.instruction.Evaluation.TheVariants.{Load, Sign, Not, Combine, Apply, Test}
use Rattle.hep_code.specs.Words.{first_operand, second_operand}
use Rattle.hep_dump.specs.Faults.{kind_text}
use Rattle.hep_machine.specs.declared.event.Kind.{Kind}
use Rattle.hep_machine.specs.Words.{Value, combined_value, function_value, negated_value, signed_value}
use Rattle.hep_event.specs.LineTexts.{applied_text, combined_text, fault_text, negated_text, signed_text}

-- it reads no cell
abbrev pub is_pure : Evaluation → Bool
is_pure (Load x n) = false
is_pure (Test f x n) = false
is_pure _ = true

-- the words with the result, or the fault
abbrev pub result_text : Result Value Kind → (Value → List ℕ) → List ℕ
result_text (Ok v) text = text v
result_text (Err k) text = fault_text (kind_text k)

-- no words for one that reads a cell
abbrev pub pure_text : Evaluation → List Value → List ℕ
pure_text (Sign s) vs = result_text (signed_value s (first_operand vs)) (signed_text s (first_operand vs))
pure_text Not vs = result_text (negated_value (first_operand vs)) (negated_text (first_operand vs))
pure_text (Combine o) vs =
    result_text (combined_value o (first_operand vs) (second_operand vs)) (combined_text o (first_operand vs) (second_operand vs))
pure_text (Apply f n) vs = result_text (function_value f vs) (applied_text f vs)
pure_text _ vs = []
