-- The words for operations that name no variable and print nothing, by their operands and the next numbers:
-- docs/RUNS.md, "What each step did".
use Rattle.std.specs.Prelude.{◌≡◌, ℕ, ◌-◌, Bool, true, false, List, [], drop, length, Option, Some, None}
use Rattle.hep_code.specs.declared.instruction.Operation.{Operation}
use Rattle.hep_code.specs.declared.instruction.Operation.TheVariants.{Evaluate, Choose, BySign, Condition, Branch, Call, Create, Refer, Return, Resume, Stop}
use Rattle.hep_code.specs.Words.{arity, first_operand}
use Rattle.hep_machine.specs.Words.{Units, Value, unit_at, unit_name}
use Rattle.hep_event.specs.LineTexts as lines
use Rattle.hep_event.specs.declared.plain_text.NextNumbers.{NextNumbers}
use Rattle.hep_event.specs.ReductionTexts.{is_pure, pure_text}

abbrev pub is_plain : Operation → Bool
is_plain (Evaluate e) = is_pure e
is_plain (Choose count next) = true
is_plain (BySign negative equal positive) = true
is_plain (Condition otherwise) = true
is_plain (Branch inside otherwise) = true
is_plain (Call u count next) = true
is_plain (Create u count next) = true
is_plain (Refer u count) = true
is_plain Return = true
is_plain (Resume next) = true
is_plain Stop = true
is_plain _ = false

-- the process in which a subroutine goes on after RESUME: none where it is alone on its process
abbrev pub resumed : Bool → ℕ → Option ℕ
resumed true process = None
resumed false process = Some process

-- no words for other operations; `called` is the name of a called unit
abbrev pub plain_text : List ℕ → NextNumbers → Operation → List Value → List ℕ
plain_text called numbers (Evaluate e) operands = pure_text e (drop (length operands - arity e) operands)
plain_text called numbers (Choose count next) operands = lines.choice_text count (first_operand operands)
plain_text called numbers (BySign negative equal positive) operands = lines.branch_text (first_operand operands)
plain_text called numbers (Condition otherwise) operands = lines.condition_text (first_operand operands)
plain_text called numbers (Branch inside otherwise) operands = lines.condition_text (first_operand operands)
plain_text called numbers (Call u count next) operands = lines.call_text called numbers.activation
plain_text called numbers (Create u count next) operands = lines.create_text numbers.process called numbers.activation
plain_text called numbers (Refer u count) operands = lines.call_text called numbers.activation
plain_text called numbers Return operands = lines.end_text numbers.alone
plain_text called numbers (Resume next) operands = lines.resume_text (resumed numbers.alone numbers.process)
plain_text called numbers Stop operands = lines.stop_text
plain_text called numbers _ operands = []

-- it is the name of the unit that an operation calls, if it calls one
abbrev pub IsNameOfCalled : Units → Operation → List ℕ → Type 0
IsNameOfCalled program (Call u count next) called = called ≡ unit_name (unit_at program u)
IsNameOfCalled program (Create u count next) called = called ≡ unit_name (unit_at program u)
IsNameOfCalled program (Refer u count) called = called ≡ unit_name (unit_at program u)
IsNameOfCalled program _ called = Unit {0}
