-- Steps that use no storage and change none: docs/MACHINE.md, "Endings".
use Rattle.std.specs.Prelude.{ℕ, ◌-◌, Bool, true, false, if◌then◌else◌, List, ◌∷◌, drop, length, Option, Some, None, is_some, is_ok}
use Rattle.std.specs.Option.{option_map}
use Rattle.std.specs.Result.{result_ok}
use Rattle.hep_code.specs.declared.instruction.Evaluation.{Evaluation}
use Rattle.hep_code.specs.declared.instruction.Evaluation.TheVariants.{Apply, Combine, Not, Sign}
use Rattle.hep_code.specs.declared.instruction.Operation.{Operation}
use Rattle.hep_code.specs.declared.instruction.Operation.TheVariants.{Branch, BySign, Choose, Condition, Evaluate, Jump}
use Rattle.hep_code.specs.Words.{arity, first_operand, second_operand}
use Rattle.hep_machine.specs.Words.{Level, Process, Statement, State, Units, Value, integer_of, logical_of, living, unit_at, unit_of, wants}
use Rattle.hep_machine.specs.Arithmetic.{combined_value, function_value, negated_value, signed_value}
use Rattle.hep_machine.specs.Control.{label_by_sign, label_chosen, level_after_condition, level_after_statement, level_at_choice}
use Rattle.hep_machine.specs.Control.{level_at_label, level_in_block}
use Rattle.hep_machine.specs.Evaluation.{Action, Next, Redex, RedexOrReference, applying, branching, choosing, combining, continuing, does}
use Rattle.hep_machine.specs.Evaluation.{entering_block, evaluating, jumping, negating, next_of, plug_work, signing, testing_condition}

-- the value of an operator or of a function of integers, unless it is a fault
abbrev pub pure_value : Redex → Option Value
pure_value (signing s v) = result_ok (signed_value s v)
pure_value (negating v) = result_ok (negated_value v)
pure_value (combining o v w) = result_ok (combined_value o v w)
pure_value (applying f vs) = result_ok (function_value f vs)
pure_value r = None

abbrev pub level_of_sought : List Statement → Level → RedexOrReference → Option Level
level_of_sought unit level (evaluating r) = option_map (λ v. record level { work = plug_work unit level.work v }) (pure_value r)
level_of_sought unit level r = None

-- where an activation is once a GO TO, an IF or a CONTINUE has chosen which statement comes next
abbrev pub level_of_action : List Statement → Level → Action → Option Level
level_of_action unit level (jumping l) = Some (level_at_label unit level l)
level_of_action unit level (choosing labels v) = Some (level_at_choice unit level (label_chosen labels (integer_of v)))
level_of_action unit level (branching labels v) = Some (level_at_label unit level (label_by_sign labels (integer_of v)))
level_of_action unit level (testing_condition v) = Some (level_after_condition unit level (logical_of v))
level_of_action unit level (entering_block v) = Some (level_in_block unit level (logical_of v))
level_of_action unit level continuing = Some (level_after_statement unit level)
level_of_action unit level a = None

abbrev pub level_of_next : List Statement → Level → Next → Option Level
level_of_next unit level (wants r) = level_of_sought unit level r
level_of_next unit level (does a) = level_of_action unit level a

-- the stack of a process after a pure step
abbrev pub stack_in_unit : List Statement → Level × Process → Option Process
stack_in_unit unit top = option_map (λ level. level ∷ top.1) (level_of_next unit top.0 (next_of unit top.0.work))

abbrev pub stack_after_pure : Units → State → Option (Level × Process) → Option Process
stack_after_pure program s None = None
stack_after_pure program s (Some top) = stack_in_unit (unit_at program (unit_of s top.0.activation)) top

-- The next step of process q is pure: it applies an operator or a function of integers, or only chooses which statement comes next,
-- and is no fault.
abbrev pub is_pure : Units → ℕ → State → Bool
is_pure program q s = if s.halted then false else is_some (stack_after_pure program s (living s q))

-- ---- in the code

-- an evaluation with these operands is an operator or a function of integers, and no fault
abbrev pub gives_value : Evaluation → List Value → Bool
gives_value (Sign s) vs = is_ok (signed_value s (first_operand vs))
gives_value Not vs = true
gives_value (Combine o) vs = is_ok (combined_value o (first_operand vs) (second_operand vs))
gives_value (Apply f n) vs = is_ok (function_value f vs)
gives_value e vs = false

-- the step of an operation with these operands is pure; the last of them are those of an evaluation
abbrev pub is_pure_operation : Operation → List Value → Bool
is_pure_operation (Evaluate e) vs = gives_value e (drop (length vs - arity e) vs)
is_pure_operation (Jump next) vs = true
is_pure_operation (Choose count next) vs = true
is_pure_operation (BySign negative equal positive) vs = true
is_pure_operation (Condition otherwise) vs = true
is_pure_operation (Branch inside otherwise) vs = true
is_pure_operation o vs = false
