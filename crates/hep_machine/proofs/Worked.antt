-- Worked runs: what the definitions give for small programs.
use Rattle.std.specs.Prelude.{◌≡◌, ℕ, ◌^◌, ◌-◌, pos, negsuc, true, false, List, [], ◌∷◌, None, refl, replicate}
use Rattle.hep_machine.specs.declared.event.Kind.TheVariants.{Overflow, Divide, Undefined}
use Rattle.hep_machine.specs.declared.event.Fault.{Fault}
use Rattle.hep_machine.specs.Words.{Name, Occurrence, Arithmetic, Target, Expression, Characters, Form, Assign, Print, End, Statement, Tree, constant, occurrence, parenthesized, signed, binary, Units, State, Process, step, step_result_of, run, run_from, opening, used_cells, is_made}
use Rattle.hep_source.specs.declared.operator.Sign.TheVariants as sign
use Rattle.hep_source.specs.declared.operator.ArithmeticOperator.TheVariants as operator
use Rattle.hep_machine.specs.declared.record.Item.{Item}
use Rattle.hep_machine.specs.declared.record.Item.TheVariants.{Int, Truth, Text}
use Rattle.hep_source.specs.declared.value.Value.TheVariants as value

-- ---- small programs

letter : ℕ → Name
letter c = record { asynchronous = false; letters = c ∷ 32 ∷ 32 ∷ 32 ∷ 32 ∷ 32 ∷ [] }

at : ℕ → ℕ → Occurrence
at c position = record { name = letter c; position = position }

scalar : ℕ → ℕ → Target
scalar c position = record { occurrence = at c position; subscripts = [] }

number : ℕ → Tree
number n = constant (value.Int (pos n))

statement : ℕ → Form → Statement
statement line form = record { line = line; label = None; conditions = []; form = form }

-- what a run leaves: its records, its faults, and its processes
left : State → List (List Item) × List Fault × List Process
left s = (s.records, s.faults, s.processes)

-- ---- PRINT *,'A=',1+2*3,.TRUE. and END: product, sum, PRINT, END

sum_and_product : Units
sum_and_product =
    (statement 1 (Print (Characters (65 ∷ 61 ∷ []) ∷ Expression (binary (Arithmetic operator.Add) (number 1) (binary (Arithmetic operator.Multiply) (number 2) (number 3))) ∷ Expression (constant (value.Truth true)) ∷ [])) ∷ statement 2 End ∷ []) ∷ []

four_steps : left (run sum_and_product (1 ∷ 1 ∷ 1 ∷ 1 ∷ [])) ≡ ((Text (65 ∷ 61 ∷ []) ∷ Int (pos 7) ∷ Truth true ∷ []) ∷ [], [], [] ∷ [])
unfolding left sum_and_product statement number run run_from opening step_result_of
four_steps = refl

no_fifth_step : step sum_and_product 1 (run sum_and_product (1 ∷ 1 ∷ 1 ∷ 1 ∷ [])) ≡ None
unfolding sum_and_product statement number run run_from opening step_result_of
no_fifth_step = refl

-- ---- I=3, PRINT *,I*I-1, PRINT *,J, END: seven steps, the last one a fault

undefined : Units
undefined =
    (statement 1 (Assign (scalar 73 0) (number 3)) ∷ statement 2 (Print (Expression (binary (Arithmetic operator.Subtract) (binary (Arithmetic operator.Multiply) (occurrence (at 73 7)) (occurrence (at 73 9))) (number 1)) ∷ [])) ∷ statement 3 (Print (Expression (occurrence (at 74 7)) ∷ [])) ∷ statement 4 End ∷ []) ∷ []

seven_steps : left (run undefined (replicate 7 1)) ≡ ((Int (pos 8) ∷ []) ∷ [], record { process = 1; unit = 0; line = 3; kind = Undefined } ∷ [], [] ∷ [])
unfolding left undefined statement number scalar at letter run run_from opening step_result_of
seven_steps = refl

three_cells : used_cells undefined is_made (opening undefined) ≡ 3
unfolding undefined statement number scalar at letter opening
three_cells = refl

-- ---- PRINT *,(-7)/2,2**(-3),-2**2 and END

quotients : Units
quotients =
    (statement 1 (Print (Expression (binary (Arithmetic operator.Divide) (parenthesized (signed sign.Minus (number 7))) (number 2)) ∷ Expression (binary (Arithmetic operator.Power) (number 2) (parenthesized (signed sign.Minus (number 3)))) ∷ Expression (signed sign.Minus (binary (Arithmetic operator.Power) (number 2) (number 2))) ∷ [])) ∷ statement 2 End ∷ []) ∷ []

toward_zero : left (run quotients (replicate 8 1)) ≡ ((Int (negsuc 2) ∷ Int (pos 0) ∷ Int (negsuc 3) ∷ []) ∷ [], [], [] ∷ [])
unfolding left quotients statement number run run_from opening step_result_of
toward_zero = refl

-- ---- overflow at the ends of the range, operator by operator

one_value : Tree → Units
one_value t = (statement 1 (Print (Expression t ∷ [])) ∷ statement 2 End ∷ []) ∷ []

greatest : Tree
greatest = number (2 ^ 63 - 1)

-- the least integer, as the program can write it: -9223372036854775807-1
least : Tree
least = binary (Arithmetic operator.Subtract) (signed sign.Minus greatest) (number 1)

overflow : List (List Item) × List Fault × List Process
overflow = ([], record { process = 1; unit = 0; line = 1; kind = Overflow } ∷ [], [] ∷ [])

sum_overflows : left (run (one_value (binary (Arithmetic operator.Add) greatest (number 1))) (1 ∷ [])) ≡ overflow
unfolding overflow left one_value greatest statement number run run_from opening step_result_of
sum_overflows = refl

difference_overflows : left (run (one_value (binary (Arithmetic operator.Subtract) least (number 1))) (1 ∷ 1 ∷ 1 ∷ [])) ≡ overflow
unfolding overflow left one_value least greatest statement number run run_from opening step_result_of
difference_overflows = refl

product_overflows : left (run (one_value (binary (Arithmetic operator.Multiply) greatest (number 2))) (1 ∷ [])) ≡ overflow
unfolding overflow left one_value greatest statement number run run_from opening step_result_of
product_overflows = refl

quotient_overflows : left (run (one_value (binary (Arithmetic operator.Divide) (parenthesized least) (parenthesized (signed sign.Minus (number 1))))) (1 ∷ 1 ∷ 1 ∷ 1 ∷ [])) ≡ overflow
unfolding overflow left one_value least greatest statement number run run_from opening step_result_of
quotient_overflows = refl

negative_overflows : left (run (one_value (signed sign.Minus (parenthesized least))) (1 ∷ 1 ∷ 1 ∷ [])) ≡ overflow
unfolding overflow left one_value least greatest statement number run run_from opening step_result_of
negative_overflows = refl

power_overflows : left (run (one_value (binary (Arithmetic operator.Power) (number 2) (number 63))) (1 ∷ [])) ≡ overflow
unfolding overflow left one_value statement number run run_from opening step_result_of
power_overflows = refl

least_by_power : left (run (one_value (binary (Arithmetic operator.Power) (parenthesized (signed sign.Minus (number 2))) (number 63))) (replicate 4 1)) ≡ ((Int (negsuc (2 ^ 63 - 1)) ∷ []) ∷ [], [], [] ∷ [])
unfolding left one_value statement number run run_from opening step_result_of
least_by_power = refl

zero_divided : left (run (one_value (binary (Arithmetic operator.Power) (number 0) (parenthesized (signed sign.Minus (number 1))))) (1 ∷ 1 ∷ [])) ≡ ([], record { process = 1; unit = 0; line = 1; kind = Divide } ∷ [], [] ∷ [])
unfolding left one_value statement number run run_from opening step_result_of
zero_divided = refl
