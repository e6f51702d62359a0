-- Worked code: what the definitions give for small units.
use Rattle.std.specs.Prelude.{◌≡◌, ℕ, ◌+◌, ◌*◌, pos, true, false, [], ◌∷◌, Option, Some, None, refl}
use Rattle.hep_machine.specs.Words.{Dimension, Integer, ValueOf, Name, Occurrence, Add, Multiply, Arithmetic, Form, Statement, Int, Tree, constant, occurrence, with_list, binary, no_trees, trees, Units, first_letter}
use Rattle.hep_source.specs.declared.declaration.UpperBound.TheVariants as bound
use Rattle.hep_source.specs.declared.statement.Form.TheVariants as form
use Rattle.hep_source.specs.declared.statement.PrintItem.TheVariants as item
use Rattle.hep_code.specs.declared.instruction.Argument.TheVariants.{Evaluated, Referred}
use Rattle.hep_code.specs.declared.instruction.Evaluation.TheVariants.{Load, Combine, Test}
use Rattle.hep_code.specs.declared.instruction.Instruction.TheVariants.{Push, Step, To, Pass, Show}
use Rattle.hep_code.specs.declared.instruction.Operation.TheVariants.{Evaluate, Store, Jump, Choose, Condition, Branch, EnterLoop, EndLoop, Call, Print, Return}
use Rattle.hep_code.specs.declared.instruction.Printed.TheVariants.{Operand, Characters}
use Rattle.hep_code.specs.declared.variable.Variable.{Variable}
use Rattle.hep_code.specs.declared.variable.Variable.TheVariants.{Local}
use Rattle.hep_code.specs.Words.{onward, outward, inward, aside, labelled, code_of, Addresses, addressed_unit}

-- ---- small units: a name of one letter has the letter's code as its cell, and the DO at index d has the cells 100+2*d and the next one

abbrev named : ℕ → Name
named c = record { asynchronous = false; letters = c ∷ 32 ∷ 32 ∷ 32 ∷ 32 ∷ 32 ∷ [] }

abbrev at : ℕ → Occurrence
at c = record { name = named c; position = 0 }

abbrev cell : ℕ → Variable
cell c = Local false c

abbrev name : ℕ → Tree
name c = occurrence (at c)

abbrev number : ℕ → Tree
number n = constant (Int (pos n))

abbrev assigned : ℕ → Tree → Form
assigned c t = form.Assign (record { occurrence = at c; subscripts = [] }) t

abbrev loop : ℕ → ℕ → ℕ → Form
loop terminal c limit = form.Do (record { terminal = terminal; variable = at c; initial = number 1; limit = number limit; increment = None })

abbrev statement : ℕ → Option ℕ → Form → Statement
statement line label form = record { line = line; label = label; conditions = []; form = form }

abbrev by_letter : Addresses
by_letter = record { variables = λ u x. cell (first_letter x); cells = λ u d. 100 + 2 * d }

-- ---- K=K+I*2 and END: operands from left to right, and each operator behind its two

abbrev sum : Units
sum =
    (statement 1 None (assigned 75 (binary (Arithmetic Add) (name 75) (binary (Arithmetic Multiply) (name 73) (number 2)))) ∷ statement 2 None form.End ∷ []) ∷ []

code_of_sum : code_of (addressed_unit sum by_letter 0) ≡
    Step 1 (Evaluate (Load (cell 75) 0)) ∷ Step 1 (Evaluate (Load (cell 73) 0)) ∷ Push (Int (pos 2)) ∷ Step 1 (Evaluate (Combine (Arithmetic Multiply)))
    ∷ Step 1 (Evaluate (Combine (Arithmetic Add))) ∷ Step 1 (Store (cell 75) 0 6) ∷ Step 2 Return ∷ Step 0 Return ∷ []
unfolding code_of onward outward inward aside labelled
code_of_sum = refl

-- ---- DO 10 I=1,3, 10 K=K+I and END: the end of the DO stands behind the DO, and the assignment leads there

abbrev do_of_three : Units
do_of_three =
    (statement 1 None (loop 10 73 3) ∷ statement 2 (Some 10) (assigned 75 (binary (Arithmetic Add) (name 75) (name 73))) ∷ statement 3 None form.End ∷ []) ∷ []

code_of_do : code_of (addressed_unit do_of_three by_letter 0) ≡
    Push (Int (pos 1)) ∷ Push (Int (pos 3)) ∷ Push (Int (pos 1)) ∷ Step 1 (EnterLoop (cell 73) 100 5 9) ∷ Step 2 (EndLoop (cell 73) 100 5 9)
    ∷ Step 2 (Evaluate (Load (cell 75) 0)) ∷ Step 2 (Evaluate (Load (cell 73) 0)) ∷ Step 2 (Evaluate (Combine (Arithmetic Add))) ∷ Step 2 (Store (cell 75) 0 4)
    ∷ Step 3 Return ∷ Step 0 Return ∷ []
unfolding code_of onward outward inward aside labelled
code_of_do = refl

-- ---- DO 10 I=1,2, DO 10 J=1,2, 10 CONTINUE and END: the terminal statement leads to the end of the inner DO, and that to the end of the outer one

abbrev nested : Units
nested =
    (statement 1 None (loop 10 73 2) ∷ statement 2 None (loop 10 74 2) ∷ statement 3 (Some 10) form.Continue ∷ statement 4 None form.End ∷ []) ∷ []

code_of_nested : code_of (addressed_unit nested by_letter 0) ≡
    Push (Int (pos 1)) ∷ Push (Int (pos 2)) ∷ Push (Int (pos 1)) ∷ Step 1 (EnterLoop (cell 73) 100 5 11) ∷ Step 3 (EndLoop (cell 73) 100 5 11)
    ∷ Push (Int (pos 1)) ∷ Push (Int (pos 2)) ∷ Push (Int (pos 1)) ∷ Step 2 (EnterLoop (cell 74) 102 10 4) ∷ Step 3 (EndLoop (cell 74) 102 10 4)
    ∷ Step 3 (Jump 9) ∷ Step 4 Return ∷ Step 0 Return ∷ []
unfolding code_of onward outward inward aside labelled
code_of_nested = refl

-- ---- IF(L) THEN, K=1, ELSE, K=2, END IF and END: a false condition leads behind ELSE, and the first block to END IF

abbrev block_if : Units
block_if =
    (statement 1 None (form.IfThen (name 76)) ∷ statement 2 None (assigned 75 (number 1)) ∷ statement 3 None form.Else ∷ statement 4 None (assigned 75 (number 2))
    ∷ statement 5 None form.EndIf ∷ statement 6 None form.End ∷ []) ∷ []

code_of_block_if : code_of (addressed_unit block_if by_letter 0) ≡
    Step 1 (Evaluate (Load (cell 76) 0)) ∷ Step 1 (Branch 2 5) ∷ Push (Int (pos 1)) ∷ Step 2 (Store (cell 75) 0 7) ∷ Step 3 (Jump 5)
    ∷ Push (Int (pos 2)) ∷ Step 4 (Store (cell 75) 0 7) ∷ Step 5 (Jump 8) ∷ Step 6 Return ∷ Step 0 Return ∷ []
unfolding code_of onward outward inward aside labelled
code_of_block_if = refl

-- ---- GO TO (10,20),I, K=0, 10 CONTINUE, 20 CONTINUE and END: the labels stand behind the operation

abbrev computed : Units
computed =
    (statement 1 None (form.ComputedGoTo (10 ∷ 20 ∷ []) (name 73)) ∷ statement 2 None (assigned 75 (number 0)) ∷ statement 3 (Some 10) form.Continue
    ∷ statement 4 (Some 20) form.Continue ∷ statement 5 None form.End ∷ []) ∷ []

code_of_computed : code_of (addressed_unit computed by_letter 0) ≡
    Step 1 (Evaluate (Load (cell 73) 0)) ∷ Step 1 (Choose 2 4) ∷ To 6 ∷ To 7 ∷ Push (Int (pos 0)) ∷ Step 2 (Store (cell 75) 0 6)
    ∷ Step 3 (Jump 7) ∷ Step 4 (Jump 8) ∷ Step 5 Return ∷ Step 0 Return ∷ []
unfolding code_of onward outward inward aside labelled
code_of_computed = refl

-- ---- IF(L) K=1 and END: a false condition leads to the next statement

abbrev logical_if : Units
logical_if =
    (record (statement 1 None (assigned 75 (number 1))) { conditions = name 76 ∷ [] } ∷ statement 2 None form.End ∷ []) ∷ []

code_of_logical_if : code_of (addressed_unit logical_if by_letter 0) ≡
    Step 1 (Evaluate (Load (cell 76) 0)) ∷ Step 1 (Condition 4) ∷ Push (Int (pos 1)) ∷ Step 1 (Store (cell 75) 0 4) ∷ Step 2 Return ∷ Step 0 Return ∷ []
unfolding code_of onward outward inward aside labelled
code_of_logical_if = refl

-- ---- CALL S(I,I+1), PRINT *,'A',I and END: I by itself isn't read for the CALL

abbrev call : Units
call =
    (statement 1 None (form.Call (at 83) (name 73 ∷ binary (Arithmetic Add) (name 73) (number 1) ∷ []))
    ∷ statement 2 None (form.Print (item.Characters (65 ∷ []) ∷ item.Expression (name 73) ∷ [])) ∷ statement 3 None form.End ∷ [])
    ∷ (statement 4 None (form.Subroutine (at 83) (at 74 ∷ at 75 ∷ [])) ∷ statement 5 None form.End ∷ []) ∷ []

code_of_call : code_of (addressed_unit call by_letter 0) ≡
    Step 1 (Evaluate (Load (cell 73) 0)) ∷ Push (Int (pos 1)) ∷ Step 1 (Evaluate (Combine (Arithmetic Add))) ∷ Step 1 (Call 1 2 6)
    ∷ Pass (Referred (cell 73) 0) ∷ Pass Evaluated ∷ Step 2 (Evaluate (Load (cell 73) 0)) ∷ Step 2 (Print 2 10) ∷ Show (Characters (65 ∷ [])) ∷ Show Operand
    ∷ Step 3 Return ∷ Step 0 Return ∷ []
unfolding code_of onward outward inward aside labelled
code_of_call = refl

-- ---- INTEGER M(2,2), K=M(I,2) and M(1,K)=VALUE($X): subscripts from left to right, and behind the value that is assigned

abbrev up_to : ℕ → Dimension
up_to n = record { lower = None; upper = bound.Expression (number n) }

abbrev asynchronous_x : Occurrence
asynchronous_x = record { name = record { asynchronous = true; letters = 88 ∷ 32 ∷ 32 ∷ 32 ∷ 32 ∷ 32 ∷ [] }; position = 0 }

abbrev value : Occurrence
value = record { name = record { asynchronous = false; letters = 86 ∷ 65 ∷ 76 ∷ 85 ∷ 69 ∷ 32 ∷ [] }; position = 0 }

abbrev arrays : Units
arrays =
    (statement 1 None (form.Declare Integer (record { occurrence = at 77; dimensions = up_to 2 ∷ up_to 2 ∷ [] } ∷ [])) ∷ statement 2 None (assigned 75 (with_list (at 77) (trees (name 73) (trees (number 2) no_trees))))
    ∷ statement 3 None (form.Assign (record { occurrence = at 77; subscripts = number 1 ∷ name 75 ∷ [] }) (with_list value (trees (occurrence asynchronous_x) no_trees)))
    ∷ statement 4 None form.End ∷ []) ∷ []

code_of_arrays : code_of (addressed_unit arrays by_letter 0) ≡
    Step 1 (Jump 1) ∷ Step 2 (Evaluate (Load (cell 73) 0)) ∷ Push (Int (pos 2)) ∷ Step 2 (Evaluate (Load (cell 77) 2)) ∷ Step 2 (Store (cell 75) 0 5)
    ∷ Step 3 (Evaluate (Test ValueOf (cell 88) 0)) ∷ Push (Int (pos 1)) ∷ Step 3 (Evaluate (Load (cell 75) 0)) ∷ Step 3 (Store (cell 77) 2 9)
    ∷ Step 4 Return ∷ Step 0 Return ∷ []
unfolding code_of onward outward inward aside labelled
code_of_arrays = refl
