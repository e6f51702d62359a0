-- Worked counts: how many names, constants, labels, operators and statements small programs have.
use Rattle.std.specs.Prelude.{◌≡◌, ℕ, pos, false, codes, List, [], ◌∷◌, Option, Some, None, refl}
use Rattle.hep_source.specs.declared.declaration.DataConstant.TheVariants as data_constant
use Rattle.hep_machine.specs.Words.{DataValue, Declarator, Integer, Occurrence, Multiply, Arithmetic, Minus, Form, Statement, Int, Tree, constant, occurrence, with_list, parenthesized, signed, binary, no_trees, trees}
use Rattle.hep_source.specs.declared.declaration.Repeat.TheVariants as repeat
use Rattle.hep_source.specs.declared.declaration.UpperBound.TheVariants as bound
use Rattle.hep_source.specs.declared.statement.Form.TheVariants as form
use Rattle.hep_source.specs.declared.statement.PrintItem.TheVariants as item
use Rattle.hep_code.specs.Words.{code_of}
use Rattle.hep_lower.specs.PartCounts.{names_and_constants, parts_of}
use Rattle.hep_lower.specs.Refusals.{instructions_in}

-- ---- names of one letter, by its code

abbrev at : ℕ → Occurrence
at c = record { name = record { asynchronous = false; letters = c ∷ 32 ∷ 32 ∷ 32 ∷ 32 ∷ 32 ∷ [] }; position = 0 }

abbrev name : ℕ → Tree
name c = occurrence (at c)

abbrev number : ℕ → Tree
number n = constant (Int (pos n))

abbrev statement : Option ℕ → List Tree → Form → Statement
statement label conditions form = record { line = 1; label = label; conditions = conditions; form = form }

-- ---- a main program, with how many parts each statement has

abbrev product : Tree
product = binary (Arithmetic Multiply) (with_list (at 65) (trees (name 73) no_trees)) (parenthesized (signed Minus (number 2)))

-- 10 PRINT *,A(I)*(-2),'N': a statement, a label, the names A and I, the constants 2 and 'N', and two operators
abbrev print : Statement
print = statement (Some 10) [] (form.Print (item.Expression product ∷ item.Characters (codes "N") ∷ []))

-- PROGRAM P: 2. DO 10 I=1,3: 5. PRINT: 8. IF(L) GO TO 20: 3. 20 CALL S(K,1): 5. END: 1
abbrev main : List Statement
main =
    statement None [] (form.Program (at 80))
    ∷ statement None [] (form.Do (record { terminal = 10; variable = at 73; initial = number 1; limit = number 3; increment = None }))
    ∷ print
    ∷ statement None (name 76 ∷ []) (form.GoTo 20)
    ∷ statement (Some 20) [] (form.Call (at 83) (name 75 ∷ number 1 ∷ []))
    ∷ statement None [] form.End ∷ []

main_program : parts_of (main ∷ []) ≡ 24
main_program = refl

names_and_constants_of_print : names_and_constants print ≡ 4
names_and_constants_of_print = refl

-- ---- declarations

abbrev array : Declarator
array = record { occurrence = at 65; dimensions = record { lower = None; upper = bound.Expression (number 3) } ∷ [] }

abbrev scalar : Declarator
scalar = record { occurrence = at 88; dimensions = [] }

abbrev zeros : DataValue
zeros = record { repeat = Some (repeat.Count (pos 2)); constant = data_constant.Value (Int (pos 0)) }

-- INTEGER A(3): 3. COMMON /B/ X: 3. PARAMETER (N=4): 3. DATA K/2*0/: 4
abbrev declarations : List Statement
declarations =
    statement None [] (form.Declare Integer (array ∷ []))
    ∷ statement None [] (form.Common (record { block = Some (at 66); entries = scalar ∷ [] } ∷ []))
    ∷ statement None [] (form.Parameter (record { occurrence = at 78; value = number 4 } ∷ []))
    ∷ statement None [] (form.Data (record { targets = record { occurrence = at 75; subscripts = [] } ∷ []; values = zeros ∷ [] } ∷ []))
    ∷ []

main_program_and_declarations : parts_of (main ∷ declarations ∷ []) ≡ 37
main_program_and_declarations = refl

-- ---- a unit without a statement, as none is that was read from a text, counts as its END, for which it has code

no_statements : parts_of ([] ∷ []) ≡ 1
no_statements = refl

code_of_no_statements : instructions_in ([] ∷ []) 1 ≡ 1
unfolding code_of
code_of_no_statements = refl
