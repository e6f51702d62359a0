-- Worked rows: which forms some texts have.
use Rattle.std.proofs.Common.{refl, sym, ◌∙◌, ℕ, Bool, true, false, codes, List, [], ◌∷◌, Some, None}
use Prim.Native.String.{String}
use Rattle.hep_source.specs.Tree.{Tree, with_list, no_trees, trees}
use Rattle.hep_source.specs.declared.declaration.Target.{Target}
use Rattle.hep_source.specs.declared.statement.PrintItem.TheVariants.{Expression, Characters}
use Rattle.hep_source.specs.declared.statement.Form.{Form}
use Rattle.hep_source.specs.declared.statement.Form.TheVariants.{Assign, GoTo, ComputedGoTo, ArithmeticIf, IfThen, ElseIf, Else, EndIf, Do, Call, Create, Purge, Print, Stop, End, Declare, Function, Resume}
use Rattle.hep_source.specs.declared.declaration.ValueType.TheVariants.{Integer, Logical}
use Rattle.hep_expression.specs.declared.characters.Sizes.TheVariants.{Fitting, Any}
use Rattle.hep_expression.specs.ReadingExpression as reading
use Rattle.hep_expression.specs.ReadingExpression.{chain, in_parentheses, primary, power_of, term, first_term, sum, relation, negation, conjunction, disjunction, expression, power, expression_at, whole_expression}
use Rattle.hep_expression.proofs.Worked.{Works, works, int, at, name}
use Rattle.hep_parse.specs.Statement.{IsForm}
use Rattle.hep_parse.specs.ReadingLists.{parts_after, closed, enclosed, optional, arguments_within, arguments}
use Rattle.hep_parse.specs.ReadingLists as lists
use Rattle.hep_parse.specs.ReadingTarget.{target_at}
use Rattle.hep_parse.specs.ReadingConstant.{characters, constant_after, item_at}
use Rattle.hep_parse.specs.ReadingStatement.{print, assignment, computed_go_to, go_to, condition_at, arithmetic_if, if_then, else_if, limits, do_loop, call, create, purge, stop, worded, logical_if, conditions, form}
use Rattle.hep_parse.specs.Declaration.{declare, declarator_at, function_header}
use Rattle.hep_parse.proofs.Forms.{form_is, form_read}
use Rattle.std.proofs.lemmas.Option.{none-some}

-- the name at the place with these subscripts
abbrev target : Bool → String → ℕ → List Tree → Target
target a w n subscripts = record { occurrence = at a w n; subscripts = subscripts }

-- 1 given to the name with these letters, after so many characters
abbrev one_to : String → ℕ → Form
one_to w n = Assign (target false w n []) (int 1)

-- each text has the conditions and the form beside it, and the other texts have none, whatever the size of their constants
forms : Works (λ (r : String × List Tree × Form). IsForm Fitting (codes r.0) r.1 r.2) (λ s. (ts : List Tree) (f : Form) → IsForm Any (codes s) ts f → ⊥) (
    -- DO, where an assignment may begin like one
    ("DO10I=1,3", [], Do (record { terminal = 10; variable = at false "I" 4; initial = int 1; limit = int 3; increment = None }))
    ∷ ("DO10,I=1,3,2", [], Do (record { terminal = 10; variable = at false "I" 5; initial = int 1; limit = int 3; increment = Some (int 2) }))
    ∷ ("DO10I=1", [], one_to "DO10I" 0)
    -- an array IF
    ∷ ("IF(3)=5", [], Assign (target false "IF" 0 (int 3 ∷ [])) (int 5))
    ∷ ("IF(IF(3))10,20,30", [], ArithmeticIf (with_list (at false "IF" 3) (trees (int 3) no_trees)) (record { negative = 10; zero = 20; positive = 30 }))
    -- PRINT and GO TO
    ∷ ("PRINT*,A", [], Print (Expression (name "A" 7) ∷ []))
    ∷ ("PRINT*", [], Print [])
    ∷ ("PRINT*,'IT''S,'", [], Print (Characters (codes "IT'S,") ∷ []))
    ∷ ("GOTO(1,2),I", [], ComputedGoTo (1 ∷ 2 ∷ []) (name "I" 10))
    ∷ ("GOTO(1,2)I", [], ComputedGoTo (1 ∷ 2 ∷ []) (name "I" 9))
    ∷ ("GOTO00010", [], GoTo 10)
    -- IF
    ∷ ("IF(A)IF(B)I=1", name "A" 3 ∷ name "B" 8 ∷ [], one_to "I" 10)
    ∷ ("IF(L)END", name "L" 3 ∷ [], End)
    ∷ ("IF(L)THEN=1", name "L" 3 ∷ [], one_to "THEN" 5)
    ∷ ("IF(L)THEN", [], IfThen (name "L" 3))
    ∷ ("ELSEIF(L)THEN", [], ElseIf (name "L" 7))
    ∷ ("ELSE", [], Else)
    ∷ ("ENDIF", [], EndIf)
    -- STOP, CALL, CREATE and PURGE
    ∷ ("STOP", [], Stop)
    ∷ ("STOP12345", [], Stop)
    ∷ ("STOP'A'", [], Stop)
    ∷ ("CALLS", [], Call (at false "S" 4) [])
    ∷ ("CALLS()", [], Call (at false "S" 4) [])
    ∷ ("CALLS(1,A(2))", [], Call (at false "S" 4) (int 1 ∷ with_list (at false "A" 8) (trees (int 2) no_trees) ∷ []))
    ∷ ("CREATEP(N)", [], Create (at false "P" 6) (name "N" 8 ∷ []))
    ∷ ("PURGE$A,B(1)", [], Purge (target true "A" 5 [] ∷ target false "B" 8 (int 1 ∷ []) ∷ []))
    -- headers of functions, and RESUME
    ∷ ("INTEGERFUNCTIONF()", [], Function (Some Integer) (at false "F" 15) [])
    ∷ ("LOGICALFUNCTIONL(I,$J)", [], Function (Some Logical) (at false "L" 15) (at false "I" 17 ∷ at true "J" 19 ∷ []))
    ∷ ("FUNCTIONN(K)", [], Function None (at false "N" 8) (at false "K" 10 ∷ []))
    ∷ ("INTEGERFUNCT", [], Declare Integer (record { occurrence = at false "FUNCT" 7; dimensions = [] } ∷ []))
    ∷ ("RESUME", [], Resume)
    ∷ ("IF(L)RESUME", name "L" 3 ∷ [], Resume)
    ∷ ("RESUME=F()", [], Assign (target false "RESUME" 0 []) (with_list (at false "F" 7) no_trees))
    ∷ ("CALLRESUME", [], Call (at false "RESUME" 4) [])
    -- words as names
    ∷ ("PRINT=1", [], one_to "PRINT" 0)
    ∷ ("IF=1", [], one_to "IF" 0)
    ∷ ("DO=1", [], one_to "DO" 0)
    ∷ ("END=1", [], one_to "END" 0)
    ∷ ("ENDIF=1", [], one_to "ENDIF" 0)
    ∷ ("RESUME=1", [], one_to "RESUME" 0)
    ∷ ("CALL=CALL", [], Assign (target false "CALL" 0 []) (name "CALL" 5))
    ∷ []) (
    -- labels of six digits and of zeros
    "INTEGERFUNCTIONF" ∷ "FUNCTIONF" ∷ "FUNCTION$F()" ∷ "FUNCTIONF(I,)" ∷ "RESUMEX" ∷ "IF(L)FUNCTIONF()" ∷ "X()=1"
    ∷ "GOTO000010" ∷ "GOTO0" ∷ "DO000010I=1,3"
    -- a comma before each item, and an item after it
    ∷ "PRINT*," ∷ "PRINT*1"
    -- two labels, or after a condition a declaration, nothing, a parenthesis left open, or a block
    ∷ "IF(I)10,20" ∷ "IF(L)INTEGERI" ∷ "IF(L)" ∷ "IF((L)END" ∷ "IF(L)IF(M)THEN="
    -- STOP with six digits or no characters, CALL of an asynchronous name or with a comma too many
    ∷ "STOP123456" ∷ "STOP''" ∷ "CALL$S" ∷ "CALLS(1,)"
    -- a real constant, names that are none, words that begin no form
    ∷ "I=1.5" ∷ "PRINT*=1" ∷ "ABCDEFG=1" ∷ "READ" ∷ "RESUMEX"
    ∷ [])
unfolding chain in_parentheses reading.arguments reading.listed reading.named primary power_of term first_term sum relation negation conjunction disjunction expression power expression_at whole_expression parts_after lists.listed closed enclosed optional arguments_within arguments lists.parenthesized function_header target_at characters constant_after item_at print assignment computed_go_to go_to condition_at arithmetic_if if_then else_if limits do_loop call create purge stop declare declarator_at worded logical_if conditions form
forms =
    works _ _ (λ r. form Fitting (codes r.0)) (λ r. Some (r.1, r.2)) (λ s. form Any (codes s))
    (λ r. form_is Fitting (codes r.0) (r.1, r.2)) (λ s e ts f h. none-some (ts, f) (sym e ∙ form_read Any (codes s) ts f h)) _ _ refl refl
