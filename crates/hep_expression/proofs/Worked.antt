-- Worked rows: what the grammar gives for some texts.
use Rattle.std.specs.List.{AllByRecursion}
use Rattle.std.proofs.Common.{sym, ◌∙◌, arith, ◌≡◌, ℕ, Bool, true, false, pos, codes, map, List, [], ◌∷◌, length, Option, Some, None, refl}
use Prim.Native.String.{String}
use Rattle.hep_source.specs.Tree.{Tree, constant, occurrence, with_list, parenthesized, signed, negated, binary, no_trees, trees}
use Rattle.hep_source.specs.declared.value.Value.TheVariants.{Int, Truth}
use Rattle.hep_source.specs.declared.name.Occurrence.{Occurrence}
use Rattle.hep_source.specs.declared.operator.Sign.TheVariants.{Plus, Minus}
use Rattle.hep_source.specs.declared.operator.Operator.TheVariants.{Arithmetic, Relational, Logical}
use Rattle.hep_source.specs.declared.operator.ArithmeticOperator.TheVariants.{Add, Subtract, Multiply, Divide, Power}
use Rattle.hep_source.specs.declared.operator.RelationalOperator.TheVariants.{Less, Equal, GreaterOrEqual}
use Rattle.hep_source.specs.declared.operator.LogicalOperator.TheVariants.{And, Or, Equivalent, NotEquivalent}
use Rattle.hep_expression.specs.declared.characters.Sizes.TheVariants.{Fitting, Any}
use Rattle.hep_expression.specs.declared.characters.Context.{Context}
use Rattle.hep_expression.specs.Characters.{named}
use Rattle.hep_expression.specs.Expression.{IsExpression}
use Rattle.hep_expression.specs.ReadingExpression as reading
use Rattle.hep_expression.specs.ReadingExpression.{chain, in_parentheses, arguments, primary, power_of, term, first_term, sum, relation, negation, conjunction, disjunction, expression, power, expression_at, whole_expression}
use Rattle.hep_expression.proofs.Sound.{is_expression}
use Rattle.hep_expression.proofs.Complete.{whole_expression_read}
use Rattle.std.proofs.lemmas.Option.{none-some}

-- what is so of each row of a table, and of each text that is read as nothing
pub record Works {A : Type 0} (Is : A → Type 0) (IsNot : String → Type 0) (rows : List A) (others : List String) : Type 0 where
  are : AllByRecursion Is rows
  are_not : AllByRecursion IsNot others

column : {A B : Type 0} (P : A → Type 0) (read expected : A → B) → ((r : A) → read r ≡ expected r → P r) → (rows : List A) → map read rows ≡ map expected rows → AllByRecursion P rows
column P read expected is [] e = tt
column P read expected is (r ∷ rows) e = (is r cc, column P read expected is rows cc)

-- from the columns of what was read and of what was expected
pub works : {A B C : Type 0} (Is : A → Type 0) (IsNot : String → Type 0) (read expected : A → B) (found : String → Option C) → ((r : A) → read r ≡ expected r → Is r)
    → ((s : String) → found s ≡ None → IsNot s) → (rows : List A) (others : List String) → map read rows ≡ map expected rows → map found others ≡ map (λ s. None) others → Works Is IsNot rows others
works Is IsNot read expected found is is_not rows others e d = record { are = column Is read expected is rows e; are_not = column IsNot found (λ s. None) is_not others d }

abbrev pub int : ℕ → Tree
int n = constant (Int (pos n))

-- the name with these letters, with `$` or without it, after so many characters
abbrev pub at : Bool → String → ℕ → Occurrence
at a w n = record { name = named a (codes w); position = n }

abbrev pub name : String → ℕ → Tree
name w n = occurrence (at false w n)

abbrev pub fitting : String → Context
fitting s = record { sizes = Fitting; length = length (codes s) }

abbrev pub any : String → Context
any s = record { sizes = Any; length = length (codes s) }

-- each text is the expression beside it, and the other texts are none, whatever the size of their constants
expressions : Works (λ (r : String × Tree). IsExpression (fitting r.0) (codes r.0) r.1) (λ s. (t : Tree) → IsExpression (any s) (codes s) t → ⊥) (
    -- arithmetic (X3.9-1978, 6.1)
    ("1+2*3", binary (Arithmetic Add) (int 1) (binary (Arithmetic Multiply) (int 2) (int 3)))  -- product first
    ∷ ("-A**2", signed Minus (binary (Arithmetic Power) (name "A" 1) (int 2)))  -- power before sign
    ∷ ("2**3**2", binary (Arithmetic Power) (int 2) (binary (Arithmetic Power) (int 3) (int 2)))  -- power from the right
    ∷ ("8-4-2", binary (Arithmetic Subtract) (binary (Arithmetic Subtract) (int 8) (int 4)) (int 2))  -- from the left
    ∷ ("-A*B", signed Minus (binary (Arithmetic Multiply) (name "A" 1) (name "B" 3)))  -- sign of a product
    ∷ ("+A+B", binary (Arithmetic Add) (signed Plus (name "A" 1)) (name "B" 3))  -- sign of the first term
    ∷ ("(-7)/2", binary (Arithmetic Divide) (parenthesized (signed Minus (int 7))) (int 2))
    ∷ ("$A+$B(I)", binary (Arithmetic Add) (occurrence (at true "A" 0)) (with_list (at true "B" 3) (trees (name "I" 6) no_trees)))
    -- names with a list (5.4.1, 15.2)
    ∷ ("X(1,(2))", with_list (at false "X" 0) (trees (int 1) (trees (parenthesized (int 2)) no_trees)))
    ∷ ("X(A(1),-2)", with_list (at false "X" 0) (trees (with_list (at false "A" 2) (trees (int 1) no_trees)) (trees (signed Minus (int 2)) no_trees)))
    ∷ ("X(A.EQV.B)", with_list (at false "X" 0) (trees (binary (Logical Equivalent) (name "A" 2) (name "B" 8)) no_trees))
    ∷ ("X(1)**2", binary (Arithmetic Power) (with_list (at false "X" 0) (trees (int 1) no_trees)) (int 2))
    ∷ ("X()", with_list (at false "X" 0) no_trees)
    ∷ ("X(Y())-1", binary (Arithmetic Subtract) (with_list (at false "X" 0) (trees (with_list (at false "Y" 2) no_trees) no_trees)) (int 1))
    -- relations (6.3)
    ∷ ("1.EQ.2", binary (Relational Equal) (int 1) (int 2))
    ∷ ("A.EQ.-B", binary (Relational Equal) (name "A" 0) (signed Minus (name "B" 6)))
    ∷ ("A+1.GE.B", binary (Relational GreaterOrEqual) (binary (Arithmetic Add) (name "A" 0) (int 1)) (name "B" 7))
    ∷ ("(A.LT.B).EQ.C", binary (Relational Equal) (parenthesized (binary (Relational Less) (name "A" 1) (name "B" 6))) (name "C" 12))
    -- logical operators (6.4)
    ∷ (".TRUE..AND.X", binary (Logical And) (constant (Truth true)) (name "X" 11))
    ∷ (".NOT..FALSE.", negated (constant (Truth false)))
    ∷ (".NOT.-A.LT.B", negated (binary (Relational Less) (signed Minus (name "A" 6)) (name "B" 11)))  -- negation of a relation
    ∷ ("A.AND..NOT.B", binary (Logical And) (name "A" 0) (negated (name "B" 11)))
    ∷ (".NOT.A.AND.B", binary (Logical And) (negated (name "A" 5)) (name "B" 11))  -- negation before a conjunction
    ∷ (".NOT.(.NOT.A)", negated (parenthesized (negated (name "A" 11))))
    ∷ ("A.AND.-I.LT.J", binary (Logical And) (name "A" 0) (binary (Relational Less) (signed Minus (name "I" 7)) (name "J" 12)))
    ∷ ("A.OR.B.AND.C", binary (Logical Or) (name "A" 0) (binary (Logical And) (name "B" 5) (name "C" 11)))  -- conjunction first
    ∷ ("A.AND.B.OR.C", binary (Logical Or) (binary (Logical And) (name "A" 0) (name "B" 6)) (name "C" 11))
    ∷ ("A.EQV.B.NEQV.C", binary (Logical NotEquivalent) (binary (Logical Equivalent) (name "A" 0) (name "B" 6)) (name "C" 13))  -- from the left
    ∷ ("A.EQV.B.OR.C", binary (Logical Equivalent) (name "A" 0) (binary (Logical Or) (name "B" 6) (name "C" 11)))  -- equivalence last
    -- names and constants (2.2, 4.3.1)
    ∷ ("ABCDEF", name "ABCDEF" 0)
    ∷ ("9223372036854775807", int 9223372036854775807)
    ∷ ("00000000000000000000001", int 1)
    ∷ []) (
    -- a sign only before the first term, and one alone
    "A**-B" ∷ "A*-B" ∷ "A+-B" ∷ "--A"
    -- something in the parentheses of each kind, and as many `)` as `(`
    ∷ "$(A)" ∷ "((1)" ∷ "1)" ∷ "()" ∷ ""
    -- one list, with commas between its parts, and only after a name
    ∷ "X(1,)" ∷ "X(,1)" ∷ "X(1" ∷ "X(1)(2)" ∷ "1(2)"
    -- one relation, between sums
    ∷ "A.LT.B.LT.C" ∷ "A.EQ..NOT.B" ∷ "A.LT." ∷ "A.LS.B"
    -- one `.NOT.`, before a relation, with its own dots
    ∷ ".NOT..NOT.A" ∷ "-.NOT.A" ∷ ".NOT." ∷ ".TRUE.AND.X"
    -- six letters and digits, the first a letter, after one `$`
    ∷ "ABCDEFG" ∷ "1A" ∷ "$$A"
    ∷ [])
unfolding chain in_parentheses arguments reading.listed reading.named primary power_of term first_term sum relation negation conjunction disjunction expression power expression_at whole_expression
expressions =
    works _ _ (λ r. whole_expression (fitting r.0) (codes r.0)) (λ r. Some r.1) (λ s. whole_expression (any s) (codes s))
    (λ r. is_expression (fitting r.0) (codes r.0) r.1 (omega arith)) (λ s e t h. none-some t (sym e ∙ whole_expression_read (any s) t (codes s) h)) _ _ refl refl
