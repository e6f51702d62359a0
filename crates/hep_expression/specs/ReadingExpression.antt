-- The readers of expressions, as functions on lists: one for each level of precedence, which takes the reader of the
-- next tighter level.
use Rattle.std.specs.Prelude.{ℕ, zero, suc, ◌+◌, codes, List, [], ◌∷◌, length, Option, Some, None}
use Rattle.hep_source.specs.Tree.{Tree, Trees, constant, occurrence, with_list, parenthesized, signed, negated, binary, no_trees, trees}
use Rattle.hep_source.specs.declared.name.Occurrence.{Occurrence}
use Rattle.hep_source.specs.declared.value.Value.TheVariants.{Int, Truth}
use Rattle.hep_source.specs.declared.operator.Sign.{Sign}
use Rattle.hep_source.specs.declared.operator.Sign.TheVariants.{Plus, Minus}
use Rattle.hep_source.specs.declared.operator.Operator.{Operator}
use Rattle.hep_source.specs.declared.operator.Operator.TheVariants.{Arithmetic, Relational, Logical}
use Rattle.hep_source.specs.declared.operator.ArithmeticOperator.TheVariants.{Add, Subtract, Multiply, Divide, Power}
use Rattle.hep_source.specs.declared.operator.RelationalOperator.TheVariants.{Less, LessOrEqual, Equal, NotEqual, Greater, GreaterOrEqual}
use Rattle.hep_source.specs.declared.operator.LogicalOperator.TheVariants.{And, Or, Equivalent, NotEquivalent}
use Rattle.hep_expression.specs.declared.characters.Context.{Context}
use Rattle.hep_expression.specs.declared.expression.Precedence.{Precedence}
use Rattle.hep_expression.specs.declared.expression.Precedence.TheVariants.{Equivalence, Disjunction, Conjunction, Sum, Term}
use Rattle.hep_expression.specs.Expression.{spelling, sign_spelling}
use Rattle.hep_expression.specs.Characters.{left_parenthesis, right_parenthesis, comma}
use Rattle.hep_expression.specs.Reading.{Reader, ◌>>=◌, if_some, all_read, after, after_text, one_of, occurrence_at, integer_at, logical_at}

-- ---- operators

abbrev pub operator_at : List Operator → Reader Operator
operator_at among s = one_of spelling among s

abbrev pub sign_at : Reader Sign
sign_at s = one_of sign_spelling (Plus ∷ Minus ∷ []) s

abbrev pub power_at : List ℕ → Option (List ℕ)
power_at s = after_text (spelling (Arithmetic Power)) s

abbrev pub not_at : List ℕ → Option (List ℕ)
not_at s = after_text (codes ".NOT.") s

abbrev pub comparing : List Operator
comparing = Relational Less ∷ Relational LessOrEqual ∷ Relational Equal ∷ Relational NotEqual ∷ Relational Greater ∷ Relational GreaterOrEqual ∷ []

-- the operators of a level at which they associate from left to right
abbrev pub operators : Precedence → List Operator
operators Equivalence = Logical Equivalent ∷ Logical NotEquivalent ∷ []
operators Disjunction = Logical Or ∷ []
operators Conjunction = Logical And ∷ []
operators Sum = Arithmetic Add ∷ Arithmetic Subtract ∷ []
operators Term = Arithmetic Multiply ∷ Arithmetic Divide ∷ []

-- operators and operands after a first operand, from left to right; the number bounds how many operators are read
unfoldable pub chain : List Operator → Reader Tree → ℕ → Tree → Reader Tree
chain among next zero t s = Some (t, s)
chain among next (suc n) t s = if_some (operator_at among s) (λ o. next o.1 >>= λ y. chain among next n (binary o.0 t y.0) y.1) (Some (t, s))

abbrev pub left_to_right : List Operator → Reader Tree → Reader Tree → Reader Tree
left_to_right among first next s = first s >>= λ x. chain among next (length s) x.0 x.1

-- ---- primaries and powers

unfoldable pub in_parentheses : Reader Tree → Reader Tree
in_parentheses inner s = inner s >>= λ x. after right_parenthesis x.1 >>= λ r. Some (parenthesized x.0, r)

-- expressions with commas between them and `)` after the last; the number bounds how many expressions are read
unfoldable pub arguments : Reader Tree → ℕ → Reader Trees
arguments inner zero s = None
arguments inner (suc n) s =
    inner s >>= λ x. if_some (after right_parenthesis x.1) (λ r. Some (trees x.0 no_trees, r)) (after comma x.1 >>= λ m. arguments inner n m >>= λ y. Some (trees x.0 y.0, y.1))

-- a list, which may be empty, and the `)` after it
unfoldable pub listed : Reader Tree → Reader Trees
listed inner s = if_some (after right_parenthesis s) (λ r. Some (no_trees, r)) (arguments inner (length s) s)

-- a name that was read, with a list where `(` follows it
unfoldable pub named : Reader Tree → Occurrence → Reader Tree
named inner p s = if_some (after left_parenthesis s) (λ m. listed inner m >>= λ x. Some (with_list p x.0, x.1)) (Some (occurrence p, s))

unfoldable pub primary : Context → Reader Tree → Reader Tree
primary k inner s =
    if_some (integer_at k s) (λ x. Some (constant (Int x.0), x.1))
    (if_some (logical_at s) (λ x. Some (constant (Truth x.0), x.1))
    (if_some (occurrence_at k s) (λ x. named inner x.0 x.1) (after left_parenthesis s >>= in_parentheses inner)))

unfoldable pub power_of : Reader Tree → Reader Tree → Reader Tree
power_of base next s = base s >>= λ x. if_some (power_at x.1) (λ m. next m >>= λ y. Some (binary (Arithmetic Power) x.0 y.0, y.1)) (Some x)

-- ---- the levels above

unfoldable pub term : Reader Tree → Reader Tree
term next s = left_to_right (operators Term) next next s

unfoldable pub first_term : Reader Tree → Reader Tree
first_term next s = if_some (sign_at s) (λ g. next g.1 >>= λ x. Some (signed g.0 x.0, x.1)) (next s)

unfoldable pub sum : Reader Tree → Reader Tree
sum next s = left_to_right (operators Sum) (first_term next) next s

unfoldable pub relation : Reader Tree → Reader Tree
relation next s = next s >>= λ x. if_some (operator_at comparing x.1) (λ o. next o.1 >>= λ y. Some (binary o.0 x.0 y.0, y.1)) (Some x)

unfoldable pub negation : Reader Tree → Reader Tree
negation next s = if_some (not_at s) (λ m. next m >>= λ x. Some (negated x.0, x.1)) (next s)

unfoldable pub conjunction : Reader Tree → Reader Tree
conjunction next s = left_to_right (operators Conjunction) next next s

unfoldable pub disjunction : Reader Tree → Reader Tree
disjunction next s = left_to_right (operators Disjunction) next next s

-- the operand after an operator of a level, by the reader of powers
abbrev pub next_operand : Precedence → Reader Tree → Reader Tree
next_operand Equivalence powers = disjunction (conjunction (negation (relation (sum (term powers)))))
next_operand Disjunction powers = conjunction (negation (relation (sum (term powers))))
next_operand Conjunction powers = negation (relation (sum (term powers)))
next_operand Sum powers = term powers
next_operand Term powers = powers

-- the first operand of a level: a sign may be before the first term of a sum
abbrev pub first_operand : Precedence → Reader Tree → Reader Tree
first_operand Equivalence powers = next_operand Equivalence powers
first_operand Disjunction powers = next_operand Disjunction powers
first_operand Conjunction powers = next_operand Conjunction powers
first_operand Sum powers = first_term (next_operand Sum powers)
first_operand Term powers = next_operand Term powers

-- an expression of a level
abbrev pub at_level : Precedence → Reader Tree → Reader Tree
at_level level powers s = left_to_right (operators level) (first_operand level powers) (next_operand level powers) s

-- The number bounds how deeply parentheses, lists and powers nest.
unfoldable mutual
  pub expression : Context → ℕ → Reader Tree
  expression k zero s = None
  expression k (suc n) s = at_level Equivalence (power k n) s

  pub power : Context → ℕ → Reader Tree
  power k zero s = None
  power k (suc n) s = power_of (primary k (expression k n)) (power k n) s

-- an expression and what follows it, with a bound on nesting that the length of the text never reaches
unfoldable pub expression_at : Context → Reader Tree
expression_at k s = expression k (length s + length s + 1) s

unfoldable pub whole_expression : Context → List ℕ → Option Tree
whole_expression k s = expression_at k s >>= λ x. all_read x.0 x.1
