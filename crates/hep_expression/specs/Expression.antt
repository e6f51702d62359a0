-- The grammar of expressions: which texts read as which trees (X3.9-1978, section 6).
use Rattle.std.specs.Prelude.{◌≡◌, ℕ, suc, ◌≤◌, codes, List, [], ◌++◌}
use Rattle.hep_source.specs.Tree.{Tree, Trees, constant, occurrence, with_list, parenthesized, signed, negated, binary, no_trees, trees}
use Rattle.hep_source.specs.declared.value.Value.TheVariants.{Int, Truth}
use Rattle.hep_source.specs.declared.operator.Sign.{Sign}
use Rattle.hep_source.specs.declared.operator.Sign.TheVariants.{Plus, Minus}
use Rattle.hep_source.specs.declared.operator.Operator.{Operator}
use Rattle.hep_source.specs.declared.operator.Operator.TheVariants.{Arithmetic, Relational, Logical}
use Rattle.hep_source.specs.declared.operator.ArithmeticOperator.TheVariants.{Add, Subtract, Multiply, Divide, Power}
use Rattle.hep_source.specs.declared.operator.RelationalOperator.TheVariants.{Less, LessOrEqual, Equal, NotEqual, Greater, GreaterOrEqual}
use Rattle.hep_source.specs.declared.operator.LogicalOperator.TheVariants.{And, Or, Equivalent, NotEquivalent}
use Rattle.hep_expression.specs.declared.characters.Context.{Context}
use Rattle.hep_expression.specs.Characters.{ReadsOccurrence, IsDigits, IsInteger, logical_spelling}

-- The levels of precedence in an expression, from the loosest to the tightest (X3.9-1978, 6.5, with 6.1.2, 6.3 and
-- 6.4.2). An expression reads at the loosest level.
abbrev pub equivalence : ℕ
equivalence = 0

abbrev pub disjunction : ℕ
disjunction = 1

abbrev pub conjunction : ℕ
conjunction = 2

abbrev pub negation : ℕ
negation = 3

abbrev pub relation : ℕ
relation = 4

abbrev pub sum : ℕ
sum = 5

abbrev pub term : ℕ
term = 6

abbrev pub power : ℕ
power = 7

abbrev pub primary : ℕ
primary = 8

-- the level of an expression by its outermost operator (X3.9-1978, 6.1.2, 6.3 and 6.4.2)
abbrev pub level : Operator → ℕ
level (Arithmetic Add) = sum
level (Arithmetic Subtract) = sum
level (Arithmetic Multiply) = term
level (Arithmetic Divide) = term
level (Arithmetic Power) = power
level (Relational o) = relation
level (Logical And) = conjunction
level (Logical Or) = disjunction
level (Logical Equivalent) = equivalence
level (Logical NotEquivalent) = equivalence

-- How several operators of one level combine: from the left, from the right, or not at all, so that there is a single one.
pub data Associativity : Type 0 where
  from_left : Associativity
  from_right : Associativity
  single : Associativity

-- `**` associates from right to left (X3.9-1978, 6.1.2), a relation is no operand of a relation (6.3), and
-- all other operators associate from left to right (6.1.2 and 6.4.2).
abbrev pub associativity : Operator → Associativity
associativity (Arithmetic Power) = from_right
associativity (Arithmetic _) = from_left
associativity (Relational o) = single
associativity (Logical o) = from_left

-- the levels of the operands of an operator of level l with this associativity
abbrev pub left_level : Associativity → ℕ → ℕ
left_level from_left l = l
left_level from_right l = suc l
left_level single l = suc l

abbrev pub right_level : Associativity → ℕ → ℕ
right_level from_left l = suc l
right_level from_right l = l
right_level single l = suc l

-- the level of an operator's left operand
abbrev pub left : Operator → ℕ
left o = left_level (associativity o) (level o)

-- the level of an operator's right operand
abbrev pub right : Operator → ℕ
right o = right_level (associativity o) (level o)

-- X3.9-1978, 6.1.1, 6.3.1 and 6.4.1
abbrev pub spelling : Operator → List ℕ
spelling (Arithmetic Add) = codes "+"
spelling (Arithmetic Subtract) = codes "-"
spelling (Arithmetic Multiply) = codes "*"
spelling (Arithmetic Divide) = codes "/"
spelling (Arithmetic Power) = codes "**"
spelling (Relational Less) = codes ".LT."
spelling (Relational LessOrEqual) = codes ".LE."
spelling (Relational Equal) = codes ".EQ."
spelling (Relational NotEqual) = codes ".NE."
spelling (Relational Greater) = codes ".GT."
spelling (Relational GreaterOrEqual) = codes ".GE."
spelling (Logical And) = codes ".AND."
spelling (Logical Or) = codes ".OR."
spelling (Logical Equivalent) = codes ".EQV."
spelling (Logical NotEquivalent) = codes ".NEQV."

-- X3.9-1978, 6.1.1
abbrev pub sign_spelling : Sign → List ℕ
sign_spelling Plus = codes "+"
sign_spelling Minus = codes "-"

abbrev mutual
  -- The text s begins with this tree, read at this level, and r follows.
  pub Reads : Context → Tree → ℕ → List ℕ → List ℕ → Type 0
  Reads k (constant (Int v)) l s r = (d : List ℕ) × IsDigits d × (s ≡ d ++ r) × IsInteger k.sizes d v
  Reads k (constant (Truth b)) l s r = s ≡ logical_spelling b ++ r
  Reads k (occurrence p) l s r = ReadsOccurrence k p s r
  Reads k (with_list p ts) l s r = (m : List ℕ) × ReadsOccurrence k p s (codes "(" ++ m) × ReadsAll k ts m r
  Reads k (parenthesized t) l s r = (m : List ℕ) × (s ≡ codes "(" ++ m) × Reads k t equivalence m (codes ")" ++ r)
  -- a sign is written before the first term of a sum, and its operand is a whole term (X3.9-1978, 6.1.2)
  Reads k (signed g t) l s r = (l ≤ sum) × (m : List ℕ) × (s ≡ sign_spelling g ++ m) × Reads k t term m r
  Reads k (negated t) l s r = (l ≤ negation) × (m : List ℕ) × (s ≡ codes ".NOT." ++ m) × Reads k t relation m r
  Reads k (binary o a b) l s r = (l ≤ level o) × (m : List ℕ) × Reads k a (left o) s (spelling o ++ m) × Reads k b (right o) m r

  -- The text s begins with these expressions, with commas between them and `)` after the last, and
  -- r follows.
  pub ReadsAll : Context → Trees → List ℕ → List ℕ → Type 0
  ReadsAll k no_trees s r = s ≡ codes ")" ++ r
  ReadsAll k (trees t no_trees) s r = Reads k t equivalence s (codes ")" ++ r)
  ReadsAll k (trees t (trees u ts)) s r = (m : List ℕ) × Reads k t equivalence s (codes "," ++ m) × ReadsAll k (trees u ts) m r

-- The text s begins with this expression, and r follows.
abbrev pub ReadsExpression : Context → Tree → List ℕ → List ℕ → Type 0
ReadsExpression k t s r = Reads k t equivalence s r

-- The whole text is this expression.
abbrev pub IsExpression : Context → List ℕ → Tree → Type 0
IsExpression k s t = ReadsExpression k t s []
