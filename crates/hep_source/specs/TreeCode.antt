-- A code of trees as trees of numbers, and the proof that decoding gives the tree back. Contracts store values by such a code
-- (docs/ARCHITECTURE.md, "Forms").
use Rattle.std.specs.Prelude.{ℕ, zero, suc, ◌≡◌, ℤ, pos, negsuc, Bool, true, false, List, [], ◌∷◌, refl}
use Rattle.std.proofs.Common.{ap}
use Rattle.std.specs.Coded.{Coded, code_by}
use base.Stored.{Gv, gnil, gnum, gcons, num}
use denote.Struct.Codes.{itself}
use Rattle.hep_source.specs.declared.value.Value.{Value}
use Rattle.hep_source.specs.declared.value.Value.TheVariants.{Int, Truth}
use Rattle.hep_source.specs.declared.name.Occurrence.{Occurrence}
use Rattle.hep_source.specs.declared.operator.Sign.{Sign}
use Rattle.hep_source.specs.declared.operator.Sign.TheVariants.{Plus, Minus}
use Rattle.hep_source.specs.declared.operator.ArithmeticOperator.{ArithmeticOperator}
use Rattle.hep_source.specs.declared.operator.ArithmeticOperator.TheVariants.{Add, Subtract, Multiply, Divide, Power}
use Rattle.hep_source.specs.declared.operator.RelationalOperator.{RelationalOperator}
use Rattle.hep_source.specs.declared.operator.RelationalOperator.TheVariants.{Less, LessOrEqual, Equal, NotEqual, Greater, GreaterOrEqual}
use Rattle.hep_source.specs.declared.operator.LogicalOperator.{LogicalOperator}
use Rattle.hep_source.specs.declared.operator.LogicalOperator.TheVariants.{And, Or, Equivalent, NotEquivalent}
use Rattle.hep_source.specs.declared.operator.Operator.{Operator}
use Rattle.hep_source.specs.declared.operator.Operator.TheVariants.{Arithmetic, Relational, Logical}
use Rattle.hep_source.specs.Tree.{Tree, Trees, constant, occurrence, with_list, parenthesized, signed, negated, binary, no_trees, trees}

-- ---- pairs

abbrev first : Gv → Gv
first gnil = gnil
first (gnum n) = gnil
first (gcons a b) = a

abbrev second : Gv → Gv
second gnil = gnil
second (gnum n) = gnil
second (gcons a b) = b

-- ---- characters and Booleans

abbrev characters : List ℕ → Gv
characters [] = gnil
characters (c ∷ cs) = gcons (gnum c) (characters cs)

abbrev characters_back : Gv → List ℕ
characters_back gnil = []
characters_back (gnum n) = []
characters_back (gcons c cs) = num c ∷ characters_back cs

characters_back-characters : (cs : List ℕ) → characters_back (characters cs) ≡ cs
characters_back-characters [] = refl
characters_back-characters (c ∷ cs) = ap (λ (l : List ℕ). c ∷ l) (characters_back-characters cs)

abbrev bool_code : Bool → ℕ
bool_code false = 0
bool_code true = 1

abbrev bool_back : ℕ → Bool
bool_back zero = false
bool_back (suc n) = true

bool_back-bool_code : (b : Bool) → bool_back (bool_code b) ≡ b
bool_back-bool_code false = refl
bool_back-bool_code true = refl

-- ---- values

abbrev integer : ℤ → Gv
integer (pos n) = gcons (gnum 0) (gnum n)
integer (negsuc n) = gcons (gnum 1) (gnum n)

abbrev by_sign : ℕ → ℕ → ℤ
by_sign zero n = pos n
by_sign (suc k) n = negsuc n

abbrev integer_back : Gv → ℤ
integer_back g = by_sign (num (first g)) (num (second g))

integer_back-integer : (z : ℤ) → integer_back (integer z) ≡ z
integer_back-integer (pos n) = refl
integer_back-integer (negsuc n) = refl

abbrev value : Value → Gv
value (Int z) = gcons (gnum 0) (integer z)
value (Truth b) = gcons (gnum 1) (gnum (bool_code b))

abbrev value_of_kind : ℕ → Gv → Value
value_of_kind zero g = Int (integer_back g)
value_of_kind (suc n) g = Truth (bool_back (num g))

abbrev value_back : Gv → Value
value_back g = value_of_kind (num (first g)) (second g)

value_back-value : (v : Value) → value_back (value v) ≡ v
value_back-value (Int z) = ap Int (integer_back-integer z)
value_back-value (Truth b) = ap Truth (bool_back-bool_code b)

-- ---- occurrences

abbrev occurrence_code : Occurrence → Gv
occurrence_code p = gcons (gnum p.position) (gcons (gnum (bool_code p.name.asynchronous)) (characters p.name.letters))

abbrev occurrence_back : Gv → Occurrence
occurrence_back g = record {
  name = record { asynchronous = bool_back (num (first (second g))); letters = characters_back (second (second g)) };
  position = num (first g);
}

place_back-occurrence_code : (p : Occurrence) → occurrence_back (occurrence_code p) ≡ p
place_back-occurrence_code p = λ i. record {
  name = record { asynchronous = bool_back-bool_code p.name.asynchronous i; letters = characters_back-characters p.name.letters i };
  position = p.position;
}

-- ---- operators

abbrev sign : Sign → ℕ
sign Plus = 0
sign Minus = 1

abbrev sign_back : ℕ → Sign
sign_back zero = Plus
sign_back (suc n) = Minus

sign_back-sign : (s : Sign) → sign_back (sign s) ≡ s
sign_back-sign Plus = refl
sign_back-sign Minus = refl

abbrev arithmetic : ArithmeticOperator → ℕ
arithmetic Add = 0
arithmetic Subtract = 1
arithmetic Multiply = 2
arithmetic Divide = 3
arithmetic Power = 4

abbrev arithmetic_back : ℕ → ArithmeticOperator
arithmetic_back zero = Add
arithmetic_back (suc zero) = Subtract
arithmetic_back (suc (suc zero)) = Multiply
arithmetic_back (suc (suc (suc zero))) = Divide
arithmetic_back (suc (suc (suc (suc n)))) = Power

arithmetic_back-arithmetic : (o : ArithmeticOperator) → arithmetic_back (arithmetic o) ≡ o
arithmetic_back-arithmetic Add = refl
arithmetic_back-arithmetic Subtract = refl
arithmetic_back-arithmetic Multiply = refl
arithmetic_back-arithmetic Divide = refl
arithmetic_back-arithmetic Power = refl

abbrev relational : RelationalOperator → ℕ
relational Less = 0
relational LessOrEqual = 1
relational Equal = 2
relational NotEqual = 3
relational Greater = 4
relational GreaterOrEqual = 5

abbrev relational_back : ℕ → RelationalOperator
relational_back zero = Less
relational_back (suc zero) = LessOrEqual
relational_back (suc (suc zero)) = Equal
relational_back (suc (suc (suc zero))) = NotEqual
relational_back (suc (suc (suc (suc zero)))) = Greater
relational_back (suc (suc (suc (suc (suc n))))) = GreaterOrEqual

relational_back-relational : (o : RelationalOperator) → relational_back (relational o) ≡ o
relational_back-relational Less = refl
relational_back-relational LessOrEqual = refl
relational_back-relational Equal = refl
relational_back-relational NotEqual = refl
relational_back-relational Greater = refl
relational_back-relational GreaterOrEqual = refl

abbrev logical : LogicalOperator → ℕ
logical And = 0
logical Or = 1
logical Equivalent = 2
logical NotEquivalent = 3

abbrev logical_back : ℕ → LogicalOperator
logical_back zero = And
logical_back (suc zero) = Or
logical_back (suc (suc zero)) = Equivalent
logical_back (suc (suc (suc n))) = NotEquivalent

logical_back-logical : (o : LogicalOperator) → logical_back (logical o) ≡ o
logical_back-logical And = refl
logical_back-logical Or = refl
logical_back-logical Equivalent = refl
logical_back-logical NotEquivalent = refl

abbrev operator : Operator → Gv
operator (Arithmetic o) = gcons (gnum 0) (gnum (arithmetic o))
operator (Relational o) = gcons (gnum 1) (gnum (relational o))
operator (Logical o) = gcons (gnum 2) (gnum (logical o))

abbrev operator_of_kind : ℕ → ℕ → Operator
operator_of_kind zero n = Arithmetic (arithmetic_back n)
operator_of_kind (suc zero) n = Relational (relational_back n)
operator_of_kind (suc (suc k)) n = Logical (logical_back n)

abbrev operator_back : Gv → Operator
operator_back g = operator_of_kind (num (first g)) (num (second g))

operator_back-operator : (o : Operator) → operator_back (operator o) ≡ o
operator_back-operator (Arithmetic o) = ap Arithmetic (arithmetic_back-arithmetic o)
operator_back-operator (Relational o) = ap Relational (relational_back-relational o)
operator_back-operator (Logical o) = ap Logical (logical_back-logical o)

-- ---- trees

abbrev mutual
  code : Tree → Gv
  code (constant v) = gcons (gnum 0) (value v)
  code (occurrence p) = gcons (gnum 1) (occurrence_code p)
  code (with_list p ts) = gcons (gnum 2) (gcons (occurrence_code p) (codes ts))
  code (parenthesized t) = gcons (gnum 3) (code t)
  code (signed s t) = gcons (gnum 4) (gcons (gnum (sign s)) (code t))
  code (negated t) = gcons (gnum 5) (code t)
  code (binary o a b) = gcons (gnum 6) (gcons (operator o) (gcons (code a) (code b)))

  codes : Trees → Gv
  codes no_trees = gnil
  codes (trees t ts) = gcons (code t) (codes ts)

abbrev mutual
  back : Gv → Tree
  back (gcons (gnum zero) g) = constant (value_back g)
  back (gcons (gnum (suc zero)) g) = occurrence (occurrence_back g)
  back (gcons (gnum (suc (suc zero))) (gcons p g)) = with_list (occurrence_back p) (all_back g)
  back (gcons (gnum (suc (suc (suc zero)))) g) = parenthesized (back g)
  back (gcons (gnum (suc (suc (suc (suc zero))))) (gcons s g)) = signed (sign_back (num s)) (back g)
  back (gcons (gnum (suc (suc (suc (suc (suc zero)))))) g) = negated (back g)
  back (gcons (gnum (suc (suc (suc (suc (suc (suc n))))))) (gcons o (gcons a b))) = binary (operator_back o) (back a) (back b)
  back _ = constant (Truth false)

  all_back : Gv → Trees
  all_back (gcons a b) = trees (back a) (all_back b)
  all_back _ = no_trees

mutual
  pub back-code : (t : Tree) → back (code t) ≡ t
  back-code (constant v) = ap constant (value_back-value v)
  back-code (occurrence p) = ap occurrence (place_back-occurrence_code p)
  back-code (with_list p ts) = λ i. with_list (place_back-occurrence_code p i) (all_back-codes ts i)
  back-code (parenthesized t) = ap parenthesized (back-code t)
  back-code (signed s t) = λ i. signed (sign_back-sign s i) (back-code t i)
  back-code (negated t) = ap negated (back-code t)
  back-code (binary o a b) = λ i. binary (operator_back-operator o i) (back-code a i) (back-code b i)

  all_back-codes : (ts : Trees) → all_back (codes ts) ≡ ts
  all_back-codes no_trees = refl
  all_back-codes (trees t ts) = λ i. trees (back-code t i) (all_back-codes ts i)

abbrev pub tree_code : Coded Tree
tree_code = code_by Gv itself code back back-code
