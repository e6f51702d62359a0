-- What is an expression by the grammar is read as one.
use Rattle.std.proofs.Common.{◌≡◌, ◌⊎◌, inl, inr, ℕ, zero, suc, ◌+◌, ◌-◌, ◌<◌, ◌≤◌, Bool, true, false, List, [], ◌∷◌, ◌++◌, length, Some, None, refl, sym, ap, subst, ◌∙◌, arith, nat_eq, nat_le, ◌&&◌, if◌then◌else◌, ℤ}
use Rattle.std.proofs.lemmas.Bool.Decides.{nat_tests}
use Rattle.hep_source.specs.Tree.{Tree, Trees, constant, occurrence, with_list, parenthesized, signed, negated, binary, no_trees, trees, nodes, nodes_of_all}
use Rattle.hep_source.specs.declared.value.Value.TheVariants.{Int, Truth}
use Rattle.hep_source.specs.declared.name.Occurrence.{Occurrence}
use Rattle.hep_source.specs.declared.operator.Sign.{Sign}
use Rattle.hep_source.specs.declared.operator.Sign.TheVariants.{Plus, Minus}
use Rattle.hep_source.specs.declared.operator.Operator.{Operator}
use Rattle.hep_source.specs.declared.operator.Operator.TheVariants.{Arithmetic, Relational, Logical}
use Rattle.hep_source.specs.declared.operator.ArithmeticOperator.TheVariants.{Add, Subtract, Multiply, Divide, Power}
use Rattle.hep_source.specs.declared.operator.RelationalOperator.{RelationalOperator}
use Rattle.hep_source.specs.declared.operator.RelationalOperator.TheVariants.{Less, LessOrEqual, Equal, NotEqual, Greater, GreaterOrEqual}
use Rattle.hep_source.specs.declared.operator.LogicalOperator.TheVariants.{And, Or, Equivalent, NotEquivalent}
use Rattle.hep_expression.specs.declared.characters.Sizes.{Sizes}
use Rattle.hep_expression.specs.declared.characters.Sizes.TheVariants.{Fitting, Any}
use Rattle.hep_expression.specs.declared.characters.Context.{Context}
use Rattle.hep_expression.specs.declared.expression.Precedence.{Precedence}
use Rattle.hep_expression.specs.declared.expression.Precedence.TheVariants.{Equivalence, Disjunction, Conjunction, Sum, Term}
use Rattle.hep_expression.specs.Characters.{is_digit, is_letter, is_letter_or_digit, IsName, name_sign, named, ReadsOccurrence, ReadsPlainOccurrence, IsDigits, number_of_digits, greatest, IsInteger, logical_spelling}
use Rattle.hep_expression.specs.Expression as levels
use Rattle.hep_expression.specs.Expression.{Associativity, from_left, from_right, single, associativity, level, left_level, left, right, spelling, sign_spelling, Reads, ReadsAll, IsExpression}
use Rattle.hep_expression.specs.Reading.{Reader, ◌>>=◌, if_some, begins, after, letters_at, name_at, occurrence_at, plain_occurrence_at, integer, integer_at, logical_at}
use Rattle.hep_expression.specs.ReadingExpression as reading
use Rattle.hep_expression.specs.ReadingExpression.{operator_at, sign_at, power_at, not_at, comparing, operators, chain, in_parentheses, arguments, primary, power_of, term, first_term, sum, relation, negation, conjunction, disjunction, next_operand, first_operand, at_level, expression, power, expression_at, whole_expression}
use Rattle.hep_expression.proofs.Leaves.{front_row, fits, all_fit}
use Rattle.hep_source.proofs.Tests.{number-self}
use Rattle.std.proofs.lemmas.Bool.{or_parts, and_parts, leb-true, le-leb}

-- ---- which characters a word begins with

pub above : (c d : ℕ) → d < c → nat_eq c d ≡ false
above c d h = grind (arith, nat_tests)

pub digit_from : (c : ℕ) → is_digit c ≡ true → 48 ≤ c
digit_from c h = leb-true 48 c (and_parts (nat_le 48 c) (nat_le c 57) h).0

pub letter_from : (c : ℕ) → is_letter c ≡ true → 65 ≤ c
letter_from c h = leb-true 65 c (and_parts (nat_le 65 c) (nat_le c 90) h).0

pub letter_is_no_digit : (c : ℕ) → is_letter c ≡ true → is_digit c ≡ false
letter_is_no_digit c h = let from : 65 ≤ c = letter_from c h in let over : nat_le c 57 ≡ false = grind (arith, nat_tests) in go (nat_le 48 c) over
  where
    go : (b : Bool) → nat_le c 57 ≡ false → (b && nat_le c 57) ≡ false
    go true e = e
    go false e = refl

-- a text that begins neither with a sign, nor with a star, nor with `.NOT.`
abbrev pub Opens : List ℕ → Type 0
Opens s = (sign_at s ≡ None) × (after 42 s ≡ None) × (not_at s ≡ None)

high_opens : (c : ℕ) (s : List ℕ) → 48 ≤ c → Opens (c ∷ s)
high_opens c s h = (rw (above c 43 (omega arith), above c 45 (omega arith)) refl, rw (above c 42 (omega arith)) refl, rw (above c 46 (omega arith)) refl)

digits_open : (d s r : List ℕ) → IsDigits d → s ≡ d ++ r → Opens s
digits_open [] s r h e = absurd h
digits_open (c ∷ d) s r h e = rw e (high_opens c (d ++ r) (digit_from c h.0))

name_opens : (a : Bool) (w s r : List ℕ) → IsName w → s ≡ name_sign a ++ (w ++ r) → Opens s
name_opens a [] s r h e = absurd h
name_opens true (c ∷ w) s r h e = rw e (refl, refl, refl)
name_opens false (c ∷ w) s r h e = let from : 65 ≤ c = letter_from c h.0 in rw e (high_opens c (w ++ r) (omega arith))

digits_go_on : (d s r : List ℕ) → IsDigits d → s ≡ d ++ r → after 41 s ≡ None
digits_go_on [] s r h e = absurd h
digits_go_on (c ∷ d) s r h e = let from : 48 ≤ c = digit_from c h.0 in rw (e, above c 41 (omega arith)) refl

name_goes_on : (a : Bool) (w s r : List ℕ) → IsName w → s ≡ name_sign a ++ (w ++ r) → after 41 s ≡ None
name_goes_on a [] s r h e = absurd h
name_goes_on true (c ∷ w) s r h e = rw e refl
name_goes_on false (c ∷ w) s r h e = let from : 65 ≤ c = letter_from c h.0 in rw (e, above c 41 (omega arith)) refl

logical_opens : (b : Bool) (s r : List ℕ) → s ≡ logical_spelling b ++ r → Opens s
logical_opens true s r e = rw e (refl, refl, refl)
logical_opens false s r e = rw e (refl, refl, refl)

left_is_tighter : (x : Associativity) (l : ℕ) → l ≤ left_level x l
left_is_tighter from_left l = omega arith
left_is_tighter from_right l = omega arith
left_is_tighter single l = omega arith

-- what a text begins with that is read at a level from this one on: its first primary, or a sign
module _ (Begins : List ℕ → Type 0) (loosest : ℕ) (tight : levels.relation ≤ loosest) (of_primary : (s : List ℕ) → Opens s → Begins s) (of_sign : loosest ≤ levels.sum → (g : Sign) (m : List ℕ) → Begins (sign_spelling g ++ m)) where
  tree_begins : (k : Context) (t : Tree) (l : ℕ) (s r : List ℕ) → loosest ≤ l → Reads k t l s r → Begins s
  tree_begins k (constant (Int v)) l s r le h = of_primary s (digits_open h.0 s r h.1 h.2)
  tree_begins k (constant (Truth b)) l s r le h = of_primary s (logical_opens b s r h)
  tree_begins k (occurrence p) l s r le h = of_primary s (name_opens p.name.asynchronous h.0 s r h.1 h.2)
  tree_begins k (with_list p ts) l s r le h = of_primary s (name_opens p.name.asynchronous h.1.0 s (40 ∷ h.0) h.1.1 h.1.2)
  tree_begins k (parenthesized t) l s r le h = of_primary s (rw h.1 (refl, refl, refl))
  tree_begins k (signed g t) l s r le h = subst Begins (sym h.2) (of_sign (omega (arith, h.0)) g h.1)
  tree_begins k (negated t) l s r le h = absurd (omega (arith, h.0))
  tree_begins k (binary o a b) l s r le h = tree_begins k a (left o) s (spelling o ++ h.1) (omega (arith, h.0, left_is_tighter (associativity o) (level o))) h.2

-- a term begins so
opens : (k : Context) (t : Tree) (l : ℕ) (s r : List ℕ) → levels.term ≤ l → Reads k t l s r → Opens s
opens = tree_begins Opens levels.term (omega arith) (λ s h. h) (λ le g m. absurd (omega arith))

-- a relation doesn't begin with `.NOT.`
no_not : (k : Context) (t : Tree) (l : ℕ) (s r : List ℕ) → levels.relation ≤ l → Reads k t l s r → not_at s ≡ None
no_not = tree_begins (λ s. not_at s ≡ None) levels.relation (omega arith) (λ s h. h.2) (λ le g m. elim g as (λ (x : Sign). not_at (sign_spelling x ++ m) ≡ None) [ Plus ↦ refl | Minus ↦ refl ])

-- ---- names and constants

digits_end : (r : List ℕ) → begins is_letter_or_digit r ≡ false → begins is_digit r ≡ false
digits_end [] e = refl
digits_end (c ∷ r) e = (or_parts (is_letter c) (is_digit c) e).1

pub letters_read : (a : Bool) (w r : List ℕ) → IsName w → begins is_letter_or_digit r ≡ false → letters_at a (w ++ r) ≡ Some (named a w, r)
letters_read a [] r h q = absurd h
letters_read a (c ∷ w) r h q =
    let row = front_row is_letter_or_digit w r h.1 q in
    let short : nat_le (length (c ∷ w)) 6 ≡ true = le-leb (length (c ∷ w)) 6 (omega (arith, h.2)) in
    rw (h.0, row.0, row.1, short) refl

name_read : (a : Bool) (w r : List ℕ) → IsName w → begins is_letter_or_digit r ≡ false → name_at (name_sign a ++ (w ++ r)) ≡ Some (named a w, r)
name_read a [] r h q = absurd h
name_read true (c ∷ w) r h q = letters_read true (c ∷ w) r h q
name_read false (c ∷ w) r h q =
    let from : 65 ≤ c = letter_from c h.0 in
    rw (above c 36 (omega arith)) (letters_read false (c ∷ w) r h q)

no_digits : (k : Context) (a : Bool) (w r : List ℕ) → IsName w → integer_at k (name_sign a ++ (w ++ r)) ≡ None
no_digits k a [] r h = absurd h
no_digits k true (c ∷ w) r h = refl
no_digits k false (c ∷ w) r h = rw (letter_is_no_digit c h.0) refl

-- a name is no logical constant
no_logical_value : (a : Bool) (w r : List ℕ) → IsName w → logical_at (name_sign a ++ (w ++ r)) ≡ None
no_logical_value a [] r h = absurd h
no_logical_value true (c ∷ w) r h = refl
no_logical_value false (c ∷ w) r h = let from : 65 ≤ c = letter_from c h.0 in rw (above c 46 (omega arith)) refl

pub place_read : (k : Context) (p : Occurrence) (s r : List ℕ) → ReadsOccurrence k p s r → begins is_letter_or_digit r ≡ false → occurrence_at k s ≡ Some (p, r)
place_read k p s r h q =
    let found : name_at s ≡ Some (named p.name.asynchronous h.0, r) = ap name_at h.2 ∙ name_read p.name.asynchronous h.0 r h.1 q in
    let at : k.length - length s ≡ p.position = omega (arith, h.4) in
    rw (found, at, ← h.3) refl

pub plain_place_read : (k : Context) (p : Occurrence) (s r : List ℕ) → ReadsPlainOccurrence k p s r → begins is_letter_or_digit r ≡ false → plain_occurrence_at k s ≡ Some (p, r)
plain_place_read k p s r g q =
    let h = g.1 in
    let is : s ≡ h.0 ++ r = h.2 ∙ ap (λ (a : Bool). name_sign a ++ (h.0 ++ r)) g.0 in
    let is_named : p.name ≡ named false h.0 = h.3 ∙ ap (λ (a : Bool). named a h.0) g.0 in
    let found : letters_at false s ≡ Some (named false h.0, r) = ap (letters_at false) is ∙ letters_read false h.0 r h.1 q in
    let at : k.length - length s ≡ p.position = omega (arith, h.4) in
    rw (found, at, ← is_named) refl

integer_read : (z : Sizes) (d : List ℕ) (v : ℤ) → IsInteger z d v → integer z (number_of_digits d) ≡ Some v
integer_read Fitting d v h = rw (le-leb (number_of_digits d) greatest h.0, h.1) refl
integer_read Any d v h = rw h refl

pub digits_read : (k : Context) (d r : List ℕ) (v : ℤ) → IsDigits d → IsInteger k.sizes d v → begins is_letter_or_digit r ≡ false → integer_at k (d ++ r) ≡ Some (v, r)
digits_read k [] r v h i q = absurd h
digits_read k (c ∷ d) r v h i q =
    let row = front_row is_digit d r h.1 (digits_end r q) in
    rw (h.0, row.0, row.1, integer_read k.sizes (c ∷ d) v i) refl

-- ---- what may follow an expression of a level

abbrev pub AfterPrimary : List ℕ → Type 0
AfterPrimary r = (begins is_letter_or_digit r ≡ false) × (after 40 r ≡ None)

abbrev pub AfterPower : List ℕ → Type 0
AfterPower r = AfterPrimary r × (power_at r ≡ None)

abbrev pub AfterTerm : List ℕ → Type 0
AfterTerm r = AfterPower r × (operator_at (operators Term) r ≡ None)

abbrev pub AfterSum : List ℕ → Type 0
AfterSum r = AfterTerm r × (operator_at (operators Sum) r ≡ None)

abbrev pub AfterRelation : List ℕ → Type 0
AfterRelation r = AfterSum r × (operator_at comparing r ≡ None)

abbrev pub AfterConjunction : List ℕ → Type 0
AfterConjunction r = AfterRelation r × (operator_at (operators Conjunction) r ≡ None)

abbrev pub AfterDisjunction : List ℕ → Type 0
AfterDisjunction r = AfterConjunction r × (operator_at (operators Disjunction) r ≡ None)

-- what may follow an expression
abbrev pub AfterExpression : List ℕ → Type 0
AfterExpression r = AfterDisjunction r × (operator_at (operators Equivalence) r ≡ None)

-- the end of the text, a parenthesis, a comma and a colon let any expression end
pub after_end : AfterExpression []
after_end = ((((((((refl, refl), refl), refl), refl), refl), refl), refl), refl)

pub after_parenthesis : (r : List ℕ) → AfterExpression (41 ∷ r)
after_parenthesis r = ((((((((refl, refl), refl), refl), refl), refl), refl), refl), refl)

pub after_comma : (r : List ℕ) → AfterExpression (44 ∷ r)
after_comma r = ((((((((refl, refl), refl), refl), refl), refl), refl), refl), refl)

pub after_colon : (r : List ℕ) → AfterExpression (58 ∷ r)
after_colon r = ((((((((refl, refl), refl), refl), refl), refl), refl), refl), refl)

-- ---- operators and operands from left to right

-- the number of a level, and what may follow an operand of it
abbrev number : Precedence → ℕ
number Equivalence = levels.equivalence
number Disjunction = levels.disjunction
number Conjunction = levels.conjunction
number Sum = levels.sum
number Term = levels.term

abbrev AfterOperand : Precedence → List ℕ → Type 0
AfterOperand Equivalence r = AfterDisjunction r
AfterOperand Disjunction r = AfterConjunction r
AfterOperand Conjunction r = AfterRelation r
AfterOperand Sum r = AfterTerm r
AfterOperand Term r = AfterPower r

-- how many operators of a level stand after one another at the left of a tree
abbrev spine : ℕ → Tree → ℕ
spine l (binary o a b) = if nat_eq (level o) l then suc (spine l a) else 0
spine l _ = 0

spine_le : (l : ℕ) (t : Tree) → spine l t ≤ nodes t
spine_le l (binary o a b) = go (nat_eq (level o) l) (spine_le l a)
  where
    go : (x : Bool) → spine l a ≤ nodes a → (if x then suc (spine l a) else 0) ≤ 1 + nodes a + nodes b
    go true h = omega arith
    go false h = omega arith
spine_le l _ = omega arith

abbrev links : Precedence → Reader Tree → ℕ → Reader Tree
links v p turns s = first_operand v p s >>= λ x. chain (operators v) (next_operand v p) turns x.0 x.1

-- A tree that is read at a level is what the chain of this level has made where it comes to r.
-- 2 * nodes bounds the depth.
abbrev Chained : Context → Precedence → Tree → Type 0
Chained k v t = (n : ℕ) → nodes t + nodes t ≤ n → (turns : ℕ) (s r : List ℕ) → Reads k t (number v) s r → AfterOperand v r → links v (power k n) (turns + spine (number v) t) s ≡ chain (operators v) (next_operand v (power k n)) turns t r

chain_stops : (among : List Operator) (next : Reader Tree) (turns : ℕ) (t : Tree) (r : List ℕ) → operator_at among r ≡ None → chain among next turns t r ≡ Some (t, r)
unfolding chain
chain_stops among next zero t r e = refl
chain_stops among next (suc turns) t r e = rw e refl

module _ (k : Context) (v : Precedence) where
  chained_read : (t : Tree) → Chained k v t → (n : ℕ) (s r : List ℕ) → nodes t + nodes t ≤ n → Reads k t (number v) s r → AfterOperand v r → operator_at (operators v) r ≡ None → at_level v (power k n) s ≡ Some (t, r)
  chained_read t p n s r le h f e =
      let turns : length s ≡ (length s - spine (number v) t) + spine (number v) t = omega (arith, fits k t (number v) s r h, spine_le (number v) t) in
      ap (λ (i : ℕ). links v (power k n) i s) turns ∙ p n le (length s - spine (number v) t) s r h f ∙ chain_stops (operators v) (next_operand v (power k n)) (length s - spine (number v) t) t r e

  chained_one : (t : Tree) → spine (number v) t ≡ 0 → ((n : ℕ) (s r : List ℕ) → nodes t + nodes t ≤ n → Reads k t (number v) s r → AfterOperand v r → first_operand v (power k n) s ≡ Some (t, r)) → Chained k v t
  chained_one t e p n le turns s r h f =
      let same : turns + spine (number v) t ≡ turns = omega (arith, e) in
      rw (p n s r le h f, same) refl

  chained_binary : (o : Operator) (a b : Tree) → level o ≡ number v → left o ≡ number v → ((m : List ℕ) → operator_at (operators v) (spelling o ++ m) ≡ Some (o, m)) → ((m r : List ℕ) → Reads k b (right o) m r → AfterOperand v (spelling o ++ m)) → Chained k v a → ((n : ℕ) (m r : List ℕ) → nodes b + nodes b ≤ n → Reads k b (right o) m r → AfterOperand v r → next_operand v (power k n) m ≡ Some (b, r)) → Chained k v (binary o a b)
  unfolding chain
  chained_binary o a b is_level is_left is_operator follows pa pb n le turns s r h f =
      let m = h.1 in
      let first : Reads k a (number v) s (spelling o ++ m) = subst (λ (l : ℕ). Reads k a l s (spelling o ++ m)) is_left h.2 in
      let spine_is : spine (number v) (binary o a b) ≡ suc (spine (number v) a) = rw (is_level, number-self (number v)) refl in
      let more : turns + spine (number v) (binary o a b) ≡ suc turns + spine (number v) a = omega (arith, spine_is) in
      ap (λ (i : ℕ). links v (power k n) i s) more ∙ pa n (omega arith) (suc turns) s (spelling o ++ m) first (follows m r h.3) ∙ rw (is_operator m, pb n m r (omega arith) h.3 f) refl

-- ---- what is claimed of a tree at each level, counted from the tightest

abbrev PrimaryRead : Context → Tree → Type 0
PrimaryRead k t = (n : ℕ) (s r : List ℕ) → nodes t + nodes t ≤ n + 1 → Reads k t levels.primary s r → AfterPrimary r → primary k (expression k n) s ≡ Some (t, r)

abbrev PowerRead : Context → Tree → Type 0
PowerRead k t = (n : ℕ) (s r : List ℕ) → nodes t + nodes t ≤ n → Reads k t levels.power s r → AfterPower r → power k n s ≡ Some (t, r)

abbrev RelationRead : Context → Tree → Type 0
RelationRead k t = (n : ℕ) (s r : List ℕ) → nodes t + nodes t ≤ n → Reads k t levels.relation s r → AfterRelation r → relation (sum (term (power k n))) s ≡ Some (t, r)

abbrev NegationRead : Context → Tree → Type 0
NegationRead k t = (n : ℕ) (s r : List ℕ) → nodes t + nodes t ≤ n → Reads k t levels.negation s r → AfterRelation r → negation (relation (sum (term (power k n)))) s ≡ Some (t, r)

abbrev At : Context → Tree → ℕ → Type 0
At k t zero = PrimaryRead k t
At k t (suc zero) = PowerRead k t
At k t (suc (suc zero)) = Chained k Term t
At k t (suc (suc (suc zero))) = Chained k Sum t
At k t (suc (suc (suc (suc zero)))) = RelationRead k t
At k t (suc (suc (suc (suc (suc zero))))) = NegationRead k t
At k t (suc (suc (suc (suc (suc (suc zero)))))) = Chained k Conjunction t
At k t (suc (suc (suc (suc (suc (suc (suc zero))))))) = Chained k Disjunction t
At k t (suc (suc (suc (suc (suc (suc (suc (suc zero)))))))) = Chained k Equivalence t
At k t (suc (suc (suc (suc (suc (suc (suc (suc (suc j))))))))) = Unit {0}

term_read : (k : Context) (t : Tree) → Chained k Term t → (n : ℕ) (s r : List ℕ) → nodes t + nodes t ≤ n → Reads k t levels.term s r → AfterTerm r → term (power k n) s ≡ Some (t, r)
unfolding term
term_read k t p n s r le h f = chained_read k Term t p n s r le h f.0 f.1

sum_read : (k : Context) (t : Tree) → Chained k Sum t → (n : ℕ) (s r : List ℕ) → nodes t + nodes t ≤ n → Reads k t levels.sum s r → AfterSum r → sum (term (power k n)) s ≡ Some (t, r)
unfolding sum
sum_read k t p n s r le h f = chained_read k Sum t p n s r le h f.0 f.1

conjunction_read : (k : Context) (t : Tree) → Chained k Conjunction t → (n : ℕ) (s r : List ℕ) → nodes t + nodes t ≤ n → Reads k t levels.conjunction s r → AfterConjunction r → next_operand Disjunction (power k n) s ≡ Some (t, r)
unfolding conjunction
conjunction_read k t p n s r le h f = chained_read k Conjunction t p n s r le h f.0 f.1

disjunction_read : (k : Context) (t : Tree) → Chained k Disjunction t → (n : ℕ) (s r : List ℕ) → nodes t + nodes t ≤ n → Reads k t levels.disjunction s r → AfterDisjunction r → next_operand Equivalence (power k n) s ≡ Some (t, r)
unfolding disjunction
disjunction_read k t p n s r le h f = chained_read k Disjunction t p n s r le h f.0 f.1

nodes_pos : (t : Tree) → 1 ≤ nodes t
nodes_pos (constant v) = omega arith
nodes_pos (occurrence p) = omega arith
nodes_pos (with_list p ts) = omega arith
nodes_pos (parenthesized t) = omega arith
nodes_pos (signed g t) = omega arith
nodes_pos (negated t) = omega arith
nodes_pos (binary o a b) = omega arith

-- where a tree is read at some level, it is read at each level up to top, and at no tighter one
record Tops (k : Context) (t : Tree) (top : ℕ) : Type 0 where
  up : (l m : ℕ) (s r : List ℕ) → m ≤ top → Reads k t l s r → Reads k t m s r
  never : (l : ℕ) (s r : List ℕ) → top < l → l ≤ levels.primary → Reads k t l s r → ⊥
  flat : (l : ℕ) → l < top → spine l t ≡ 0

order : (a b : ℕ) → (a < b) ⊎ ((a ≡ b) ⊎ (b < a))
order zero zero = inr (inl refl)
order zero (suc b) = inl (omega arith)
order (suc a) zero = inr (inr (omega arith))
order (suc a) (suc b) = elim (order a b) [
  | inl h ↦ inl (omega arith)
  | inr h ↦ (elim h [ inl e ↦ inr (inl (ap suc e)) | inr g ↦ inr (inr (omega arith)) ])
]

-- from a level to the next looser one
module _ (k : Context) (t : Tree) (top : ℕ) (o : Tops k t top) where
  power_of_primary : levels.primary ≤ top → PrimaryRead k t → PowerRead k t
  unfolding power power_of
  power_of_primary at p zero s r le h f = absurd (omega (arith, nodes_pos t))
  power_of_primary at p (suc n) s r le h f = rw (p n s r (omega arith) (o.up levels.power levels.primary s r at h) f.0, f.1) refl

  term_of_power : levels.power ≤ top → PowerRead k t → Chained k Term t
  term_of_power at p =
      chained_one k Term t (o.flat levels.term (omega arith)) (λ n s r le h f. p n s r le (o.up levels.term levels.power s r at h) f)

  first_term_read : levels.term ≤ top → Chained k Term t → (n : ℕ) (s r : List ℕ) → nodes t + nodes t ≤ n → Reads k t levels.sum s r → AfterTerm r → first_term (term (power k n)) s ≡ Some (t, r)
  unfolding first_term
  first_term_read at p n s r le h f =
      let h6 = o.up levels.sum levels.term s r at h in
      rw ((opens k t levels.term s r (omega arith) h6).0, term_read k t p n s r le h6 f) refl

  sum_of_term : levels.term ≤ top → Chained k Term t → Chained k Sum t
  sum_of_term at p = chained_one k Sum t (o.flat levels.sum (omega arith)) (first_term_read at p)

  relation_of_sum : levels.sum ≤ top → Chained k Sum t → RelationRead k t
  unfolding relation
  relation_of_sum at p n s r le h f = rw (sum_read k t p n s r le (o.up levels.relation levels.sum s r at h) f.0, f.1) refl

  negation_of_relation : levels.relation ≤ top → RelationRead k t → NegationRead k t
  unfolding negation
  negation_of_relation at p n s r le h f =
      let h4 = o.up levels.negation levels.relation s r at h in
      rw (no_not k t levels.relation s r (omega arith) h4, p n s r le h4 f) refl

  conjunction_of_negation : levels.negation ≤ top → NegationRead k t → Chained k Conjunction t
  conjunction_of_negation at p =
      chained_one k Conjunction t (o.flat levels.conjunction (omega arith)) (λ n s r le h f. p n s r le (o.up levels.conjunction levels.negation s r at h) f)

  disjunction_of_conjunction : levels.conjunction ≤ top → Chained k Conjunction t → Chained k Disjunction t
  disjunction_of_conjunction at p =
      chained_one k Disjunction t (o.flat levels.disjunction (omega arith)) (λ n s r le h f. conjunction_read k t p n s r le (o.up levels.disjunction levels.conjunction s r at h) f)

  equivalence_of_disjunction : levels.disjunction ≤ top → Chained k Disjunction t → Chained k Equivalence t
  equivalence_of_disjunction at p =
      chained_one k Equivalence t (o.flat levels.equivalence (omega arith)) (λ n s r le h f. disjunction_read k t p n s r le (o.up levels.equivalence levels.disjunction s r at h) f)

  step : (j : ℕ) → 8 ≤ top + j → At k t j → At k t (suc j)
  step zero at p = power_of_primary (omega arith) p
  step (suc zero) at p = term_of_power (omega arith) p
  step (suc (suc zero)) at p = sum_of_term (omega arith) p
  step (suc (suc (suc zero))) at p = relation_of_sum (omega arith) p
  step (suc (suc (suc (suc zero)))) at p = negation_of_relation (omega arith) p
  step (suc (suc (suc (suc (suc zero))))) at p = conjunction_of_negation (omega arith) p
  step (suc (suc (suc (suc (suc (suc zero)))))) at p = disjunction_of_conjunction (omega arith) p
  step (suc (suc (suc (suc (suc (suc (suc zero))))))) at p = equivalence_of_disjunction (omega arith) p
  step (suc (suc (suc (suc (suc (suc (suc (suc j)))))))) at p = tt

  unread : (j : ℕ) → top + j < 8 → At k t j
  unread zero at = λ n s r le h f. absurd (o.never levels.primary s r (omega arith) (omega arith) h)
  unread (suc zero) at = λ n s r le h f. absurd (o.never levels.power s r (omega arith) (omega arith) h)
  unread (suc (suc zero)) at = λ n le turns s r h f. absurd (o.never levels.term s r (omega arith) (omega arith) h)
  unread (suc (suc (suc zero))) at = λ n le turns s r h f. absurd (o.never levels.sum s r (omega arith) (omega arith) h)
  unread (suc (suc (suc (suc zero)))) at = λ n s r le h f. absurd (o.never levels.relation s r (omega arith) (omega arith) h)
  unread (suc (suc (suc (suc (suc zero))))) at = λ n s r le h f. absurd (o.never levels.negation s r (omega arith) (omega arith) h)
  unread (suc (suc (suc (suc (suc (suc zero)))))) at = λ n le turns s r h f. absurd (o.never levels.conjunction s r (omega arith) (omega arith) h)
  unread (suc (suc (suc (suc (suc (suc (suc zero))))))) at = λ n le turns s r h f. absurd (o.never levels.disjunction s r (omega arith) (omega arith) h)
  unread (suc (suc (suc (suc (suc (suc (suc (suc j)))))))) at = absurd (omega arith)

  -- the claim at the tree's own level gives it at each
  each : (own : ℕ) → top + own ≡ 8 → At k t own → (j : ℕ) → At k t j
  each own at p zero = elim (order own zero) [
    | inl h ↦ absurd (omega arith)
    | inr h ↦ (elim h [ inl e ↦ subst (At k t) e p | inr lt ↦ unread zero (omega arith) ])
  ]
  each own at p (suc j) = elim (order own (suc j)) [
    | inl lt ↦ step j (omega arith) (each own at p j)
    | inr h ↦ (elim h [ inl e ↦ subst (At k t) e p | inr lt ↦ unread (suc j) (omega arith) ])
  ]

-- ---- primaries

constant_read : (k : Context) (v : ℤ) → PrimaryRead k (constant (Int v))
unfolding primary
constant_read k v n s r le h f =
    let found : integer_at k s ≡ Some (v, r) = ap (integer_at k) h.2 ∙ digits_read k h.0 r v h.1 h.3 f.0 in
    rw found refl

logical_read : (k : Context) (b : Bool) → PrimaryRead k (constant (Truth b))
unfolding primary
logical_read k true n s r le h f = rw h refl
logical_read k false n s r le h f = rw h refl

-- what a name with what follows it is read as
name_then : (k : Context) (p : Occurrence) (n : ℕ) (s m : List ℕ) → ReadsOccurrence k p s m → begins is_letter_or_digit m ≡ false → primary k (expression k n) s ≡ reading.named (expression k n) p m
unfolding primary
name_then k p n s m h q =
    let none : integer_at k s ≡ None = ap (integer_at k) h.2 ∙ no_digits k p.name.asynchronous h.0 m h.1 in
    let no : logical_at s ≡ None = ap logical_at h.2 ∙ no_logical_value p.name.asynchronous h.0 m h.1 in
    rw (none, no, place_read k p s m h q) refl

name_place_read : (k : Context) (p : Occurrence) → PrimaryRead k (occurrence p)
unfolding reading.named
name_place_read k p n s r le h f = name_then k p n s r h f.0 ∙ rw f.1 refl

whole_read : (k : Context) (t : Tree) → Chained k Equivalence t → (n : ℕ) (s r : List ℕ) → nodes t + nodes t + 1 ≤ n → Reads k t levels.equivalence s r → AfterExpression r → expression k n s ≡ Some (t, r)
unfolding expression
whole_read k t p zero s r le h f = absurd (omega arith)
whole_read k t p (suc n) s r le h f = chained_read k Equivalence t p n s r (omega arith) h f.0 f.1

parenthesized_read : (k : Context) (t : Tree) → Chained k Equivalence t → PrimaryRead k (parenthesized t)
unfolding primary in_parentheses
parenthesized_read k t p n s r le h f =
    let inner : expression k n h.0 ≡ Some (t, 41 ∷ r) = whole_read k t p n h.0 (41 ∷ r) (omega arith) h.2 (after_parenthesis r) in
    ap (primary k (expression k n)) h.1 ∙ rw inner refl

-- a list that isn't empty
abbrev ArgumentsRead : Context → Trees → Type 0
ArgumentsRead k no_trees = Unit {0}
ArgumentsRead k ts = (n turns : ℕ) (s r : List ℕ) → nodes_of_all ts + nodes_of_all ts ≤ n + 1 → nodes_of_all ts ≤ turns → ReadsAll k ts s r → arguments (expression k n) turns s ≡ Some (ts, r)

last_read : (k : Context) (t : Tree) → Chained k Equivalence t → ArgumentsRead k (trees t no_trees)
unfolding arguments
last_read k t p n zero s r le at h = absurd (omega arith)
last_read k t p n (suc turns) s r le at h = rw (whole_read k t p n s (41 ∷ r) (omega arith) h (after_parenthesis r)) refl

more_read : (k : Context) (t u : Tree) (ts : Trees) → Chained k Equivalence t → ArgumentsRead k (trees u ts) → ArgumentsRead k (trees t (trees u ts))
unfolding arguments
more_read k t u ts p q n zero s r le at h = absurd (omega arith)
more_read k t u ts p q n (suc turns) s r le at h =
    rw (whole_read k t p n s (44 ∷ h.0) (omega arith) h.1 (after_comma h.0), q n turns h.0 r (omega arith) (omega arith) h.2) refl

-- no expression begins with `)`
no_end : (k : Context) (t : Tree) (l : ℕ) (s r : List ℕ) → Reads k t l s r → after 41 s ≡ None
no_end k (constant (Int v)) l s r h = digits_go_on h.0 s r h.1 h.2
no_end k (constant (Truth b)) l s r h = ap (after 41) h ∙ elim b as (λ (x : Bool). after 41 (logical_spelling x ++ r) ≡ None) [ true ↦ refl | false ↦ refl ]
no_end k (occurrence p) l s r h = name_goes_on p.name.asynchronous h.0 s r h.1 h.2
no_end k (with_list p ts) l s r h = name_goes_on p.name.asynchronous h.1.0 s (40 ∷ h.0) h.1.1 h.1.2
no_end k (parenthesized t) l s r h = ap (after 41) h.1
no_end k (signed g t) l s r h = ap (after 41) h.2 ∙ elim g as (λ (x : Sign). after 41 (sign_spelling x ++ h.1) ≡ None) [ Plus ↦ refl | Minus ↦ refl ]
no_end k (negated t) l s r h = ap (after 41) h.2
no_end k (binary o a b) l s r h = no_end k a (left o) s (spelling o ++ h.1) h.2

list_goes_on : (k : Context) (t : Tree) (ts : Trees) (s r : List ℕ) → ReadsAll k (trees t ts) s r → after 41 s ≡ None
list_goes_on k t no_trees s r h = no_end k t 0 s (41 ∷ r) h
list_goes_on k t (trees u ts) s r h = no_end k t 0 s (44 ∷ h.0) h.1

list_read : (k : Context) (ts : Trees) → ArgumentsRead k ts → (n : ℕ) (s r : List ℕ) → nodes_of_all ts + nodes_of_all ts ≤ n + 1 → ReadsAll k ts s r → reading.listed (expression k n) s ≡ Some (ts, r)
unfolding reading.listed
list_read k no_trees q n s r le h = ap (λ m. if_some (after 41 m) (λ r. Some (no_trees, r)) (arguments (expression k n) (length m) m)) h
list_read k (trees t ts) q n s r le h = rw (list_goes_on k t ts s r h) (q n (length s) s r (omega arith) (omega (arith, all_fit k (trees t ts) s r h)) h)

listed_read : (k : Context) (p : Occurrence) (ts : Trees) → ArgumentsRead k ts → PrimaryRead k (with_list p ts)
unfolding reading.named
listed_read k p ts q n s r le h f =
    let all : reading.listed (expression k n) h.0 ≡ Some (ts, r) = list_read k ts q n h.0 r (omega arith) h.2 in
    name_then k p n s (40 ∷ h.0) h.1 refl ∙ rw all refl

-- ---- signs, negations and operators

first_signed_read : (k : Context) (g : Sign) (t : Tree) → ((m : List ℕ) → sign_at (sign_spelling g ++ m) ≡ Some (g, m)) → Chained k Term t → (n : ℕ) (s r : List ℕ) → nodes (signed g t) + nodes (signed g t) ≤ n → Reads k (signed g t) levels.sum s r → AfterTerm r → first_term (term (power k n)) s ≡ Some (signed g t, r)
unfolding first_term
first_signed_read k g t is_sign p n s r le h f =
    let found : sign_at s ≡ Some (g, h.1) = ap sign_at h.2 ∙ is_sign h.1 in
    rw (found, term_read k t p n h.1 r (omega arith) h.3 f) refl

signed_read : (k : Context) (g : Sign) (t : Tree) → ((m : List ℕ) → sign_at (sign_spelling g ++ m) ≡ Some (g, m)) → Chained k Term t → Chained k Sum (signed g t)
signed_read k g t is_sign p = chained_one k Sum (signed g t) refl (first_signed_read k g t is_sign p)

negated_read : (k : Context) (t : Tree) → RelationRead k t → NegationRead k (negated t)
unfolding negation
negated_read k t p n s r le h f =
    ap (negation (relation (sum (term (power k n))))) h.2 ∙ rw (p n h.1 r (omega arith) h.3 f) refl

raised_read : (k : Context) (a b : Tree) → PrimaryRead k a → PowerRead k b → PowerRead k (binary (Arithmetic Power) a b)
unfolding power power_of
raised_read k a b pa pb zero s r le h f = absurd (omega arith)
raised_read k a b pa pb (suc n) s r le h f =
    let m = h.1 in
    let one : primary k (expression k n) s ≡ Some (a, 42 ∷ 42 ∷ m) = pa n s (42 ∷ 42 ∷ m) (omega arith) h.2 (refl, refl) in
    let two : power k n m ≡ Some (b, r) = pb n m r (omega arith) h.3 f in
    rw (one, two) refl

compared : (o : RelationalOperator) (m : List ℕ) → AfterSum (spelling (Relational o) ++ m) × (operator_at comparing (spelling (Relational o) ++ m) ≡ Some (Relational o, m))
compared Less m = (((((refl, refl), refl), refl), refl), refl)
compared LessOrEqual m = (((((refl, refl), refl), refl), refl), refl)
compared Equal m = (((((refl, refl), refl), refl), refl), refl)
compared NotEqual m = (((((refl, refl), refl), refl), refl), refl)
compared Greater m = (((((refl, refl), refl), refl), refl), refl)
compared GreaterOrEqual m = (((((refl, refl), refl), refl), refl), refl)

compared_read : (k : Context) (o : RelationalOperator) (a b : Tree) → Chained k Sum a → Chained k Sum b → RelationRead k (binary (Relational o) a b)
unfolding relation
compared_read k o a b pa pb n s r le h f =
    let m = h.1 in
    let is = compared o m in
    let one : sum (term (power k n)) s ≡ Some (a, spelling (Relational o) ++ m) = sum_read k a pa n s (spelling (Relational o) ++ m) (omega arith) h.2 is.0 in
    let two : sum (term (power k n)) m ≡ Some (b, r) = sum_read k b pb n m r (omega arith) h.3 f.0 in
    rw (one, is.1, two) refl

after_star : (m : List ℕ) → Opens m → AfterPower (42 ∷ m)
after_star m o = ((refl, refl), rw o.1 refl)

-- ---- the claim at the own level of each kind of tree

signed_tops : (k : Context) (g : Sign) (t : Tree) → Tops k (signed g t) levels.sum
signed_tops k g t = record {
  up = λ l m s r le h. (le, h.1, h.2, h.3);
  never = λ l s r lt most h. absurd (omega (arith, h.0));
  flat = λ l lt. refl;
}

negated_tops : (k : Context) (t : Tree) → Tops k (negated t) levels.negation
negated_tops k t = record {
  up = λ l m s r le h. (le, h.1, h.2, h.3);
  never = λ l s r lt most h. absurd (omega (arith, h.0));
  flat = λ l lt. refl;
}

binary_tops : (k : Context) (o : Operator) (a b : Tree) (top : ℕ) → level o ≡ top → Tops k (binary o a b) top
binary_tops k o a b top e = record {
  up = λ l m s r le h. (omega (arith, e), h.1, h.2, h.3);
  never = λ l s r lt most h. absurd (omega (arith, e, h.0));
  flat = λ l lt. (let other : nat_eq (level o) l ≡ false = rw e (above top l lt) in rw other refl);
}

-- a tree that is the same at each level
primary_each : (k : Context) (t : Tree) → ((l m : ℕ) (s r : List ℕ) → Reads k t l s r → Reads k t m s r) → ((l : ℕ) → spine l t ≡ 0) → PrimaryRead k t → (j : ℕ) → At k t j
primary_each k t same flat p j =
    each k t levels.primary (record {
      up = λ l m s r le h. same l m s r h;
      never = λ l s r lt most h. absurd (omega arith);
      flat = λ l lt. flat l;
    }) 0 refl p j

-- operators of the levels at which they go from left to right
module _ (k : Context) (a b : Tree) where
  equated_each : (o : Operator) → level o ≡ levels.equivalence → left o ≡ levels.equivalence → right o ≡ levels.disjunction → ((m : List ℕ) → AfterDisjunction (spelling o ++ m) × (operator_at (operators Equivalence) (spelling o ++ m) ≡ Some (o, m))) → Chained k Equivalence a → Chained k Disjunction b → (j : ℕ) → At k (binary o a b) j
  equated_each o is_level is_left is_right is pa pb j =
      each k (binary o a b) levels.equivalence (binary_tops k o a b levels.equivalence is_level) 8 refl
      (chained_binary k Equivalence o a b is_level is_left (λ m. (is m).1) (λ m r h. (is m).0) pa (λ n m r le h f. disjunction_read k b pb n m r le (subst (λ (l : ℕ). Reads k b l m r) is_right h) f)) j

  disjoined_each : Chained k Disjunction a → Chained k Conjunction b → (j : ℕ) → At k (binary (Logical Or) a b) j
  disjoined_each pa pb j =
      each k (binary (Logical Or) a b) levels.disjunction (binary_tops k (Logical Or) a b levels.disjunction refl) 7 refl
      (chained_binary k Disjunction (Logical Or) a b refl refl (λ m. refl) (λ m r h. ((((((refl, refl), refl), refl), refl), refl), refl)) pa (λ n m r le h f. conjunction_read k b pb n m r le h f)) j

  conjoined_each : Chained k Conjunction a → NegationRead k b → (j : ℕ) → At k (binary (Logical And) a b) j
  conjoined_each pa pb j =
      each k (binary (Logical And) a b) levels.conjunction (binary_tops k (Logical And) a b levels.conjunction refl) 6 refl
      (chained_binary k Conjunction (Logical And) a b refl refl (λ m. refl) (λ m r h. (((((refl, refl), refl), refl), refl), refl)) pa (λ n m r le h f. pb n m r le h f)) j

  compared_each : (o : RelationalOperator) → Chained k Sum a → Chained k Sum b → (j : ℕ) → At k (binary (Relational o) a b) j
  compared_each o pa pb j = each k (binary (Relational o) a b) levels.relation (binary_tops k (Relational o) a b levels.relation refl) 4 refl (compared_read k o a b pa pb) j

  added_each : (o : Operator) → level o ≡ levels.sum → left o ≡ levels.sum → right o ≡ levels.term → ((m : List ℕ) → AfterTerm (spelling o ++ m) × (operator_at (operators Sum) (spelling o ++ m) ≡ Some (o, m))) → Chained k Sum a → Chained k Term b → (j : ℕ) → At k (binary o a b) j
  added_each o is_level is_left is_right is pa pb j =
      each k (binary o a b) levels.sum (binary_tops k o a b levels.sum is_level) 3 refl
      (chained_binary k Sum o a b is_level is_left (λ m. (is m).1) (λ m r h. (is m).0) pa (λ n m r le h f. term_read k b pb n m r le (subst (λ (l : ℕ). Reads k b l m r) is_right h) f)) j

  multiplied_each : (o : Operator) → level o ≡ levels.term → left o ≡ levels.term → right o ≡ levels.power → ((m : List ℕ) → Opens m → AfterPower (spelling o ++ m)) → ((m : List ℕ) → operator_at (operators Term) (spelling o ++ m) ≡ Some (o, m)) → Chained k Term a → PowerRead k b → (j : ℕ) → At k (binary o a b) j
  multiplied_each o is_level is_left is_right follows is pa pb j =
      each k (binary o a b) levels.term (binary_tops k o a b levels.term is_level) 2 refl
      (chained_binary k Term o a b is_level is_left is (λ m r h. follows m (opens k b (right o) m r (omega (arith, is_right)) h)) pa (λ n m r le h f. pb n m r le (subst (λ (l : ℕ). Reads k b l m r) is_right h) f)) j

  raised_each : PrimaryRead k a → PowerRead k b → (j : ℕ) → At k (binary (Arithmetic Power) a b) j
  raised_each pa pb j = each k (binary (Arithmetic Power) a b) levels.power (binary_tops k (Arithmetic Power) a b levels.power refl) 1 refl (raised_read k a b pa pb) j

mutual
  pub known : (k : Context) (t : Tree) (j : ℕ) → At k t j
  known k (constant (Int v)) j = primary_each k (constant (Int v)) (λ l m s r h. h) (λ l. refl) (constant_read k v) j
  known k (constant (Truth b)) j = primary_each k (constant (Truth b)) (λ l m s r h. h) (λ l. refl) (logical_read k b) j
  known k (occurrence p) j = primary_each k (occurrence p) (λ l m s r h. h) (λ l. refl) (name_place_read k p) j
  known k (with_list p ts) j = primary_each k (with_list p ts) (λ l m s r h. h) (λ l. refl) (listed_read k p ts (all_known k ts)) j
  known k (parenthesized t) j = primary_each k (parenthesized t) (λ l m s r h. h) (λ l. refl) (parenthesized_read k t (known k t 8)) j
  known k (signed Plus t) j = each k (signed Plus t) levels.sum (signed_tops k Plus t) 3 refl (signed_read k Plus t (λ m. refl) (known k t 2)) j
  known k (signed Minus t) j = each k (signed Minus t) levels.sum (signed_tops k Minus t) 3 refl (signed_read k Minus t (λ m. refl) (known k t 2)) j
  known k (negated t) j = each k (negated t) levels.negation (negated_tops k t) 5 refl (negated_read k t (known k t 4)) j
  known k (binary (Logical Equivalent) a b) j = equated_each k a b (Logical Equivalent) refl refl refl (λ m. ((((((((refl, refl), refl), refl), refl), refl), refl), refl), refl)) (known k a 8) (known k b 7) j
  known k (binary (Logical NotEquivalent) a b) j = equated_each k a b (Logical NotEquivalent) refl refl refl (λ m. ((((((((refl, refl), refl), refl), refl), refl), refl), refl), refl)) (known k a 8) (known k b 7) j
  known k (binary (Logical Or) a b) j = disjoined_each k a b (known k a 7) (known k b 6) j
  known k (binary (Logical And) a b) j = conjoined_each k a b (known k a 6) (known k b 5) j
  known k (binary (Relational o) a b) j = compared_each k a b o (known k a 3) (known k b 3) j
  known k (binary (Arithmetic Add) a b) j = added_each k a b (Arithmetic Add) refl refl refl (λ m. ((((refl, refl), refl), refl), refl)) (known k a 3) (known k b 2) j
  known k (binary (Arithmetic Subtract) a b) j = added_each k a b (Arithmetic Subtract) refl refl refl (λ m. ((((refl, refl), refl), refl), refl)) (known k a 3) (known k b 2) j
  known k (binary (Arithmetic Multiply) a b) j = multiplied_each k a b (Arithmetic Multiply) refl refl refl after_star (λ m. refl) (known k a 2) (known k b 1) j
  known k (binary (Arithmetic Divide) a b) j = multiplied_each k a b (Arithmetic Divide) refl refl refl (λ m o. ((refl, refl), refl)) (λ m. refl) (known k a 2) (known k b 1) j
  known k (binary (Arithmetic Power) a b) j = raised_each k a b (known k a 0) (known k b 1) j

  all_known : (k : Context) (ts : Trees) → ArgumentsRead k ts
  all_known k no_trees = tt
  all_known k (trees t no_trees) = last_read k t (known k t 8)
  all_known k (trees t (trees u ts)) = more_read k t u ts (known k t 8) (all_known k (trees u ts))

pub expression_read : (k : Context) (t : Tree) (s r : List ℕ) → Reads k t levels.equivalence s r → AfterExpression r → expression_at k s ≡ Some (t, r)
unfolding expression_at
expression_read k t s r h f =
    let deep : nodes t + nodes t + 1 ≤ length s + length s + 1 = omega (arith, fits k t levels.equivalence s r h) in
    whole_read k t (known k t 8) (length s + length s + 1) s r deep h f

pub whole_expression_read : (k : Context) (t : Tree) (s : List ℕ) → IsExpression k s t → whole_expression k s ≡ Some t
unfolding whole_expression
whole_expression_read k t s h = rw (expression_read k t s [] h after_end) refl
