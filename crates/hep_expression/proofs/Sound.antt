-- What is read as an expression is one by the grammar.
use Rattle.std.proofs.Common.{◌≡◌, inl, inr, ℕ, zero, suc, ◌+◌, ◌≤◌, List, [], ◌∷◌, ◌++◌, length, Option, Some, refl, sym, ap, subst, arith, codes}
use Rattle.hep_source.specs.Tree.{Tree, Trees, constant, occurrence, with_list, parenthesized, signed, negated, binary, no_trees, trees}
use Rattle.hep_source.specs.declared.value.Value.TheVariants.{Int, Truth}
use Rattle.hep_source.specs.declared.operator.Sign.{Sign}
use Rattle.hep_source.specs.declared.operator.Sign.TheVariants.{Plus, Minus}
use Rattle.hep_source.specs.declared.operator.Operator.{Operator}
use Rattle.hep_source.specs.declared.operator.Operator.TheVariants.{Arithmetic}
use Rattle.hep_source.specs.declared.operator.ArithmeticOperator.TheVariants.{Power}
use Rattle.hep_source.specs.declared.name.Occurrence.{Occurrence}
use Rattle.hep_expression.specs.declared.characters.Context.{Context}
use Rattle.hep_expression.specs.Characters.{ReadsOccurrence}
use Rattle.hep_expression.specs.declared.expression.Precedence.TheVariants.{Equivalence, Disjunction, Conjunction, Sum, Term}
use Rattle.hep_expression.specs.Expression as levels
use Rattle.hep_expression.specs.Expression.{level, left, right, spelling, sign_spelling, Reads, ReadsAll, IsExpression}
use Rattle.hep_expression.specs.Reading.{Reader, ◌>>=◌, if_some, all_read, after, occurrence_at, integer_at, logical_at}
use Rattle.hep_expression.specs.ReadingExpression.{operator_at, sign_at, power_at, not_at, comparing, operators, chain, left_to_right, in_parentheses, arguments, listed, named, primary, power_of, term, first_term, sum, relation, negation, conjunction, disjunction, expression, power, expression_at, whole_expression}
use Rattle.hep_expression.proofs.Leaves.{bind_some, either_some, after_is, text_is, AllOf, one_is, shorter, is_place, is_constant, is_logical, place_fits, fits}
use Rattle.std.proofs.lemmas.Option.{same_Some, none-some}

-- what is read at a level is read at each looser one
pub looser : (k : Context) (t : Tree) (l m : ℕ) (s r : List ℕ) → l ≤ m → Reads k t m s r → Reads k t l s r
looser k (constant (Int v)) l m s r le h = h
looser k (constant (Truth b)) l m s r le h = h
looser k (occurrence p) l m s r le h = h
looser k (with_list p ts) l m s r le h = h
looser k (parenthesized t) l m s r le h = h
looser k (signed g t) l m s r le h = (omega (arith, h.0), h.1, h.2, h.3)
looser k (negated t) l m s r le h = (omega (arith, h.0), h.1, h.2, h.3)
looser k (binary o a b) l m s r le h = (omega (arith, h.0), h.1, h.2, h.3)

-- what a reader reads of the rest of a statement's text
abbrev pub Sound : Context → ℕ → Reader Tree → Type 0
Sound k l read = (s r : List ℕ) (t : Tree) → length s ≤ k.length → read s ≡ Some (t, r) → Reads k t l s r

loosened : (k : Context) (l m : ℕ) (read : Reader Tree) → l ≤ m → Sound k m read → Sound k l read
loosened k l m read le p s r t fit e = looser k t l m s r le (p s r t fit e)

-- the operators of a level whose operands go from left to right
abbrev GoRight : ℕ → Operator → Type 0
GoRight l o = (level o ≡ l) × (left o ≡ l) × (right o ≡ suc l)

chain_sound : (k : Context) (l : ℕ) (among : List Operator) → AllOf (GoRight l) among → (next : Reader Tree) → Sound k (suc l) next → (n : ℕ) (t u : Tree) (s m r : List ℕ) → length s ≤ k.length → Reads k t l s m → chain among next n t m ≡ Some (u, r) → Reads k u l s r
unfolding chain
chain_sound k l among ops next p zero t u s m r fit h e = subst (λ (x : Tree × List ℕ). Reads k x.0 l s x.1) (same_Some (t, m) (u, r) e) h
chain_sound k l among ops next p (suc n) t u s m r fit h e =
    elim (either_some (operator_at among m) (λ o. next o.1 >>= λ y. chain among next n (binary o.0 t y.0) y.1) (Some (t, m)) (u, r) e) [
      | inl g ↦ (
          let o = g.0 in
          let w = one_is spelling (GoRight l) among ops m o g.1 in
          let b = bind_some (next o.1) (λ y. chain among next n (binary o.0 t y.0) y.1) (u, r) g.2 in
          let fit' : length o.1 ≤ k.length = omega (arith, shorter (spelling o.0) o.1 m w.0, fits k t l s m h) in
          let one : Reads k t (left o.0) s (spelling o.0 ++ o.1) = rw (w.1.1, ← w.0) h in
          let two : Reads k b.0.0 (right o.0) o.1 b.0.1 = rw w.1.2 (p o.1 b.0.1 b.0.0 fit' b.1) in
          chain_sound k l among ops next p n (binary o.0 t b.0.0) u s b.0.1 r fit (omega (arith, w.1.0), o.1, one, two) b.2)
      | inr g ↦ subst (λ (x : Tree × List ℕ). Reads k x.0 l s x.1) (same_Some (t, m) (u, r) g.1) h
    ]

left_to_right_sound : (k : Context) (l : ℕ) (among : List Operator) → AllOf (GoRight l) among → (first next : Reader Tree) → Sound k l first → Sound k (suc l) next → Sound k l (left_to_right among first next)
left_to_right_sound k l among ops first next q p s r t fit e =
    let b = bind_some (first s) (λ x. chain among next (length s) x.0 x.1) (t, r) e in
    chain_sound k l among ops next p (length s) b.0.0 t s b.0.1 r fit (q s b.0.1 b.0.0 fit b.1) b.2

parentheses_sound : (k : Context) (inner : Reader Tree) → Sound k levels.equivalence inner → (s r : List ℕ) (t : Tree) → length s ≤ k.length → in_parentheses inner s ≡ Some (t, r) → Reads k t levels.primary (40 ∷ s) r
unfolding in_parentheses
parentheses_sound k inner p s r t fit e =
    let b = bind_some (inner s) (λ x. after 41 x.1 >>= λ r. Some (parenthesized x.0, r)) (t, r) e in
    let c = bind_some (after 41 b.0.1) (λ r. Some (parenthesized b.0.0, r)) (t, r) b.2 in
    let one : Reads k b.0.0 levels.equivalence s (41 ∷ c.0) = subst (λ (m : List ℕ). Reads k b.0.0 levels.equivalence s m) (after_is 41 b.0.1 c.0 c.1) (p s b.0.1 b.0.0 fit b.1) in
    subst (λ (x : Tree × List ℕ). Reads k x.0 levels.primary (40 ∷ s) x.1) (same_Some (parenthesized b.0.0, c.0) (t, r) c.2) (s, refl, one)

-- an expression before those that were read
abbrev with_first : Tree → Option (Trees × List ℕ) → Option (Trees × List ℕ)
with_first t read = read >>= λ x. Some (trees t x.0, x.1)

-- a list that isn't empty
abbrev ReadsSome : Context → Trees → List ℕ → List ℕ → Type 0
ReadsSome k no_trees s r = ⊥
ReadsSome k (trees t ts) s r = ReadsAll k (trees t ts) s r

some_all : (k : Context) (ts : Trees) (s r : List ℕ) → ReadsSome k ts s r → ReadsAll k ts s r
some_all k no_trees s r h = absurd h
some_all k (trees t ts) s r h = h

more_sound : (k : Context) (inner : Reader Tree) (n : ℕ) (t : Tree) (s m r : List ℕ) (ts : Trees) → Reads k t levels.equivalence s (44 ∷ m) → ((q : List ℕ) (us : Trees) → arguments inner n m ≡ Some (us, q) → ReadsSome k us m q) → with_first t (arguments inner n m) ≡ Some (ts, r) → ReadsSome k ts s r
more_sound k inner n t s m r ts h p e =
    let b = bind_some (arguments inner n m) (λ y. Some (trees t y.0, y.1)) (ts, r) e in
    subst (λ (x : Trees × List ℕ). ReadsSome k x.0 s x.1) (same_Some (trees t b.0.0, b.0.1) (ts, r) b.2) (both b.0.0 b.0.1 (p b.0.1 b.0.0 b.1))
  where
    both : (us : Trees) (q : List ℕ) → ReadsSome k us m q → ReadsSome k (trees t us) s q
    both no_trees q i = absurd i
    both (trees u us) q i = (m, h, i)

arguments_sound : (k : Context) (inner : Reader Tree) → Sound k levels.equivalence inner → (n : ℕ) (s r : List ℕ) (ts : Trees) → length s ≤ k.length → arguments inner n s ≡ Some (ts, r) → ReadsSome k ts s r
unfolding arguments
arguments_sound k inner p zero s r ts fit e = absurd (none-some (ts, r) e)
arguments_sound k inner p (suc n) s r ts fit e =
    let b = bind_some (inner s) (λ x. if_some (after 41 x.1) (λ r. Some (trees x.0 no_trees, r)) (after 44 x.1 >>= λ m. arguments inner n m >>= λ y. Some (trees x.0 y.0, y.1))) (ts, r) e in
    let one = p s b.0.1 b.0.0 fit b.1 in
    elim (either_some (after 41 b.0.1) (λ r. Some (trees b.0.0 no_trees, r)) (after 44 b.0.1 >>= λ m. arguments inner n m >>= λ y. Some (trees b.0.0 y.0, y.1)) (ts, r) b.2) [
      | inl g ↦ subst (λ (x : Trees × List ℕ). ReadsSome k x.0 s x.1) (same_Some (trees b.0.0 no_trees, g.0) (ts, r) g.2) (subst (λ (m : List ℕ). Reads k b.0.0 levels.equivalence s m) (after_is 41 b.0.1 g.0 g.1) one)
      | inr g ↦ (
          let c = bind_some (after 44 b.0.1) (λ m. arguments inner n m >>= λ y. Some (trees b.0.0 y.0, y.1)) (ts, r) g.1 in
          let is = after_is 44 b.0.1 c.0 c.1 in
          let fit' : length c.0 ≤ k.length = omega (arith, ap length is, fits k b.0.0 levels.equivalence s b.0.1 one) in
          let first : Reads k b.0.0 levels.equivalence s (44 ∷ c.0) = subst (λ (m : List ℕ). Reads k b.0.0 levels.equivalence s m) is one in
          more_sound k inner n b.0.0 s c.0 r ts first (λ q us i. arguments_sound k inner p n c.0 q us fit' i) c.2)
    ]

listed_sound : (k : Context) (inner : Reader Tree) → Sound k levels.equivalence inner → (s r : List ℕ) (ts : Trees) → length s ≤ k.length → listed inner s ≡ Some (ts, r) → ReadsAll k ts s r
unfolding listed
listed_sound k inner p s r ts fit e =
    elim (either_some (after 41 s) (λ r. Some (no_trees, r)) (arguments inner (length s) s) (ts, r) e) [
      | inl g ↦ subst (λ (x : Trees × List ℕ). ReadsAll k x.0 s x.1) (same_Some (no_trees, g.0) (ts, r) g.2) (after_is 41 s g.0 g.1)
      | inr g ↦ some_all k ts s r (arguments_sound k inner p (length s) s r ts fit g.1)
    ]

named_sound : (k : Context) (inner : Reader Tree) → Sound k levels.equivalence inner → (a : Occurrence) (s m r : List ℕ) (t : Tree) → length s ≤ k.length → ReadsOccurrence k a s m → named inner a m ≡ Some (t, r) → Reads k t levels.primary s r
unfolding named
named_sound k inner p a s m r t fit h e =
    elim (either_some (after 40 m) (λ n. listed inner n >>= λ x. Some (with_list a x.0, x.1)) (Some (occurrence a, m)) (t, r) e) [
      | inl g ↦ (
          let b = bind_some (listed inner g.0) (λ x. Some (with_list a x.0, x.1)) (t, r) g.2 in
          let is = after_is 40 m g.0 g.1 in
          let fit' : length g.0 ≤ k.length = omega (arith, ap length is, place_fits k a s m h) in
          let name : ReadsOccurrence k a s (40 ∷ g.0) = subst (λ (n : List ℕ). ReadsOccurrence k a s n) is h in
          subst (λ (x : Tree × List ℕ). Reads k x.0 levels.primary s x.1) (same_Some (with_list a b.0.0, b.0.1) (t, r) b.2) (g.0, name, listed_sound k inner p g.0 b.0.1 b.0.0 fit' b.1))
      | inr g ↦ subst (λ (x : Tree × List ℕ). Reads k x.0 levels.primary s x.1) (same_Some (occurrence a, m) (t, r) g.1) h
    ]

primary_sound : (k : Context) (inner : Reader Tree) → Sound k levels.equivalence inner → Sound k levels.primary (primary k inner)
unfolding primary
primary_sound k inner p s r t fit e =
    elim (either_some (integer_at k s) (λ x. Some (constant (Int x.0), x.1)) (if_some (logical_at s) (λ x. Some (constant (Truth x.0), x.1)) (if_some (occurrence_at k s) (λ x. named inner x.0 x.1) (after 40 s >>= in_parentheses inner))) (t, r) e) [
      | inl g ↦ subst (λ (x : Tree × List ℕ). Reads k x.0 levels.primary s x.1) (same_Some (constant (Int g.0.0), g.0.1) (t, r) g.2) (is_constant k s g.0 g.1)
      | inr g ↦ (elim (either_some (logical_at s) (λ x. Some (constant (Truth x.0), x.1)) (if_some (occurrence_at k s) (λ x. named inner x.0 x.1) (after 40 s >>= in_parentheses inner)) (t, r) g.1) [
        | inl g ↦ subst (λ (x : Tree × List ℕ). Reads k x.0 levels.primary s x.1) (same_Some (constant (Truth g.0.0), g.0.1) (t, r) g.2) (is_logical s g.0 g.1)
        | inr g ↦ (elim (either_some (occurrence_at k s) (λ x. named inner x.0 x.1) (after 40 s >>= in_parentheses inner) (t, r) g.1) [
          | inl g ↦ named_sound k inner p g.0.0 s g.0.1 r t fit (is_place k s g.0 fit g.1) g.2
          | inr g ↦ (
              let b = bind_some (after 40 s) (in_parentheses inner) (t, r) g.1 in
              let is = after_is 40 s b.0 b.1 in
              let fit' : length b.0 ≤ k.length = omega (arith, ap length is) in
              subst (λ (m : List ℕ). Reads k t levels.primary m r) (sym is) (parentheses_sound k inner p b.0 r t fit' b.2))
        ])
      ])
    ]

power_sound : (k : Context) (base next : Reader Tree) → Sound k levels.primary base → Sound k levels.power next → Sound k levels.power (power_of base next)
unfolding power_of
power_sound k base next p q s r t fit e =
    let b = bind_some (base s) (λ x. if_some (power_at x.1) (λ m. next m >>= λ y. Some (binary (Arithmetic Power) x.0 y.0, y.1)) (Some x)) (t, r) e in
    let one = p s b.0.1 b.0.0 fit b.1 in
    elim (either_some (power_at b.0.1) (λ m. next m >>= λ y. Some (binary (Arithmetic Power) b.0.0 y.0, y.1)) (Some b.0) (t, r) b.2) [
      | inl g ↦ (
          let c = bind_some (next g.0) (λ y. Some (binary (Arithmetic Power) b.0.0 y.0, y.1)) (t, r) g.2 in
          let is = text_is (spelling (Arithmetic Power)) b.0.1 g.0 g.1 in
          let fit' : length g.0 ≤ k.length = omega (arith, ap length is, fits k b.0.0 levels.primary s b.0.1 one) in
          let base_is : Reads k b.0.0 levels.primary s (spelling (Arithmetic Power) ++ g.0) = subst (λ (m : List ℕ). Reads k b.0.0 levels.primary s m) is one in
          subst (λ (x : Tree × List ℕ). Reads k x.0 levels.power s x.1) (same_Some (binary (Arithmetic Power) b.0.0 c.0.0, c.0.1) (t, r) c.2) (omega arith, g.0, base_is, q g.0 c.0.1 c.0.0 fit' c.1))
      | inr g ↦ subst (λ (x : Tree × List ℕ). Reads k x.0 levels.power s x.1) (same_Some b.0 (t, r) g.1) (looser k b.0.0 levels.power levels.primary s b.0.1 (omega arith) one)
    ]

term_sound : (k : Context) (next : Reader Tree) → Sound k levels.power next → Sound k levels.term (term next)
unfolding term
term_sound k next p = left_to_right_sound k levels.term (operators Term) ((refl, refl, refl), ((refl, refl, refl), tt)) next next (loosened k levels.term levels.power next (omega arith) p) p

first_sound : (k : Context) (next : Reader Tree) → Sound k levels.term next → Sound k levels.sum (first_term next)
unfolding first_term
first_sound k next p s r t fit e =
    elim (either_some (sign_at s) (λ g. next g.1 >>= λ x. Some (signed g.0 x.0, x.1)) (next s) (t, r) e) [
      | inl g ↦ (
          let w = one_is sign_spelling (λ (o : Sign). Unit {0}) (Plus ∷ Minus ∷ []) (tt, (tt, tt)) s g.0 g.1 in
          let b = bind_some (next g.0.1) (λ x. Some (signed g.0.0 x.0, x.1)) (t, r) g.2 in
          let fit' : length g.0.1 ≤ k.length = omega (arith, shorter (sign_spelling g.0.0) g.0.1 s w.0) in
          let inner = p g.0.1 b.0.1 b.0.0 fit' b.1 in
          subst (λ (x : Tree × List ℕ). Reads k x.0 levels.sum s x.1) (same_Some (signed g.0.0 b.0.0, b.0.1) (t, r) b.2) (omega arith, g.0.1, w.0, inner))
      | inr g ↦ looser k t levels.sum levels.term s r (omega arith) (p s r t fit g.1)
    ]

sum_sound : (k : Context) (next : Reader Tree) → Sound k levels.term next → Sound k levels.sum (sum next)
unfolding sum
sum_sound k next p = left_to_right_sound k levels.sum (operators Sum) ((refl, refl, refl), ((refl, refl, refl), tt)) (first_term next) next (first_sound k next p) p

abbrev Compares : Operator → Type 0
Compares o = (level o ≡ levels.relation) × (left o ≡ levels.sum) × (right o ≡ levels.sum)

relation_sound : (k : Context) (next : Reader Tree) → Sound k levels.sum next → Sound k levels.relation (relation next)
unfolding relation
relation_sound k next p s r t fit e =
    let b = bind_some (next s) (λ x. if_some (operator_at comparing x.1) (λ o. next o.1 >>= λ y. Some (binary o.0 x.0 y.0, y.1)) (Some x)) (t, r) e in
    let one = p s b.0.1 b.0.0 fit b.1 in
    elim (either_some (operator_at comparing b.0.1) (λ o. next o.1 >>= λ y. Some (binary o.0 b.0.0 y.0, y.1)) (Some b.0) (t, r) b.2) [
      | inl g ↦ (
          let o = g.0.0 in
          let m = g.0.1 in
          let w = one_is spelling Compares comparing ((refl, refl, refl), ((refl, refl, refl), ((refl, refl, refl), ((refl, refl, refl), ((refl, refl, refl), ((refl, refl, refl), tt)))))) b.0.1 g.0 g.1 in
          let c = bind_some (next m) (λ y. Some (binary o b.0.0 y.0, y.1)) (t, r) g.2 in
          let fit' : length m ≤ k.length = omega (arith, shorter (spelling o) m b.0.1 w.0, fits k b.0.0 levels.sum s b.0.1 one) in
          let first : Reads k b.0.0 (left o) s (spelling o ++ m) = rw (w.1.1, ← w.0) one in
          let second : Reads k c.0.0 (right o) m c.0.1 = rw w.1.2 (p m c.0.1 c.0.0 fit' c.1) in
          subst (λ (x : Tree × List ℕ). Reads k x.0 levels.relation s x.1) (same_Some (binary o b.0.0 c.0.0, c.0.1) (t, r) c.2) (omega (arith, w.1.0), m, first, second))
      | inr g ↦ subst (λ (x : Tree × List ℕ). Reads k x.0 levels.relation s x.1) (same_Some b.0 (t, r) g.1) (looser k b.0.0 levels.relation levels.sum s b.0.1 (omega arith) one)
    ]

negation_sound : (k : Context) (next : Reader Tree) → Sound k levels.relation next → Sound k levels.negation (negation next)
unfolding negation
negation_sound k next p s r t fit e =
    elim (either_some (not_at s) (λ m. next m >>= λ x. Some (negated x.0, x.1)) (next s) (t, r) e) [
      | inl g ↦ (
          let b = bind_some (next g.0) (λ x. Some (negated x.0, x.1)) (t, r) g.2 in
          let is = text_is (codes ".NOT.") s g.0 g.1 in
          let fit' : length g.0 ≤ k.length = omega (arith, ap length is) in
          subst (λ (x : Tree × List ℕ). Reads k x.0 levels.negation s x.1) (same_Some (negated b.0.0, b.0.1) (t, r) b.2) (omega arith, g.0, is, p g.0 b.0.1 b.0.0 fit' b.1))
      | inr g ↦ looser k t levels.negation levels.relation s r (omega arith) (p s r t fit g.1)
    ]

conjunction_sound : (k : Context) (next : Reader Tree) → Sound k levels.negation next → Sound k levels.conjunction (conjunction next)
unfolding conjunction
conjunction_sound k next p = left_to_right_sound k levels.conjunction (operators Conjunction) ((refl, refl, refl), tt) next next (loosened k levels.conjunction levels.negation next (omega arith) p) p

disjunction_sound : (k : Context) (next : Reader Tree) → Sound k levels.conjunction next → Sound k levels.disjunction (disjunction next)
unfolding disjunction
disjunction_sound k next p = left_to_right_sound k levels.disjunction (operators Disjunction) ((refl, refl, refl), tt) next next (loosened k levels.disjunction levels.conjunction next (omega arith) p) p

equivalence_sound : (k : Context) (next : Reader Tree) → Sound k levels.disjunction next → Sound k levels.equivalence (left_to_right (operators Equivalence) next next)
equivalence_sound k next p = left_to_right_sound k levels.equivalence (operators Equivalence) ((refl, refl, refl), ((refl, refl, refl), tt)) next next (loosened k levels.equivalence levels.disjunction next (omega arith) p) p

-- the levels above a power
levels_sound : (k : Context) (p : Reader Tree) → Sound k levels.power p → Sound k levels.disjunction (disjunction (conjunction (negation (relation (sum (term p))))))
levels_sound k p h =
    disjunction_sound k (conjunction (negation (relation (sum (term p))))) (conjunction_sound k (negation (relation (sum (term p)))) (negation_sound k (relation (sum (term p))) (relation_sound k (sum (term p)) (sum_sound k (term p) (term_sound k p h)))))

mutual
  unfolding expression

  expression_sound : (k : Context) (n : ℕ) → Sound k levels.equivalence (expression k n)
  expression_sound k zero s r t fit e = absurd (none-some (t, r) e)
  expression_sound k (suc n) s r t fit e = equivalence_sound k (disjunction (conjunction (negation (relation (sum (term (power k n))))))) (levels_sound k (power k n) (powers_sound k n)) s r t fit e

  powers_sound : (k : Context) (n : ℕ) → Sound k levels.power (power k n)
  powers_sound k zero s r t fit e = absurd (none-some (t, r) e)
  powers_sound k (suc n) s r t fit e = power_sound k (primary k (expression k n)) (power k n) (primary_sound k (expression k n) (expression_sound k n)) (powers_sound k n) s r t fit e

pub expression_at_sound : (k : Context) → Sound k levels.equivalence (expression_at k)
unfolding expression_at
expression_at_sound k s r t fit e = expression_sound k (length s + length s + 1) s r t fit e

pub is_expression : (k : Context) (s : List ℕ) (t : Tree) → length s ≤ k.length → whole_expression k s ≡ Some t → IsExpression k s t
unfolding whole_expression
is_expression k s t fit e =
    let b = bind_some (expression_at k s) (λ x. all_read x.0 x.1) t e in
    whole b.0.0 b.0.1 b.2 (expression_at_sound k s b.0.1 b.0.0 fit b.1)
  where
    whole : (u : Tree) (r : List ℕ) → all_read u r ≡ Some t → Reads k u levels.equivalence s r → IsExpression k s t
    whole u [] e h = subst (λ (x : Tree). IsExpression k s x) (same_Some u t e) h
    whole u (c ∷ r) e h = absurd (none-some t e)
