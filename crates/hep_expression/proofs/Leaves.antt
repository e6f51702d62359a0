-- Names, constants and words: what a text that was read is, and how long it is.
use Rattle.std.proofs.Common.{◌≡◌, ◌⊎◌, inl, inr, ℕ, ◌+◌, ◌-◌, ◌≤◌, Bool, true, false, cond, List, [], ◌∷◌, ◌++◌, length, Option, Some, None, refl, sym, ap, subst, ◌∙◌, arith, length-append, IsTrue, nat_eq, nat_le, ◌&&◌, ℤ, pos, min}
use Rattle.std.specs.List.{list_all}
use Rattle.std.proofs.lemmas.Bool.{eqb-true, and_parts, leb-true}
use Rattle.hep_source.specs.Tree.{Tree, Trees, constant, occurrence, with_list, parenthesized, signed, negated, binary, no_trees, trees, nodes, nodes_of_all}
use Rattle.hep_source.specs.declared.value.Value.TheVariants.{Int, Truth}
use Rattle.hep_source.specs.declared.name.Name.{Name}
use Rattle.hep_source.specs.declared.name.Occurrence.{Occurrence}
use Rattle.hep_source.specs.declared.operator.Sign.{Sign}
use Rattle.hep_source.specs.declared.operator.Sign.TheVariants.{Plus, Minus}
use Rattle.hep_source.specs.declared.operator.Operator.{Operator}
use Rattle.hep_source.specs.declared.operator.Operator.TheVariants.{Arithmetic, Relational, Logical}
use Rattle.hep_source.specs.declared.operator.ArithmeticOperator.TheVariants.{Add, Subtract, Multiply, Divide, Power}
use Rattle.hep_source.specs.declared.operator.RelationalOperator.TheVariants.{Less, LessOrEqual, Equal, NotEqual, Greater, GreaterOrEqual}
use Rattle.hep_source.specs.declared.operator.LogicalOperator.TheVariants.{And, Or, Equivalent, NotEquivalent}
use Rattle.hep_expression.specs.declared.characters.Sizes.{Sizes}
use Rattle.hep_expression.specs.declared.characters.Sizes.TheVariants.{Fitting, Any}
use Rattle.hep_expression.specs.declared.characters.Context.{Context}
use Rattle.hep_expression.specs.Characters.{is_digit, is_letter, is_letter_or_digit, IsName, name_sign, named, ReadsOccurrence, ReadsPlainOccurrence, IsDigits, number_of_digits, greatest, IsInteger, logical_spelling}
use Rattle.hep_expression.specs.Expression.{left, right, spelling, sign_spelling, term, Reads, ReadsAll}
use Rattle.hep_expression.specs.Reading.{◌>>=◌, if_some, begins, front, rest_after, after, after_text, one_of, letters_at, name_at, with_position, occurrence_at, plain_occurrence_at, integer, integer_at, logical_at}
use Rattle.std.proofs.lemmas.Option.{none-some, same_Some}

-- ---- options and Booleans

module _ {A B : Type 0} where
  pub bind_some : (o : Option A) (f : A → Option B) (y : B) → (o >>= f) ≡ Some y → (x : A) × (o ≡ Some x) × (f x ≡ Some y)
  bind_some None f y e = absurd cc
  bind_some (Some x) f y e = (x, refl, e)

  pub either_some : (o : Option A) (f : A → Option B) (other : Option B) (y : B) → if_some o f other ≡ Some y → ((x : A) × (o ≡ Some x) × (f x ≡ Some y)) ⊎ ((o ≡ None) × (other ≡ Some y))
  either_some None f other y e = inr (refl, e)
  either_some (Some x) f other y e = inl (x, refl, e)

pub chosen : {A : Type 0} (b : Bool) (x y z : A) → cond b x y ≡ z → ((b ≡ true) × (x ≡ z)) ⊎ ((b ≡ false) × (y ≡ z))
chosen true x y z e = inl (refl, e)
chosen false x y z e = inr (refl, e)

-- ---- words

pub after_is : (c : ℕ) (s m : List ℕ) → after c s ≡ Some m → s ≡ c ∷ m
after_is c [] m e = absurd cc
after_is c (d ∷ s) m e = elim (chosen (nat_eq d c) (Some s) None (Some m) e) [
  | inl h ↦ (let k = eqb-true d c h.0 in let j : s ≡ m = same_Some s m h.1 in cc)
  | inr h ↦ absurd (none-some m h.1)
]

pub text_is : (w s m : List ℕ) → after_text w s ≡ Some m → s ≡ w ++ m
text_is [] s m e = same_Some s m e
text_is (c ∷ w) s m e =
    let b = bind_some (after c s) (after_text w) m e in
    after_is c s b.0 b.1 ∙ ap (λ (l : List ℕ). c ∷ l) (text_is w b.0 m b.2)

abbrev pub AllOf : {A : Type 0} → (A → Type 0) → List A → Type 0
AllOf P [] = Unit {0}
AllOf P (a ∷ more) = P a × AllOf P more

pub one_is : {A : Type 0} (spell : A → List ℕ) (P : A → Type 0) (among : List A) → AllOf P among → (s : List ℕ) (x : A × List ℕ) → one_of spell among s ≡ Some x → (s ≡ spell x.0 ++ x.1) × P x.0
one_is spell P [] have s x e = absurd (none-some x e)
one_is spell P (a ∷ more) have s x e = elim (either_some (after_text (spell a) s) (λ r. Some (a, r)) (one_of spell more s) x e) [
  | inl h ↦ subst (λ y. (s ≡ spell y.0 ++ y.1) × P y.0) (same_Some (a, h.0) x h.2) (text_is (spell a) s h.0 h.1, have.0)
  | inr h ↦ one_is spell P more have.1 s x h.1
]

pub shorter : (w r s : List ℕ) → s ≡ w ++ r → length r ≤ length s
shorter w r s e = omega (arith, ap length e, length-append w r)

-- ---- rows of characters

pub front_splits : (p : ℕ → Bool) (s : List ℕ) → IsTrue (list_all p (front p s)) × (s ≡ front p s ++ rest_after p s)
front_splits p [] = (refl, refl)
front_splits p (c ∷ s) = go (p c) refl (front_splits p s)
  where
    go : (b : Bool) → p c ≡ b → IsTrue (list_all p (front p s)) × (s ≡ front p s ++ rest_after p s) → IsTrue (list_all p (front p (c ∷ s))) × (c ∷ s ≡ front p (c ∷ s) ++ rest_after p (c ∷ s))
    go true e i = (rw (e, e) i.0, rw e (ap (λ (l : List ℕ). c ∷ l) i.1))
    go false e i = (rw e refl, rw e refl)

-- a row that ends where it ends
pub front_row : (p : ℕ → Bool) (w r : List ℕ) → IsTrue (list_all p w) → begins p r ≡ false → (front p (w ++ r) ≡ w) × (rest_after p (w ++ r) ≡ r)
front_row p [] [] h e = (refl, refl)
front_row p [] (c ∷ r) h e = (rw e refl, rw e refl)
front_row p (c ∷ w) r h e =
    let a = and_parts (p c) (list_all p w) h in
    let i = front_row p w r a.1 e in
    (rw (a.0, i.0) refl, rw (a.0, i.1) refl)

pub digits_are : (s : List ℕ) → begins is_digit s ≡ true → IsDigits (front is_digit s)
digits_are [] e = absurd cc
digits_are (c ∷ s) e = rw e (e, (front_splits is_digit s).0)

pub name_is : (s : List ℕ) → begins is_letter s ≡ true → length (front is_letter_or_digit s) ≤ 6 → IsName (front is_letter_or_digit s)
name_is [] e le = absurd cc
name_is (c ∷ s) e le =
    let first : front is_letter_or_digit (c ∷ s) ≡ c ∷ front is_letter_or_digit s = rw e refl in
    let short : length (front is_letter_or_digit s) ≤ 5 = omega (arith, ap length first) in
    rw first (e, (front_splits is_letter_or_digit s).0, short)

-- ---- what names and constants are

letters_are : (a : Bool) (s : List ℕ) (x : Name × List ℕ) → letters_at a s ≡ Some x → (w : List ℕ) × IsName w × (s ≡ w ++ x.1) × (x.0 ≡ named a w)
letters_are a s x e = elim (chosen (begins is_letter s && nat_le (length (front is_letter_or_digit s)) 6) (Some (named a (front is_letter_or_digit s), rest_after is_letter_or_digit s)) None (Some x) e) [
  | inl h ↦ (
      let b = and_parts (begins is_letter s) (nat_le (length (front is_letter_or_digit s)) 6) h.0 in
      let found = name_is s b.0 (leb-true (length (front is_letter_or_digit s)) 6 b.1) in
      subst (λ (y : Name × List ℕ). (w : List ℕ) × IsName w × (s ≡ w ++ y.1) × (y.0 ≡ named a w)) (same_Some (named a (front is_letter_or_digit s), rest_after is_letter_or_digit s) x h.1)
      (front is_letter_or_digit s, found, (front_splits is_letter_or_digit s).1, refl))
  | inr h ↦ absurd (none-some x h.1)
]

-- The text s begins with this name, whatever its sign, and goes on with r.
abbrev SpellsName : List ℕ → Name → List ℕ → Type 0
SpellsName s x r = (w : List ℕ) × IsName w × (s ≡ name_sign x.asynchronous ++ (w ++ r)) × (x ≡ named x.asynchronous w)

spelled : (a : Bool) (s m : List ℕ) (x : Name × List ℕ) → s ≡ name_sign a ++ m → letters_at a m ≡ Some x → SpellsName s x.0 x.1 × (x.0.asynchronous ≡ a)
spelled a s m x is e =
    let n = letters_are a m x e in
    let same : x.0.asynchronous ≡ a = ap (λ (y : Name). y.asynchronous) n.3 in
    ((n.0, n.1, is ∙ ap (λ (l : List ℕ). name_sign a ++ l) n.2 ∙ ap (λ (b : Bool). name_sign b ++ (n.0 ++ x.1)) (sym same), n.3 ∙ ap (λ (b : Bool). named b n.0) (sym same)), same)

is_name : (s : List ℕ) (x : Name × List ℕ) → name_at s ≡ Some x → SpellsName s x.0 x.1
is_name s x e = elim (either_some (after 36 s) (letters_at true) (letters_at false s) x e) [
  | inl h ↦ (spelled true s h.0 x (after_is 36 s h.0 h.1) h.2).0
  | inr h ↦ (spelled false s s x refl h.1).0
]

positioned : (k : Context) (s : List ℕ) (o : Option (Name × List ℕ)) (x : Occurrence × List ℕ) → length s ≤ k.length → with_position k s o ≡ Some x → (y : Name × List ℕ) × (o ≡ Some y) × (y.0 ≡ x.0.name) × (y.1 ≡ x.1) × (x.0.position + length s ≡ k.length)
positioned k s o x le e =
    let b = bind_some o (λ y. Some (record { name = y.0; position = k.length - length s }, y.1)) x e in
    let is_x = same_Some (record { name = b.0.0; position = k.length - length s }, b.0.1) x b.2 in
    let at : (k.length - length s) + length s ≡ k.length = omega arith in
    (b.0, b.1, ap (λ (y : Occurrence × List ℕ). y.0.name) is_x, ap (λ (y : Occurrence × List ℕ). y.1) is_x, subst (λ (y : Occurrence × List ℕ). y.0.position + length s ≡ k.length) is_x at)

pub is_place : (k : Context) (s : List ℕ) (x : Occurrence × List ℕ) → length s ≤ k.length → occurrence_at k s ≡ Some x → ReadsOccurrence k x.0 s x.1
is_place k s x le e =
    let p = positioned k s (name_at s) x le e in
    let n = subst (λ (y : Name). SpellsName s y p.0.1) p.2 (is_name s p.0 p.1) in
    let m = subst (λ (r : List ℕ). SpellsName s x.0.name r) p.3 n in
    (m.0, m.1, m.2, m.3, p.4)

pub is_plain_place : (k : Context) (s : List ℕ) (x : Occurrence × List ℕ) → length s ≤ k.length → plain_occurrence_at k s ≡ Some x → ReadsPlainOccurrence k x.0 s x.1
is_plain_place k s x le e =
    let p = positioned k s (letters_at false s) x le e in
    let i = spelled false s s p.0 refl p.1 in
    let n = subst (λ (y : Name). SpellsName s y p.0.1) p.2 i.0 in
    let m = subst (λ (r : List ℕ). SpellsName s x.0.name r) p.3 n in
    (sym (ap (λ (y : Name). y.asynchronous) p.2) ∙ i.1, (m.0, m.1, m.2, m.3, p.4))

is_integer : (z : Sizes) (d : List ℕ) (v : ℤ) → integer z (number_of_digits d) ≡ Some v → IsInteger z d v
is_integer Fitting d v e = elim (chosen (nat_le (number_of_digits d) greatest) (Some (pos (number_of_digits d))) None (Some v) e) [
  | inl h ↦ (leb-true (number_of_digits d) greatest h.0, sym (same_Some (pos (number_of_digits d)) v h.1))
  | inr h ↦ absurd (none-some v h.1)
]
is_integer Any d v e = sym (same_Some (pos (min (number_of_digits d) greatest)) v e)

pub is_constant : (k : Context) (s : List ℕ) (x : ℤ × List ℕ) → integer_at k s ≡ Some x → (d : List ℕ) × IsDigits d × (s ≡ d ++ x.1) × IsInteger k.sizes d x.0
is_constant k s x e = elim (chosen (begins is_digit s) (integer k.sizes (number_of_digits (front is_digit s)) >>= λ v. Some (v, rest_after is_digit s)) None (Some x) e) [
  | inl h ↦ (
      let b = bind_some (integer k.sizes (number_of_digits (front is_digit s))) (λ v. Some (v, rest_after is_digit s)) x h.1 in
      subst (λ (y : ℤ × List ℕ). (d : List ℕ) × IsDigits d × (s ≡ d ++ y.1) × IsInteger k.sizes d y.0) (same_Some (b.0, rest_after is_digit s) x b.2)
      (front is_digit s, digits_are s h.0, (front_splits is_digit s).1, is_integer k.sizes (front is_digit s) b.0 b.1))
  | inr h ↦ absurd (none-some x h.1)
]

pub is_logical : (s : List ℕ) (x : Bool × List ℕ) → logical_at s ≡ Some x → s ≡ logical_spelling x.0 ++ x.1
is_logical s x e = (one_is logical_spelling (λ (b : Bool). Unit {0}) (true ∷ false ∷ []) (tt, (tt, tt)) s x e).0

-- ---- how long a text is

digits_fit : (d s r : List ℕ) → IsDigits d → s ≡ d ++ r → 1 + length r ≤ length s
digits_fit [] s r h e = absurd h
digits_fit (c ∷ d) s r h e = omega (arith, ap length e, length-append d r)

name_fits : (a : Bool) (w s r : List ℕ) → IsName w → s ≡ name_sign a ++ (w ++ r) → 1 + length r ≤ length s
name_fits a [] s r h e = absurd h
name_fits true (c ∷ w) s r h e = omega (arith, ap length e, length-append w r)
name_fits false (c ∷ w) s r h e = omega (arith, ap length e, length-append w r)

operator_is_long : (o : Operator) → 1 ≤ length (spelling o)
operator_is_long (Arithmetic Add) = omega arith
operator_is_long (Arithmetic Subtract) = omega arith
operator_is_long (Arithmetic Multiply) = omega arith
operator_is_long (Arithmetic Divide) = omega arith
operator_is_long (Arithmetic Power) = omega arith
operator_is_long (Relational Less) = omega arith
operator_is_long (Relational LessOrEqual) = omega arith
operator_is_long (Relational Equal) = omega arith
operator_is_long (Relational NotEqual) = omega arith
operator_is_long (Relational Greater) = omega arith
operator_is_long (Relational GreaterOrEqual) = omega arith
operator_is_long (Logical And) = omega arith
operator_is_long (Logical Or) = omega arith
operator_is_long (Logical Equivalent) = omega arith
operator_is_long (Logical NotEquivalent) = omega arith

sign_is_long : (g : Sign) → 1 ≤ length (sign_spelling g)
sign_is_long Plus = omega arith
sign_is_long Minus = omega arith

pub place_fits : (k : Context) (p : Occurrence) (s r : List ℕ) → ReadsOccurrence k p s r → 1 + length r ≤ length s
place_fits k p s r h = name_fits p.name.asynchronous h.0 s r h.1 h.2

logical_fits : (b : Bool) (s r : List ℕ) → s ≡ logical_spelling b ++ r → 1 + length r ≤ length s
logical_fits true s r e = omega (arith, ap length e)
logical_fits false s r e = omega (arith, ap length e)

mutual
  pub fits : (k : Context) (t : Tree) (l : ℕ) (s r : List ℕ) → Reads k t l s r → nodes t + length r ≤ length s
  fits k (constant (Int v)) l s r h = digits_fit h.0 s r h.1 h.2
  fits k (constant (Truth b)) l s r h = logical_fits b s r h
  fits k (occurrence p) l s r h = place_fits k p s r h
  fits k (with_list p ts) l s r h = omega (arith, place_fits k p s (40 ∷ h.0) h.1, all_fit k ts h.0 r h.2)
  fits k (parenthesized t) l s r h = omega (arith, ap length h.1, fits k t 0 h.0 (41 ∷ r) h.2)
  fits k (signed g t) l s r h = omega (arith, ap length h.2, length-append (sign_spelling g) h.1, sign_is_long g, fits k t term h.1 r h.3)
  fits k (negated t) l s r h = omega (arith, ap length h.2, fits k t 4 h.1 r h.3)
  fits k (binary o a b) l s r h = omega (arith, fits k a (left o) s (spelling o ++ h.1) h.2, fits k b (right o) h.1 r h.3, length-append (spelling o) h.1, operator_is_long o)

  pub all_fit : (k : Context) (ts : Trees) (s r : List ℕ) → ReadsAll k ts s r → nodes_of_all ts + length r ≤ length s
  all_fit k no_trees s r h = omega (arith, ap length h)
  all_fit k (trees t no_trees) s r h = omega (arith, fits k t 0 s (41 ∷ r) h)
  all_fit k (trees t (trees u ts)) s r h = omega (arith, fits k t 0 s (44 ∷ h.0) h.1, all_fit k (trees u ts) h.0 r h.2)
