-- What is read as an expression in a row, or as a target, is so by the grammar, and the other way
-- round.
use Rattle.std.proofs.Common.{◌≡◌, ℕ, ◌≤◌, Bool, true, false, List, [], ◌∷◌, ◌++◌, length, None, refl, subst, arith, ◌||◌, nat_eq, codes, Option, Some, eqb-true}
use Rattle.hep_source.specs.Tree.{Tree, constant, occurrence, with_list, parenthesized, signed, negated, binary}
use Rattle.hep_source.specs.declared.value.Value.TheVariants.{Int, Truth}
use Rattle.hep_source.specs.declared.operator.Sign.TheVariants.{Plus, Minus}
use Rattle.hep_source.specs.declared.declaration.Target.{Target}
use Rattle.hep_source.specs.declared.name.Occurrence.{Occurrence}
use Rattle.hep_expression.specs.declared.characters.Context.{Context}
use Rattle.hep_expression.specs.Characters.{is_digit, is_letter, is_letter_or_digit, IsName, name_sign, IsDigits, ReadsOccurrence}
use Rattle.hep_expression.specs.Expression as levels
use Rattle.hep_expression.specs.Expression.{Reads, ReadsExpression, left, spelling}
use Rattle.hep_expression.specs.Reading.{Reader, ◌>>=◌, begins, after, occurrence_at}
use Rattle.hep_expression.proofs.Leaves.{bind_some, place_fits, is_place, fits}
use Rattle.hep_expression.proofs.Sound.{expression_at_sound}
use Rattle.hep_expression.proofs.Complete.{place_read, AfterExpression, after_comma, after_parenthesis, expression_read}
use Rattle.hep_parse.specs.Lists.{AreOptional}
use Rattle.hep_parse.specs.Target.{ReadsTarget}
use Rattle.hep_parse.specs.ReadingLists.{optional}
use Rattle.hep_parse.specs.ReadingTarget.{expression_part, target_at}
use Rattle.hep_parse.proofs.Lists.{IsSound, Shortens, IsComplete, optional_shortens, optional_sound, optional_complete}
use Rattle.std.proofs.lemmas.Option.{same_Some}

-- ---- with which characters a text begins

-- a name begins with a letter, or with `$` (36)
abbrev pub begins_name : ℕ → Bool
begins_name c = is_letter c || nat_eq c 36

-- `(`, a sign or a point may begin an expression too
abbrev pub begins_expression : ℕ → Bool
begins_expression c = is_letter_or_digit c || nat_eq c 36 || nat_eq c 40 || nat_eq c 43 || nat_eq c 45 || nat_eq c 46

pub first_is : (c d : ℕ) (s m : List ℕ) → c ∷ s ≡ d ∷ m → c ≡ d
first_is c d s m e = cc

pub letters_begin : (a : Bool) (w : List ℕ) (c : ℕ) (s r : List ℕ) → IsName w → c ∷ s ≡ name_sign a ++ (w ++ r) → begins_name c ≡ true
letters_begin a [] c s r h e = absurd h
letters_begin true (d ∷ w) c s r h e = rw (first_is c 36 s (d ∷ w ++ r) e) refl
letters_begin false (d ∷ w) c s r h e = rw (first_is c d s (w ++ r) e, h.0) refl

pub place_begins : (k : Context) (p : _) (c : ℕ) (s r : List ℕ) → ReadsOccurrence k p (c ∷ s) r → begins_name c ≡ true
place_begins k p c s r h = letters_begin p.name.asynchronous h.0 c s r h.1 h.2

digits_begin : (d : List ℕ) (c : ℕ) (s r : List ℕ) → IsDigits d → c ∷ s ≡ d ++ r → is_letter_or_digit c ≡ true
digits_begin [] c s r h e = absurd h
digits_begin (x ∷ d) c s r h e = rw (first_is c x s (d ++ r) e) (digit x (is_letter x) h.0)
  where
    digit : (x : ℕ) (b : Bool) → is_digit x ≡ true → (b || is_digit x) ≡ true
    digit x true e = refl
    digit x false e = e

of_word : (c : ℕ) → is_letter_or_digit c ≡ true → begins_expression c ≡ true
of_word c e = rw e refl

of_name : (c : ℕ) → begins_name c ≡ true → begins_expression c ≡ true
of_name c e = go (is_letter c) (is_digit c) (nat_eq c 36) e
  where
    go : (a b d : Bool) → (a || d) ≡ true → (a || b || d || nat_eq c 40 || nat_eq c 43 || nat_eq c 45 || nat_eq c 46) ≡ true
    go true b d e = refl
    go false true d e = refl
    go false false true e = refl
    go false false false e = absurd cc

pub expression_begins : (k : Context) (t : Tree) (l c : ℕ) (s r : List ℕ) → Reads k t l (c ∷ s) r → begins_expression c ≡ true
expression_begins k (constant (Int v)) l c s r h = of_word c (digits_begin h.0 c s r h.1 h.2)
expression_begins k (constant (Truth true)) l c s r h = rw (first_is c 46 s (codes "TRUE." ++ r) h) refl
expression_begins k (constant (Truth false)) l c s r h = rw (first_is c 46 s (codes "FALSE." ++ r) h) refl
expression_begins k (occurrence p) l c s r h = of_name c (place_begins k p c s r h)
expression_begins k (with_list p ts) l c s r h = of_name c (place_begins k p c s (40 ∷ h.0) h.1)
expression_begins k (parenthesized t) l c s r h = rw (first_is c 40 s h.0 h.1) refl
expression_begins k (signed Plus t) l c s r h = rw (first_is c 43 s h.1 h.2) refl
expression_begins k (signed Minus t) l c s r h = rw (first_is c 45 s h.1 h.2) refl
expression_begins k (negated t) l c s r h = rw (first_is c 46 s (codes "NOT." ++ h.1) h.2) refl
expression_begins k (binary o a b) l c s r h = expression_begins k a (left o) c s (spelling o ++ h.1) h.2

-- ---- with what a text doesn't begin

other_first : (p : ℕ → Bool) (c d : ℕ) → p c ≡ true → p d ≡ false → nat_eq c d ≡ false
other_first p c d is not = go (nat_eq c d) refl
  where
    go : (b : Bool) → nat_eq c d ≡ b → nat_eq c d ≡ false
    go false e = e
    go true e = let same : p d ≡ true = subst (λ (x : ℕ). p x ≡ true) (eqb-true c d e) is in absurd cc

-- an expression doesn't begin with such a character
pub expression_begins_not : (k : Context) (t : Tree) (s r : List ℕ) (d : ℕ) → begins_expression d ≡ false → Reads k t levels.equivalence s r → after d s ≡ None
expression_begins_not k t [] r d other h = refl
expression_begins_not k t (c ∷ s) r d other h = rw (other_first begins_expression c d (expression_begins k t levels.equivalence c s r h) other) refl

pub place_begins_not : (k : Context) (p : _) (s r : List ℕ) (d : ℕ) → begins_name d ≡ false → ReadsOccurrence k p s r → after d s ≡ None
place_begins_not k p [] r d other h = refl
place_begins_not k p (c ∷ s) r d other h = rw (other_first begins_name c d (place_begins k p c s r h) other) refl

-- ---- expressions in a row

pub expression_part_shortens : (k : Context) → Shortens (ReadsExpression k)
expression_part_shortens k t s r h = omega (arith, fits k t levels.equivalence s r h)

pub expression_part_sound : (k : Context) → IsSound k (ReadsExpression k) (expression_part k)
expression_part_sound k s x fit e = expression_at_sound k s x.1 x.0 fit e

pub expression_part_complete : (k : Context) → IsComplete (ReadsExpression k) (expression_part k) AfterExpression
expression_part_complete k t s r h f = expression_read k t s r h f

-- ---- targets

-- what may follow a name that has no list after it
abbrev pub AfterName : List ℕ → Type 0
AfterName r = (begins is_letter_or_digit r ≡ false) × (after 40 r ≡ None)

-- after a name a list in parentheses may stand, or what follows it
pub name_ends : {A : Type 0} (P : A → List ℕ → List ℕ → Type 0) (xs : List A) (s r : List ℕ) → AreOptional P xs s r → begins is_letter_or_digit r ≡ false → begins is_letter_or_digit s ≡ false
name_ends P [] s r h f = rw h f
name_ends P (x ∷ xs) s r h f = rw h.1 refl

pub target_shortens : (k : Context) → Shortens (ReadsTarget k)
target_shortens k x s r h = omega (arith, place_fits k x.occurrence s h.0 h.1, optional_shortens (ReadsExpression k) (expression_part_shortens k) x.subscripts h.0 r h.2)

-- a name, and what stands in parentheses after it
pub name_and_optional_are : {A B : Type 0} (P : A → List ℕ → List ℕ → Type 0) → Shortens P → (k : Context) (next : Reader A) → IsSound k P next → (make : Occurrence × List ℕ → List A × List ℕ → Option B) (s : List ℕ) (z : B) → length s ≤ k.length
    → (occurrence_at k s >>= λ p. optional next p.1 >>= make p) ≡ Some z → (p : Occurrence × List ℕ) × (y : List A × List ℕ) × ReadsOccurrence k p.0 s p.1 × AreOptional P y.0 p.1 y.1 × (make p y ≡ Some z)
name_and_optional_are P shorter k next sound make s z fit e =
    let b = bind_some (occurrence_at k s) (λ p. optional next p.1 >>= make p) z e in
    let c = bind_some (optional next b.0.1) (make b.0) z b.2 in
    let one = is_place k s b.0 fit b.1 in
    (b.0, c.0, one, optional_sound P shorter k next sound b.0.1 c.0 (omega (arith, place_fits k b.0.0 s b.0.1 one)) c.1, c.2)

pub target_sound : (k : Context) → IsSound k (ReadsTarget k) (target_at k)
unfolding target_at
target_sound k s x fit e =
    let h = name_and_optional_are (ReadsExpression k) (expression_part_shortens k) k (expression_part k) (expression_part_sound k) _ s x fit e in
    subst (λ (y : Target × List ℕ). ReadsTarget k y.0 s y.1) (same_Some (record { occurrence = h.0.0; subscripts = h.1.0 }, h.1.1) x h.4) (h.0.1, h.2, h.3)

pub target_complete : (k : Context) → IsComplete (ReadsTarget k) (target_at k) AfterName
unfolding target_at
target_complete k x s r h f =
    let one = place_read k x.occurrence s h.0 h.1 (name_ends (ReadsExpression k) x.subscripts h.0 r h.2 f.0) in
    let two = optional_complete (ReadsExpression k) (expression_part_shortens k) (expression_part k) AfterExpression (expression_part_complete k) after_comma after_parenthesis x.subscripts h.0 r h.2 f.1 in
    rw (one, two) refl
