-- What is read as a statement that the language leaves out is one, and the other way round.
use Rattle.std.proofs.Common.{◌≡◌, ◌⊎◌, inl, inr, ℕ, zero, suc, ◌+◌, ◌-◌, ◌<◌, ◌≤◌, Bool, true, false, List, [], ◌∷◌, ◌++◌, length, Option, Some, None, refl, sym, ap, subst, ◌∙◌, arith, ◌≢◌, not, ◌&&◌, nat_eq}
use Rattle.hep_source.specs.Tree.{Tree}
use Rattle.hep_expression.specs.declared.read_failure.ReadFailure.{ReadFailure}
use Rattle.hep_expression.specs.declared.read_failure.ReadFailure.TheVariants as unread
use Rattle.hep_expression.specs.declared.characters.Context.{Context}
use Rattle.hep_expression.specs.Expression.{equivalence}
use Rattle.hep_expression.specs.Reading.{◌>>=◌, if_some, Fails, after_text}
use Rattle.hep_expression.proofs.Leaves.{bind_some, either_some, text_is, fits}
use Rattle.hep_parse.specs.Rules.{rule_of}
use Rattle.hep_parse.specs.declared.rule.Rule.{Rule}
use Rattle.hep_parse.specs.declared.rule.Rule.TheVariants.{Assignment, BlockIf, SignIf, LogicalIf, Unclosed, Worded}
use Rattle.hep_parse.specs.Statement.{IsLogicalIf}
use Rattle.hep_parse.specs.Program.{left_out_words, BeginsWith, IsLeftOut}
use Rattle.hep_parse.specs.ReadingStatement.{logical_if}
use Rattle.hep_parse.specs.ReadingProgram.{word_at, by_rule, left_out}
use Rattle.hep_parse.proofs.Forms.{logical_if_is, logical_if_read}
use Rattle.std.proofs.lemmas.Option.{same_Some, none-some}
use Rattle.std.proofs.lemmas.Bool.{and_parts, eq-eqb}

-- ---- one iteration of the loop: n iterations are allowed, i of them are done

module _ (k : Context) (n i : ℕ) (s : List ℕ) (whole : Option (List ℕ)) where
  one_turn : i < n → left_out k (n - i) s ≡ whole → left_out k (suc (n - (i + 1))) s ≡ whole
  one_turn lt so_far =
      let left : n - i ≡ suc (n - (i + 1)) = omega arith in
      subst (λ (m : ℕ). left_out k m s ≡ whole) left so_far

  pub goes_on : (x : Tree × List ℕ) → i < n → rule_of s ≡ LogicalIf → logical_if k s ≡ Some x → left_out k (n - i) s ≡ whole → left_out k (n - (i + 1)) x.1 ≡ whole
  unfolding left_out
  goes_on x lt rule read so_far =
      let turn : left_out k (suc (n - (i + 1))) s ≡ left_out k (n - (i + 1)) x.1 = rw (rule, read) refl in
      sym turn ∙ one_turn lt so_far

  pub condition_fails : (why : ReadFailure) → i < n → rule_of s ≡ LogicalIf → Fails why (logical_if k s) → left_out k (n - i) s ≡ whole → Fails why whole
  unfolding left_out
  condition_fails unread.NoMemory lt rule fails so_far = tt
  condition_fails unread.NoReading lt rule fails so_far =
      let turn : left_out k (suc (n - (i + 1))) s ≡ None = rw (rule, fails) refl in
      sym (one_turn lt so_far) ∙ turn

  pub begins_with_word : i < n → rule_of s ≡ Worded → left_out k (n - i) s ≡ whole → word_at left_out_words s ≡ whole
  unfolding left_out
  begins_with_word lt rule so_far =
      let turn : left_out k (suc (n - (i + 1))) s ≡ word_at left_out_words s = rw rule refl in
      sym turn ∙ one_turn lt so_far

  pub begins_otherwise : (rule : Rule) → i < n → rule_of s ≡ rule → rule ≢ LogicalIf → rule ≢ Worded → left_out k (n - i) s ≡ whole → whole ≡ None
  unfolding left_out
  begins_otherwise rule lt is no_if no_word so_far =
      let turn : left_out k (suc (n - (i + 1))) s ≡ by_rule rule (logical_if k s >>= λ x. left_out k (n - (i + 1)) x.1) (word_at left_out_words s) = rw is refl in
      sym (one_turn lt so_far) ∙ turn ∙ nothing rule no_if no_word
    where
      nothing : (rule : Rule) → rule ≢ LogicalIf → rule ≢ Worded → by_rule rule (logical_if k s >>= λ x. left_out k (n - (i + 1)) x.1) (word_at left_out_words s) ≡ None
      nothing Assignment a b = refl
      nothing BlockIf a b = refl
      nothing SignIf a b = refl
      nothing LogicalIf a b = absurd (a refl)
      nothing Unclosed a b = refl
      nothing Worded a b = absurd (b refl)

  pub turns_are_over : n ≤ i → left_out k (n - i) s ≡ whole → whole ≡ None
  unfolding left_out
  turns_are_over le so_far =
      let left : n - i ≡ 0 = omega arith in
      let turn : left_out k (n - i) s ≡ None = rw left refl in
      sym so_far ∙ turn

-- ---- words

word_is : (words : List (List ℕ × List ℕ)) (s w : List ℕ) → word_at words s ≡ Some w → BeginsWith words s w
word_is [] s w e = none-some w e
word_is (x ∷ more) s w e = elim (either_some (after_text x.0 s) (λ m. Some x.1) (word_at more s) w e) [
  | inl g ↦ inl (g.0, text_is x.0 s g.0 g.1, sym (same_Some x.1 w g.2))
  | inr g ↦ inr (word_is more s w g.1)
]

-- whether a text can begin with both words
abbrev comparable : List ℕ → List ℕ → Bool
comparable [] v = true
comparable (c ∷ u) [] = true
comparable (c ∷ u) (d ∷ v) = nat_eq c d && comparable u v

abbrev none_comparable : List ℕ → List (List ℕ × List ℕ) → Bool
none_comparable u [] = true
none_comparable u (x ∷ more) = not (comparable u x.0) && none_comparable u more

-- no text begins with two of these words
abbrev apart : List (List ℕ × List ℕ) → Bool
apart [] = true
apart (x ∷ more) = none_comparable x.0 more && apart more

first_same : (c d : ℕ) (u v : List ℕ) → c ∷ u ≡ d ∷ v → (c ≡ d) × (u ≡ v)
first_same c d u v e = (cc, cc)

both_begin : (u v m n : List ℕ) → u ++ m ≡ v ++ n → comparable u v ≡ true
both_begin [] v m n e = refl
both_begin (c ∷ u) [] m n e = refl
both_begin (c ∷ u) (d ∷ v) m n e =
    let same = first_same c d (u ++ m) (v ++ n) e in
    rw (eq-eqb c d same.0, both_begin u v m n same.1) refl

alone : (u m s w : List ℕ) (words : List (List ℕ × List ℕ)) → none_comparable u words ≡ true → s ≡ u ++ m → BeginsWith words s w → ⊥
alone u m s w [] clear is h = h
alone u m s w (x ∷ more) clear is h =
    let parts = and_parts (not (comparable u x.0)) (none_comparable u more) clear in
    elim h [
      | inl g ↦ (
          let both : comparable u x.0 ≡ true = both_begin u x.0 m g.0 (sym is ∙ g.1) in
          let turned : not (comparable u x.0) ≡ false = rw both refl in
          let clash : true ≡ false = sym parts.0 ∙ turned in
          cc)
      | inr g ↦ alone u m s w more parts.1 is g
    ]

text_read : (w m : List ℕ) → after_text w (w ++ m) ≡ Some m
text_read [] m = refl
text_read (c ∷ w) m = rw (eq-eqb c c refl, text_read w m) refl

word_read : (words : List (List ℕ × List ℕ)) (s w : List ℕ) → apart words ≡ true → BeginsWith words s w → word_at words s ≡ Some w
word_read [] s w clear h = absurd h
word_read (x ∷ more) s w clear h =
    let parts = and_parts (none_comparable x.0 more) (apart more) clear in
    elim h [
      | inl g ↦ (
          let first : after_text x.0 s ≡ Some g.0 = ap (after_text x.0) g.1 ∙ text_read x.0 g.0 in
          rw first (ap (λ (y : List ℕ). Some y) (sym g.2)))
      | inr g ↦ rest_after parts.0 g (word_read more s w parts.1 g) (after_text x.0 s) refl
    ]
  where
    rest_after : none_comparable x.0 more ≡ true → BeginsWith more s w → word_at more s ≡ Some w → (o : Option (List ℕ)) → after_text x.0 s ≡ o → if_some o (λ m. Some x.1) (word_at more s) ≡ Some w
    rest_after clear g e None is = e
    rest_after clear g e (Some m) is = absurd (alone x.0 m s w more clear (text_is x.0 s m is) g)

words_apart : apart left_out_words ≡ true
words_apart = refl

-- ---- statements

ruled : {A : Type 0} (rule : Rule) (held word : Option A) (w : A) → by_rule rule held word ≡ Some w → ((rule ≡ LogicalIf) × (held ≡ Some w)) ⊎ ((rule ≡ Worded) × (word ≡ Some w))
ruled Assignment held word w e = absurd (none-some w e)
ruled BlockIf held word w e = absurd (none-some w e)
ruled SignIf held word w e = absurd (none-some w e)
ruled LogicalIf held word w e = inl (refl, e)
ruled Unclosed held word w e = absurd (none-some w e)
ruled Worded held word w e = inr (refl, e)

-- what a logical IF holds is shorter than it
held_fits : (k : Context) (t : Tree) (s r : List ℕ) → IsLogicalIf k t s r → suc (length r) ≤ length s
held_fits k t s r h = omega (arith, ap length h.1, fits k t equivalence h.0 (41 ∷ r) h.4)

pub left_out_is : (k : Context) (n : ℕ) (s w : List ℕ) → length s ≤ k.length → left_out k n s ≡ Some w → (conditions : List Tree) × IsLeftOut k conditions s w
unfolding left_out
left_out_is k zero s w fit e = absurd (none-some w e)
left_out_is k (suc n) s w fit e = elim (ruled (rule_of s) (logical_if k s >>= λ x. left_out k n x.1) (word_at left_out_words s) w e) [
  | inl g ↦ (
      let b = bind_some (logical_if k s) (λ x. left_out k n x.1) w g.1 in
      let is = logical_if_is k s b.0 fit b.1 in
      let inner = left_out_is k n b.0.1 w (omega (arith, held_fits k b.0.0 s b.0.1 is)) b.2 in
      (b.0.0 ∷ inner.0, (b.0.1, is, inner.1)))
  | inr g ↦ ([], (g.0, word_is left_out_words s w g.1))
]

pub left_out_read : (k : Context) (conditions : List Tree) (n : ℕ) (s w : List ℕ) → length s ≤ n → IsLeftOut k conditions s w → left_out k n s ≡ Some w
unfolding left_out
left_out_read k [] zero [] w fit h = absurd (none-some w (word_read left_out_words [] w words_apart h.1))
left_out_read k [] zero (c ∷ s) w fit h = absurd (omega (arith, fit))
left_out_read k [] (suc n) s w fit h = rw h.0 (word_read left_out_words s w words_apart h.1)
left_out_read k (t ∷ more) zero s w fit h = absurd (omega (arith, fit, held_fits k t s h.0 h.1))
left_out_read k (t ∷ more) (suc n) s w fit h =
    rw (h.1.2, logical_if_read k t s h.0 h.1) (left_out_read k more n h.0 w (omega (arith, fit, held_fits k t s h.0 h.1)) h.2)
