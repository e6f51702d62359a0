-- Labels and character constants: what is read is so by the grammar, and the other way round.
use Rattle.std.proofs.Common.{◌≡◌, ◌≢◌, inl, inr, ℕ, zero, suc, ◌<◌, ◌≤◌, Bool, true, false, List, [], ◌∷◌, ◌++◌, length, Option, Some, None, refl, sym, ap, subst, ◌∙◌, arith, length-append, nat_eq, nat_le, ◌&&◌, if◌then◌else◌}
use Rattle.std.proofs.lemmas.Bool.{eqb-true, and_parts, leb-true, le-leb}
use Rattle.std.proofs.lemmas.Bool.Decides.{nat_tests}
use Rattle.hep_expression.specs.declared.characters.Context.{Context}
use Rattle.hep_expression.specs.Characters.{is_digit, IsDigits, number_of_digits}
use Rattle.hep_expression.specs.Reading.{◌>>=◌, begins, front, rest_after, after}
use Rattle.hep_expression.proofs.Leaves.{bind_some, either_some, chosen, after_is, front_splits, front_row, digits_are}
use Rattle.hep_parse.specs.Lists.{IsOptionalComma}
use Rattle.hep_expression.specs.Label.{ReadsLabel}
use Rattle.hep_parse.specs.Constant.{quoted}
use Rattle.hep_parse.specs.ReadingLists.{with_part, after_optional_comma}
use Rattle.hep_expression.specs.ReadingLabel.{few_digits_at, not_zero, label_at, label_part}
use Rattle.hep_parse.specs.ReadingConstant.{character_at, characters, some_characters, constant_after}
use Rattle.hep_parse.proofs.Lists.{IsSound, Shortens, IsComplete}
use Rattle.std.proofs.lemmas.Option.{same_Some, none-some}

-- ---- the end of a text, and a comma that may be missing

pub comma_is : (s : List ℕ) → IsOptionalComma s (after_optional_comma s)
comma_is s = go (after 44 s) refl
  where
    go : (o : Option (List ℕ)) → after 44 s ≡ o → IsOptionalComma s (elim o [ None ↦ s | Some m ↦ m ])
    go None e = inl refl
    go (Some m) e = inr (after_is 44 s m e)

pub comma_read : (s r : List ℕ) → IsOptionalComma s r → after 44 r ≡ None → after_optional_comma s ≡ r
comma_read s r (inl e) none = ap after_optional_comma e ∙ ap (λ (o : Option (List ℕ)). elim o [ None ↦ r | Some m ↦ m ]) none
comma_read s r (inr e) none = rw e refl

-- ---- labels

pub few_are : (s : List ℕ) (x : ℕ × List ℕ) → few_digits_at s ≡ Some x → (d : List ℕ) × IsDigits d × (length d ≤ 5) × (s ≡ d ++ x.1) × (x.0 ≡ number_of_digits d)
few_are s x e = elim (chosen (begins is_digit s && nat_le (length (front is_digit s)) 5) (Some (number_of_digits (front is_digit s), rest_after is_digit s)) None (Some x) e) [
  | inl h ↦ (
      let b = and_parts (begins is_digit s) (nat_le (length (front is_digit s)) 5) h.0 in
      subst (λ (y : ℕ × List ℕ). (d : List ℕ) × IsDigits d × (length d ≤ 5) × (s ≡ d ++ y.1) × (y.0 ≡ number_of_digits d)) (same_Some (number_of_digits (front is_digit s), rest_after is_digit s) x h.1)
      (front is_digit s, digits_are s b.0, leb-true (length (front is_digit s)) 5 b.1, (front_splits is_digit s).1, refl))
  | inr h ↦ absurd (none-some x h.1)
]

-- no digit comes next
abbrev pub AfterDigits : List ℕ → Type 0
AfterDigits r = begins is_digit r ≡ false

pub few_read : (d r : List ℕ) → IsDigits d → length d ≤ 5 → AfterDigits r → few_digits_at (d ++ r) ≡ Some (number_of_digits d, r)
few_read [] r h le q = absurd h
few_read (c ∷ d) r h le q =
    let row = front_row is_digit d r h.1 q in
    rw (h.0, row.0, row.1, le-leb (length (c ∷ d)) 5 le) refl

is_not_zero : (n : ℕ) → nat_eq n 0 ≡ false → n ≢ 0
is_not_zero n e h = grind (arith, nat_tests)

not_zero_test : (n : ℕ) → n ≢ 0 → nat_eq n 0 ≡ false
not_zero_test n h = grind (arith, nat_tests)

pub label_is : (s : List ℕ) (x : ℕ × List ℕ) → label_at s ≡ Some x → ReadsLabel x.0 s x.1
label_is s x e =
    let b = bind_some _ _ x e in
    let f = few_are s b.0 b.1 in
    elim (chosen (nat_eq b.0.0 0) None (Some b.0) (Some x) b.2) [
      | inl h ↦ absurd (none-some x h.1)
      | inr h ↦ subst (λ (y : ℕ × List ℕ). ReadsLabel y.0 s y.1) (same_Some b.0 x h.1) (f.0, f.1, f.2, f.3, f.4, is_not_zero b.0.0 h.0)
    ]

pub label_read : (x : ℕ) (s r : List ℕ) → ReadsLabel x s r → AfterDigits r → label_at s ≡ Some (x, r)
label_read x s r h q =
    let found : few_digits_at s ≡ Some (number_of_digits h.0, r) = ap few_digits_at h.3 ∙ few_read h.0 r h.1 h.2 q in
    let same : few_digits_at s ≡ Some (x, r) = found ∙ ap (λ (n : ℕ). Some (n, r)) (sym h.4) in
    ap (λ (o : Option (ℕ × List ℕ)). o >>= not_zero) same ∙ rw (not_zero_test x h.5) refl

digits_shorten : (d s r : List ℕ) → s ≡ d ++ r → length r ≤ length s
digits_shorten d s r e = omega (arith, ap length e, length-append d r)

pub label_shortens : Shortens ReadsLabel
label_shortens x s r h = digits_shorten h.0 s r h.3

pub label_sound : (k : Context) → IsSound k ReadsLabel (label_part k)
label_sound k s x fit e = label_is s x e

pub label_complete : (k : Context) → IsComplete ReadsLabel (label_part k) AfterDigits
label_complete k x s r h q = label_read x s r h q

-- ---- character constants

character_is : (s : List ℕ) (x : ℕ × List ℕ) (t r : List ℕ) → character_at s ≡ Some x → x.1 ≡ quoted t ++ 39 ∷ r → s ≡ quoted (x.0 ∷ t) ++ 39 ∷ r
character_is [] x t r e h = absurd (none-some x e)
character_is (c ∷ s) x t r e h = elim (chosen (nat_eq c 39) (after 39 s >>= λ r. Some (39, r)) (Some (c, s)) (Some x) e) [
  | inl g ↦ (
      let b = bind_some _ _ x g.1 in
      let is_x : (39, b.0) ≡ x = same_Some (39, b.0) x b.2 in
      let rest : b.0 ≡ quoted t ++ 39 ∷ r = ap (λ (y : ℕ × List ℕ). y.1) is_x ∙ h in
      let is_c : c ≡ 39 = eqb-true c 39 g.0 in
      let is_s : s ≡ 39 ∷ (quoted t ++ 39 ∷ r) = after_is 39 s b.0 b.1 ∙ ap (λ (l : List ℕ). 39 ∷ l) rest in
      subst (λ (y : ℕ × List ℕ). c ∷ s ≡ quoted (y.0 ∷ t) ++ 39 ∷ r) is_x (rw (is_c, is_s) refl))
  | inr g ↦ (
      let is_x : (c, s) ≡ x = same_Some (c, s) x g.1 in
      let is_s : s ≡ quoted t ++ 39 ∷ r = ap (λ (y : ℕ × List ℕ). y.1) is_x ∙ h in
      subst (λ (y : ℕ × List ℕ). c ∷ s ≡ quoted (y.0 ∷ t) ++ 39 ∷ r) is_x (rw (g.0, is_s) refl))
]

characters_are : (n : ℕ) (s : List ℕ) (x : List ℕ × List ℕ) → characters n s ≡ Some x → s ≡ quoted x.0 ++ 39 ∷ x.1
unfolding characters
characters_are zero s x e = absurd (none-some x e)
characters_are (suc n) s x e = elim (either_some (character_at s) (λ y. with_part y.0 (characters n y.1)) (after 39 s >>= λ r. Some ([], r)) x e) [
  | inl g ↦ (
      let b = bind_some _ _ x g.2 in
      let rest = characters_are n g.0.1 b.0 b.1 in
      subst (λ (y : List ℕ × List ℕ). s ≡ quoted y.0 ++ 39 ∷ y.1) (same_Some (g.0.0 ∷ b.0.0, b.0.1) x b.2) (character_is s g.0 b.0.0 b.0.1 g.1 rest))
  | inr g ↦ (
      let b = bind_some _ _ x g.1 in
      subst (λ (y : List ℕ × List ℕ). s ≡ quoted y.0 ++ 39 ∷ y.1) (same_Some ([], b.0) x b.2) (after_is 39 s b.0 b.1))
]

character_found : (c : ℕ) (t r : List ℕ) → character_at (quoted (c ∷ t) ++ 39 ∷ r) ≡ Some (c, quoted t ++ 39 ∷ r)
character_found c t r = go (nat_eq c 39) refl
  where
    go : (b : Bool) → nat_eq c 39 ≡ b → character_at (quoted (c ∷ t) ++ 39 ∷ r) ≡ Some (c, quoted t ++ 39 ∷ r)
    go true e = rw e (ap (λ (d : ℕ). Some (d, quoted t ++ 39 ∷ r)) (sym (eqb-true c 39 e)))
    go false e = rw (e, e) refl

characters_found : (n : ℕ) (t r : List ℕ) → length t < n → after 39 r ≡ None → characters n (quoted t ++ 39 ∷ r) ≡ Some (t, r)
unfolding characters
characters_found zero t r lt f = absurd (omega arith)
characters_found (suc n) [] r lt f = rw f refl
characters_found (suc n) (c ∷ t) r lt f = rw (character_found c t r, characters_found n t r (omega arith) f) refl

quoted_long : (t : List ℕ) → length t ≤ length (quoted t)
quoted_long [] = omega arith
quoted_long (c ∷ t) = go (nat_eq c 39) (quoted_long t)
  where
    go : (b : Bool) → length t ≤ length (quoted t) → suc (length t) ≤ length (if b then 39 ∷ 39 ∷ quoted t else c ∷ quoted t)
    go true h = omega arith
    go false h = omega arith

-- a constant after its first apostrophe
pub constant_is : (s : List ℕ) (x : List ℕ × List ℕ) → constant_after s ≡ Some x → (x.0 ≢ []) × (s ≡ quoted x.0 ++ 39 ∷ x.1)
unfolding constant_after
constant_is s x e =
    let b = bind_some _ _ x e in
    some b.0.0 b.0.1 (characters_are (length s) s b.0 b.1) b.2
  where
    some : (t r : List ℕ) → s ≡ quoted t ++ 39 ∷ r → some_characters (t, r) ≡ Some x → (x.0 ≢ []) × (s ≡ quoted x.0 ++ 39 ∷ x.1)
    some [] r h e = absurd (none-some x e)
    some (c ∷ t) r h e = subst (λ (y : List ℕ × List ℕ). (y.0 ≢ []) × (s ≡ quoted y.0 ++ 39 ∷ y.1)) (same_Some (c ∷ t, r) x e) ((λ n. cc), h)

pub constant_read : (t r : List ℕ) → t ≢ [] → after 39 r ≡ None → constant_after (quoted t ++ 39 ∷ r) ≡ Some (t, r)
unfolding constant_after
constant_read [] r some f = absurd (some refl)
constant_read (c ∷ t) r some f =
    let m = quoted (c ∷ t) ++ 39 ∷ r in
    let long : length (c ∷ t) < length m = omega (arith, quoted_long (c ∷ t), length-append (quoted (c ∷ t)) (39 ∷ r)) in
    let found : characters (length m) m ≡ Some (c ∷ t, r) = characters_found (length m) (c ∷ t) r long f in
    rw found refl
