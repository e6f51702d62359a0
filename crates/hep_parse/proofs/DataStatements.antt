-- What is read as DATA is so by the grammar, and the other way round.
use Rattle.std.proofs.Common.{◌≡◌, ◌≢◌, inl, inr, ℕ, zero, suc, ◌<◌, ◌≤◌, Bool, true, false, List, [], ◌∷◌, ◌++◌, length, Option, Some, None, refl, sym, ap, subst, ◌∙◌, arith, length-append, append_assoc, nat_le, codes, ℤ, pos, negsuc, neg_ℤ}
use Rattle.std.proofs.lemmas.Bool.Decides.{nat_tests}
use Rattle.hep_source.specs.declared.name.Occurrence.{Occurrence}
use Rattle.hep_source.specs.declared.value.Value.TheVariants.{Int, Truth}
use Rattle.hep_source.specs.declared.operator.Sign.{Sign}
use Rattle.hep_source.specs.declared.operator.Sign.TheVariants.{Plus, Minus}
use Rattle.hep_source.specs.declared.declaration.Target.{Target}
use Rattle.hep_source.specs.declared.declaration.Repeat.{Repeat}
use Rattle.hep_source.specs.declared.declaration.Repeat.TheVariants.{Count, Named as RepeatName}
use Rattle.hep_source.specs.declared.declaration.DataConstant.{DataConstant}
use Rattle.hep_source.specs.declared.declaration.DataConstant.TheVariants.{Value as ConstantValue, Named as ConstantName}
use Rattle.hep_source.specs.declared.declaration.DataValue.{DataValue}
use Rattle.hep_source.specs.declared.declaration.DataGroup.{DataGroup}
use Rattle.hep_source.specs.declared.statement.Form.{Form}
use Rattle.hep_source.specs.declared.statement.Form.TheVariants as form
use Rattle.hep_expression.specs.declared.characters.Context.{Context}
use Rattle.hep_expression.specs.Characters.{is_digit, is_letter, IsName, name_sign, ReadsPlainOccurrence, IsDigits, IsInteger, logical_spelling}
use Rattle.hep_expression.specs.Reading.{◌>>=◌, if_some, after, plain_occurrence_at, integer_at, logical_at}
use Rattle.hep_expression.proofs.Leaves.{bind_some, either_some, chosen, after_is, one_is, shorter, place_fits, is_plain_place, is_constant}
use Rattle.hep_expression.proofs.Complete.{above, digit_from, letter_from, letter_is_no_digit, plain_place_read, digits_read}
use Rattle.hep_parse.specs.Lists.{AreListed}
use Rattle.hep_parse.specs.ReadingLists.{listed}
use Rattle.hep_parse.specs.Target.{ReadsTarget}
use Rattle.hep_parse.specs.Declaration.{optional_sign, signed_value, ReadsDataConstant, ReadsRepeat, ReadsDataValue, ReadsGroup, AreMoreGroups, AreGroups, signed_integer_at, data_constant_at, is_zero, count_at, repeat_at, data_value_at, group_at, data_statement}
use Rattle.hep_parse.specs.ReadingTarget.{target_at}
use Rattle.hep_parse.proofs.Lists.{IsSound, Shortens, IsComplete, listed_shortens, listed_sound, listed_complete}
use Rattle.hep_parse.proofs.Targets.{begins_name, place_begins, AfterName, target_shortens, target_sound, target_complete}
use Rattle.hep_parse.proofs.Headers.{carried, AfterWord, Any}
use Rattle.hep_parse.proofs.Ends.{AreToEnd, TakesSome, first_and_more_are, to_end_complete}
use Rattle.std.proofs.lemmas.Option.{none-some}
use Rattle.std.proofs.lemmas.Bool.{and_parts, leb-true}

-- ---- with which character a text begins

digit_is_no_letter : (c : ℕ) → is_digit c ≡ true → is_letter c ≡ false
digit_is_no_letter c h =
    let to : c ≤ 57 = leb-true c 57 (and_parts (nat_le 48 c) (nat_le c 57) h).1 in
    let under : nat_le 65 c ≡ false = grind (arith, nat_tests) in
    rw under refl

-- a name without `$` begins with a letter
plain_begins : (k : Context) (p : Occurrence) (s r : List ℕ) → ReadsPlainOccurrence k p s r → (c : ℕ) × (m : List ℕ) × (s ≡ c ∷ m) × (is_letter c ≡ true)
plain_begins k p s r h = go p.name.asynchronous h.1.0 h.0 h.1.1 h.1.2
  where
    go : (a : Bool) (w : List ℕ) → a ≡ false → IsName w → s ≡ name_sign a ++ (w ++ r) → (c : ℕ) × (m : List ℕ) × (s ≡ c ∷ m) × (is_letter c ≡ true)
    go true w q h e = absurd cc
    go false [] q h e = absurd h
    go false (c ∷ w) q h e = (c, w ++ r, e, h.0)

star_after : (d r : List ℕ) → (d ++ codes "*") ++ r ≡ d ++ 42 ∷ r
star_after d r = append_assoc d (codes "*") r

module _ (k : Context) where
  -- ---- constants

  constant_shortens : (x : DataConstant) (s r : List ℕ) → ReadsDataConstant k x s r → length r ≤ length s
  constant_shortens (ConstantValue (Int v)) s r h = omega (arith, ap length h.4, length-append (optional_sign h.0) (h.1 ++ r), length-append h.1 r)
  constant_shortens (ConstantValue (Truth b)) s r h = shorter (logical_spelling b) r s h
  constant_shortens (ConstantName p) s r h = omega (arith, place_fits k p s r h.1)

  signed_sound : (s : List ℕ) (x : ℤ × List ℕ) → signed_integer_at k s ≡ Some x → ReadsDataConstant k (ConstantValue (Int x.0)) s x.1
  signed_sound s x e = elim (either_some (after 45 s) (λ m. integer_at k m >>= λ y. Some (neg_ℤ y.0, y.1)) (if_some (after 43 s) (integer_at k) (integer_at k s)) x e) [
    | inl g ↦ (
        let b = bind_some _ _ x g.2 in
        let c = is_constant k g.0 b.0 b.1 in
        let is : s ≡ 45 ∷ (c.0 ++ b.0.1) = after_is 45 s g.0 g.1 ∙ ap (λ (l : List ℕ). 45 ∷ l) c.2 in
        carried (λ (y : ℤ × List ℕ). ReadsDataConstant k (ConstantValue (Int y.0)) s y.1) (neg_ℤ b.0.0, b.0.1) x b.2 (Some Minus, c.0, b.0.0, c.1, is, c.3, refl))
    | inr g ↦ (elim (either_some (after 43 s) (integer_at k) (integer_at k s) x g.1) [
      | inl j ↦ (
          let c = is_constant k j.0 x j.2 in
          let is : s ≡ 43 ∷ (c.0 ++ x.1) = after_is 43 s j.0 j.1 ∙ ap (λ (l : List ℕ). 43 ∷ l) c.2 in
          (Some Plus, c.0, x.0, c.1, is, c.3, refl))
      | inr j ↦ (
          let c = is_constant k s x j.1 in
          (None, c.0, x.0, c.1, c.2, c.3, refl))
    ])
  ]

  constant_sound : (s : List ℕ) (x : DataConstant × List ℕ) → length s ≤ k.length → data_constant_at k s ≡ Some x → ReadsDataConstant k x.0 s x.1
  constant_sound s x fit e = elim (either_some (logical_at s) (λ y. Some (ConstantValue (Truth y.0), y.1)) (if_some (plain_occurrence_at k s) (λ y. Some (ConstantName y.0, y.1)) (signed_integer_at k s >>= λ y. Some (ConstantValue (Int y.0), y.1))) x e) [
    | inl g ↦ carried (λ (y : DataConstant × List ℕ). ReadsDataConstant k y.0 s y.1) (ConstantValue (Truth g.0.0), g.0.1) x g.2 (one_is logical_spelling (λ (b : Bool). Unit {0}) (true ∷ false ∷ []) (tt, (tt, tt)) s g.0 g.1).0
    | inr g ↦ (elim (either_some (plain_occurrence_at k s) (λ y. Some (ConstantName y.0, y.1)) (signed_integer_at k s >>= λ y. Some (ConstantValue (Int y.0), y.1)) x g.1) [
      | inl j ↦ carried (λ (y : DataConstant × List ℕ). ReadsDataConstant k y.0 s y.1) (ConstantName j.0.0, j.0.1) x j.2 (is_plain_place k s j.0 fit j.1)
      | inr j ↦ (
          let b = bind_some _ _ x j.1 in
          carried (λ (y : DataConstant × List ℕ). ReadsDataConstant k y.0 s y.1) (ConstantValue (Int b.0.0), b.0.1) x b.2 (signed_sound s b.0 b.1))
    ])
  ]

  -- digits are neither a logical constant nor a name, and have no sign
  module _ (d r : List ℕ) (are : IsDigits d) where
    digits_no_logical : logical_at (d ++ r) ≡ None
    digits_no_logical = go d are
      where
        go : (d : List ℕ) → IsDigits d → logical_at (d ++ r) ≡ None
        go [] h = absurd h
        go (c ∷ d) h = let from : 48 ≤ c = digit_from c h.0 in rw (above c 46 (omega arith)) refl

    digits_no_name : plain_occurrence_at k (d ++ r) ≡ None
    digits_no_name = go d are
      where
        go : (d : List ℕ) → IsDigits d → plain_occurrence_at k (d ++ r) ≡ None
        go [] h = absurd h
        go (c ∷ d) h = rw (digit_is_no_letter c h.0) refl

    digits_no_sign : (g : ℕ) → g < 48 → after g (d ++ r) ≡ None
    digits_no_sign g lt = go d are
      where
        go : (d : List ℕ) → IsDigits d → after g (d ++ r) ≡ None
        go [] h = absurd h
        go (c ∷ d) h = let from : 48 ≤ c = digit_from c h.0 in rw (above c g (omega arith)) refl

  integer_read : (g : Option Sign) (d r : List ℕ) (u : ℤ) → IsDigits d → IsInteger k.sizes d u → AfterWord r → data_constant_at k (optional_sign g ++ (d ++ r)) ≡ Some (ConstantValue (Int (signed_value g u)), r)
  integer_read None d r u are is f =
      rw (digits_no_logical d r are, digits_no_name d r are, digits_no_sign d r are 45 (omega arith), digits_no_sign d r are 43 (omega arith), digits_read k d r u are is f) refl
  integer_read (Some Plus) d r u are is f = rw (digits_read k d r u are is f) refl
  integer_read (Some Minus) d r u are is f = rw (digits_read k d r u are is f) refl

  name_no_logical : (p : Occurrence) (s r : List ℕ) → ReadsPlainOccurrence k p s r → logical_at s ≡ None
  name_no_logical p s r h =
      let b = plain_begins k p s r h in
      let from : 65 ≤ b.0 = letter_from b.0 b.3 in
      rw (b.2, above b.0 46 (omega arith)) refl

  name_no_digits : (p : Occurrence) (s r : List ℕ) → ReadsPlainOccurrence k p s r → integer_at k s ≡ None
  name_no_digits p s r h =
      let b = plain_begins k p s r h in
      rw (b.2, letter_is_no_digit b.0 b.3) refl

  constant_complete : (x : DataConstant) (s r : List ℕ) → ReadsDataConstant k x s r → AfterWord r → data_constant_at k s ≡ Some (x, r)
  constant_complete (ConstantValue (Int v)) s r h f =
      ap (data_constant_at k) h.4 ∙ integer_read h.0 h.1 r h.2 h.3 h.5 f ∙ ap (λ (z : ℤ). Some (ConstantValue (Int z), r)) (sym h.6)
  constant_complete (ConstantValue (Truth true)) s r h f = rw h refl
  constant_complete (ConstantValue (Truth false)) s r h f = rw h refl
  constant_complete (ConstantName p) s r h f = rw (name_no_logical p s r h, plain_place_read k p s r h f) refl

  -- ---- repeat counts

  zero_is : (n : ℤ) → is_zero n ≡ false → n ≢ pos 0
  zero_is (pos zero) e = absurd cc
  zero_is (pos (suc n)) e = λ q. cc
  zero_is (negsuc n) e = λ q. cc

  zero_test : (n : ℤ) → n ≢ pos 0 → is_zero n ≡ false
  zero_test (pos zero) h = absurd (h refl)
  zero_test (pos (suc n)) h = refl
  zero_test (negsuc n) h = refl

  repeat_shortens : (o : Option Repeat) (s r : List ℕ) → ReadsRepeat k o s r → length r ≤ length s
  repeat_shortens None s r h = omega (arith, ap length h)
  repeat_shortens (Some (Count n)) s r h = omega (arith, ap length h.2, length-append h.0 (42 ∷ r), ap length (star_after h.0 r))
  repeat_shortens (Some (RepeatName p)) s r h = omega (arith, place_fits k p s (42 ∷ r) h.1)

  count_sound : (s : List ℕ) (x : Repeat × List ℕ) → count_at k s ≡ Some x → ReadsRepeat k (Some x.0) s x.1
  count_sound s x e =
      let b = bind_some _ _ x e in
      let c = bind_some _ _ x b.2 in
      let one = is_constant k s b.0 b.1 in
      let is = one.2 ∙ ap (λ (l : List ℕ). one.0 ++ l) (after_is 42 b.0.1 c.0 c.1) ∙ sym (star_after one.0 c.0) in
      elim (chosen (is_zero b.0.0) None (Some (Count b.0.0, c.0)) (Some x) c.2) [
        | inl d ↦ absurd (none-some x d.1)
        | inr d ↦ carried (λ (y : Repeat × List ℕ). ReadsRepeat k (Some y.0) s y.1) (Count b.0.0, c.0) x d.1 (one.0, one.1, is, one.3, zero_is b.0.0 d.0)
      ]

  repeat_sound : (s : List ℕ) (x : Repeat × List ℕ) → length s ≤ k.length → repeat_at k s ≡ Some x → ReadsRepeat k (Some x.0) s x.1
  repeat_sound s x fit e = elim (either_some (count_at k s) (λ y. Some y) (plain_occurrence_at k s >>= λ y. after 42 y.1 >>= λ r. Some (RepeatName y.0, r)) x e) [
    | inl g ↦ carried (λ (y : Repeat × List ℕ). ReadsRepeat k (Some y.0) s y.1) g.0 x g.2 (count_sound s g.0 g.1)
    | inr g ↦ (
        let b = bind_some _ _ x g.1 in
        let c = bind_some _ _ x b.2 in
        let one = subst (λ (m : List ℕ). ReadsPlainOccurrence k b.0.0 s m) (after_is 42 b.0.1 c.0 c.1) (is_plain_place k s b.0 fit b.1) in
        carried (λ (y : Repeat × List ℕ). ReadsRepeat k (Some y.0) s y.1) (RepeatName b.0.0, c.0) x c.2 one)
  ]

  repeat_complete : (x : Repeat) (s r : List ℕ) → ReadsRepeat k (Some x) s r → repeat_at k s ≡ Some (x, r)
  repeat_complete (Count n) s r h =
      let found : integer_at k s ≡ Some (n, 42 ∷ r) = ap (integer_at k) (h.2 ∙ star_after h.0 r) ∙ digits_read k h.0 (42 ∷ r) n h.1 h.3 refl in
      rw (found, zero_test n h.4) refl
  repeat_complete (RepeatName p) s r h = rw (name_no_digits p s (42 ∷ r) h, plain_place_read k p s (42 ∷ r) h refl) refl

  -- ---- values

  -- no `*` follows a value
  abbrev AfterValue : List ℕ → Type 0
  AfterValue r = AfterWord r × (after 42 r ≡ None)

  integer_no_repeat : (g : Option Sign) (d r : List ℕ) (u : ℤ) → IsDigits d → IsInteger k.sizes d u → AfterValue r → repeat_at k (optional_sign g ++ (d ++ r)) ≡ None
  integer_no_repeat None d r u are is f = rw (digits_read k d r u are is f.0, f.1, digits_no_name d r are) refl
  integer_no_repeat (Some Plus) d r u are is f = refl
  integer_no_repeat (Some Minus) d r u are is f = refl

  no_repeat : (x : DataConstant) (s r : List ℕ) → ReadsDataConstant k x s r → AfterValue r → repeat_at k s ≡ None
  no_repeat (ConstantValue (Int v)) s r h f = ap (repeat_at k) h.4 ∙ integer_no_repeat h.0 h.1 r h.2 h.3 h.5 f
  no_repeat (ConstantValue (Truth true)) s r h f = rw h refl
  no_repeat (ConstantValue (Truth false)) s r h f = rw h refl
  no_repeat (ConstantName p) s r h f = rw (name_no_digits p s r h, plain_place_read k p s r h f.0, f.1) refl

  value_shortens : Shortens (ReadsDataValue k)
  value_shortens x s r h = omega (arith, repeat_shortens x.repeat s h.0 h.1, constant_shortens x.constant h.0 r h.2)

  value_sound : IsSound k (ReadsDataValue k) (data_value_at k)
  unfolding data_value_at
  value_sound s x fit e = elim (either_some (repeat_at k s) (λ y. data_constant_at k y.1 >>= λ z. Some (record { repeat = Some y.0; constant = z.0 }, z.1)) (data_constant_at k s >>= λ z. Some (record { repeat = None; constant = z.0 }, z.1)) x e) [
    | inl g ↦ (
        let one = repeat_sound s g.0 fit g.1 in
        let b = bind_some (data_constant_at k g.0.1) (λ z. Some (record { repeat = Some g.0.0; constant = z.0 }, z.1)) x g.2 in
        let fit' : length g.0.1 ≤ k.length = omega (arith, repeat_shortens (Some g.0.0) s g.0.1 one) in
        carried (λ (y : DataValue × List ℕ). ReadsDataValue k y.0 s y.1) (record { repeat = Some g.0.0; constant = b.0.0 }, b.0.1) x b.2 (g.0.1, one, constant_sound g.0.1 b.0 fit' b.1))
    | inr g ↦ (
        let b = bind_some _ _ x g.1 in
        carried (λ (y : DataValue × List ℕ). ReadsDataValue k y.0 s y.1) (record { repeat = None; constant = b.0.0 }, b.0.1) x b.2 (s, refl, constant_sound s b.0 fit b.1))
  ]

  value_read : (o : Option Repeat) (x : DataConstant) (s m r : List ℕ) → ReadsRepeat k o s m → ReadsDataConstant k x m r → AfterValue r → data_value_at k s ≡ Some (record { repeat = o; constant = x }, r)
  unfolding data_value_at
  value_read None x s m r e h f = ap (data_value_at k) e ∙ rw (no_repeat x m r h f, constant_complete x m r h f.0) refl
  value_read (Some y) x s m r g h f = rw (repeat_complete y s m g, constant_complete x m r h f.0) refl

  value_complete : IsComplete (ReadsDataValue k) (data_value_at k) AfterValue
  value_complete x s r h f = value_read x.repeat x.constant s h.0 r h.1 h.2 f

  -- ---- groups

  group_takes : TakesSome (ReadsGroup k)
  group_takes x s r h = omega (arith, listed_shortens (ReadsTarget k) (target_shortens k) x.targets s (47 ∷ h.0) h.1, listed_shortens (ReadsDataValue k) value_shortens x.values h.0 (47 ∷ r) h.2)

  group_sound : IsSound k (ReadsGroup k) (group_at k)
  unfolding group_at
  group_sound s x fit e =
      let b = bind_some (listed (target_at k) s) (λ t. after 47 t.1 >>= λ m. listed (data_value_at k) m >>= λ y. after 47 y.1 >>= λ r. Some (record { targets = t.0; values = y.0 }, r)) x e in
      let c = bind_some (after 47 b.0.1) (λ m. listed (data_value_at k) m >>= λ y. after 47 y.1 >>= λ r. Some (record { targets = b.0.0; values = y.0 }, r)) x b.2 in
      let d = bind_some (listed (data_value_at k) c.0) (λ y. after 47 y.1 >>= λ r. Some (record { targets = b.0.0; values = y.0 }, r)) x c.2 in
      let l = bind_some (after 47 d.0.1) (λ r. Some (record { targets = b.0.0; values = d.0.0 }, r)) x d.2 in
      let one = subst (λ (m : List ℕ). AreListed (ReadsTarget k) b.0.0 s m) (after_is 47 b.0.1 c.0 c.1) (listed_sound (ReadsTarget k) (target_shortens k) k (target_at k) (target_sound k) s b.0 fit b.1) in
      let fit' : length c.0 ≤ k.length = omega (arith, listed_shortens (ReadsTarget k) (target_shortens k) b.0.0 s (47 ∷ c.0) one) in
      let two = subst (λ (m : List ℕ). AreListed (ReadsDataValue k) d.0.0 c.0 m) (after_is 47 d.0.1 l.0 l.1) (listed_sound (ReadsDataValue k) value_shortens k (data_value_at k) value_sound c.0 d.0 fit' d.1) in
      carried (λ (y : DataGroup × List ℕ). ReadsGroup k y.0 s y.1) (record { targets = b.0.0; values = d.0.0 }, l.0) x l.2 (c.0, one, two)

  group_complete : IsComplete (ReadsGroup k) (group_at k) Any
  unfolding group_at
  group_complete x s r h f =
      let one = listed_complete (ReadsTarget k) (target_shortens k) (target_at k) AfterName (target_complete k) (λ m. (refl, refl)) x.targets s (47 ∷ h.0) h.1 (refl, refl) refl in
      let two = listed_complete (ReadsDataValue k) value_shortens (data_value_at k) AfterValue value_complete (λ m. (refl, refl)) x.values h.0 (47 ∷ r) h.2 (refl, refl) refl in
      rw (one, two) refl

  -- a group begins with a name
  group_opens : (x : DataGroup) (m r : List ℕ) → ReadsGroup k x (44 ∷ m) r → ⊥
  group_opens x m r h = go x.targets h.1
    where
      go : (xs : List Target) → AreListed (ReadsTarget k) xs (44 ∷ m) (47 ∷ h.0) → ⊥
      go [] g = g
      go (y ∷ ys) g = let no : begins_name 44 ≡ true = place_begins k y.occurrence 44 m g.1.0 g.1.1 in absurd cc

  more_are : (xs : List DataGroup) (s : List ℕ) → AreToEnd (ReadsGroup k) xs s → AreMoreGroups k xs s
  more_are [] s h = h
  more_are (x ∷ xs) s h = (h.0, h.1, h.2, h.3, more_are xs h.1 h.4)

  to_end_are : (xs : List DataGroup) (s : List ℕ) → AreMoreGroups k xs s → AreToEnd (ReadsGroup k) xs s
  to_end_are [] s h = h
  to_end_are (x ∷ xs) s h = (h.0, h.1, h.2, h.3, to_end_are xs h.1 h.4)

  nothing_read : group_at k [] ≡ None
  unfolding group_at listed target_at
  nothing_read = refl

  -- ---- DATA

  pub data_statement_is : (m : List ℕ) (f : Form) → length m ≤ k.length → data_statement k m ≡ Some f → (xs : List DataGroup) × (form.Data xs ≡ f) × AreGroups k xs m
  unfolding data_statement
  data_statement_is m f fit e =
      let w = first_and_more_are (ReadsGroup k) group_takes k (group_at k) group_sound form.Data (group_at k m) f
      (λ x g. omega (arith, group_takes x.0 m x.1 (group_sound m x fit g))) e in
      (w.0.0 ∷ w.1, w.3, (w.0.1, group_sound m w.0 fit w.2, more_are w.1 w.0.1 w.4))

  pub data_statement_read : (xs : List DataGroup) (m : List ℕ) → AreGroups k xs m → data_statement k m ≡ Some (form.Data xs)
  unfolding data_statement
  data_statement_read [] m h = absurd h
  data_statement_read (x ∷ xs) m h =
      let one = group_complete x m h.0 h.1 tt in
      let two = to_end_complete (ReadsGroup k) group_takes (group_at k) Any group_complete (λ xs s h. tt) nothing_read group_opens x xs h.0 (to_end_are xs h.0 h.2) in
      rw (one, two) refl
