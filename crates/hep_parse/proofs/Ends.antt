-- What is read as parts up to the end of a text is so, and the other way round.
use Rattle.std.proofs.Common.{◌≡◌, inl, inr, ℕ, zero, suc, ◌+◌, ◌≤◌, List, [], ◌∷◌, length, Option, Some, None, refl, sym, ap, subst, ◌∙◌, arith}
use Rattle.hep_expression.specs.declared.characters.Context.{Context}
use Rattle.hep_expression.specs.Reading.{Reader, ◌>>=◌, all_read, after}
use Rattle.hep_expression.proofs.Leaves.{bind_some, either_some, after_is}
use Rattle.hep_parse.specs.Lists.{IsOptionalComma}
use Rattle.hep_parse.specs.ReadingLists.{after_optional_comma}
use Rattle.hep_parse.specs.Declaration.{parts_to_end, up_to_end}
use Rattle.hep_parse.proofs.Lists.{IsSound, IsComplete}
use Rattle.std.proofs.lemmas.Option.{same_Some, none-some}

-- ---- a comma that may be missing

optional_comma : (o : Option (List ℕ)) (s : List ℕ) → after 44 s ≡ o → IsOptionalComma s (elim o [ None ↦ s | Some m ↦ m ])
optional_comma None s e = inl refl
optional_comma (Some m) s e = inr (after_is 44 s m e)

pub comma_shortens : (s m : List ℕ) → IsOptionalComma s m → length m ≤ length s
comma_shortens s m h = elim h [ inl e ↦ omega (arith, ap length e) | inr e ↦ omega (arith, ap length e) ]

module _ {A : Type 0} (P : A → List ℕ → List ℕ → Type 0) where
  -- the whole text is these parts, each after a comma that may be missing
  abbrev pub AreToEnd : List A → List ℕ → Type 0
  AreToEnd [] s = s ≡ []
  AreToEnd (x ∷ more) s = (m : List ℕ) × (r : List ℕ) × IsOptionalComma s m × P x m r × AreToEnd more r

  -- each part has a character at least
  abbrev pub TakesSome : Type 0
  TakesSome = (x : A) (s r : List ℕ) → P x s r → 1 + length r ≤ length s

  module _ (some : TakesSome) where
    end_fits : (xs : List A) (s : List ℕ) → AreToEnd xs s → length xs ≤ length s
    end_fits [] s h = omega (arith, ap length h)
    end_fits (x ∷ xs) s h = omega (arith, comma_shortens s h.0 h.2, some x h.0 h.1 h.3, end_fits xs h.1 h.4)

    -- ---- what is read is so

    module _ (k : Context) (next : Reader A) (sound : IsSound k P next) where
      nothing_is : (s : List ℕ) (xs : List A) → all_read [] s ≡ Some xs → AreToEnd xs s
      nothing_is [] xs e = subst (λ (z : List A). AreToEnd z []) (same_Some [] xs e) refl
      nothing_is (c ∷ s) xs e = absurd (none-some xs e)

      parts_sound : (n : ℕ) (s : List ℕ) (xs : List A) → length s ≤ k.length → parts_to_end next n s ≡ Some xs → AreToEnd xs s
      unfolding parts_to_end
      parts_sound zero s xs fit e = nothing_is s xs e
      parts_sound (suc n) s xs fit e = elim (either_some (next (after_optional_comma s)) (λ x. parts_to_end next n x.1 >>= λ more. Some (x.0 ∷ more)) (all_read [] s) xs e) [
        | inl g ↦ (
            let comma = optional_comma (after 44 s) s refl in
            let fit' : length (after_optional_comma s) ≤ k.length = omega (arith, comma_shortens s (after_optional_comma s) comma) in
            let one = sound (after_optional_comma s) g.0 fit' g.1 in
            let b = bind_some (parts_to_end next n g.0.1) (λ more. Some (g.0.0 ∷ more)) xs g.2 in
            let fit2 : length g.0.1 ≤ k.length = omega (arith, some g.0.0 (after_optional_comma s) g.0.1 one) in
            subst (λ (z : List A). AreToEnd z s) (same_Some (g.0.0 ∷ b.0) xs b.2) (after_optional_comma s, g.0.1, comma, one, parts_sound n g.0.1 b.0 fit2 b.1))
        | inr g ↦ nothing_is s xs g.1
      ]

      to_end_sound : (x : A) (s : List ℕ) (ys : List A) → length s ≤ k.length → up_to_end next x s ≡ Some ys → (xs : List A) × (ys ≡ x ∷ xs) × AreToEnd xs s
      to_end_sound x s ys fit e =
          let b = bind_some _ _ ys e in
          (b.0, sym (same_Some (x ∷ b.0) ys b.2), parts_sound (length s) s b.0 fit b.1)

      -- a first part, and the others
      pub first_and_more_are : {B : Type 0} (make : List A → B) (first : Option (A × List ℕ)) (y : B) → ((x : A × List ℕ) → first ≡ Some x → length x.1 ≤ k.length) → (first >>= λ x. up_to_end next x.0 x.1 >>= λ xs. Some (make xs)) ≡ Some y
          → (x : A × List ℕ) × (xs : List A) × (first ≡ Some x) × (make (x.0 ∷ xs) ≡ y) × AreToEnd xs x.1
      first_and_more_are make first y fit e =
          let b = bind_some _ _ y e in
          let c = bind_some _ _ y b.2 in
          let two = to_end_sound b.0.0 b.0.1 c.0 (fit b.0 b.1) c.1 in
          (b.0, two.0, b.1, ap make (sym two.1) ∙ same_Some (make c.0) y c.2, two.2)

    -- ---- what is so is read

    module _ (next : Reader A) (Follows : List ℕ → Type 0) (complete : IsComplete P next Follows) (follows : (xs : List A) (s : List ℕ) → AreToEnd xs s → Follows s) (nothing : next [] ≡ None) (opens : (x : A) (m r : List ℕ) → P x (44 ∷ m) r → ⊥) where
      no_comma : (x : A) (s r : List ℕ) → P x s r → after 44 s ≡ None
      no_comma x s r h = go (after 44 s) refl
        where
          go : (o : Option (List ℕ)) → after 44 s ≡ o → after 44 s ≡ None
          go None e = e
          go (Some m) e = absurd (opens x m r (subst (λ (l : List ℕ). P x l r) (after_is 44 s m e) h))

      part_after_comma_is : (x : A) (s m r : List ℕ) → IsOptionalComma s m → P x m r → after_optional_comma s ≡ m
      part_after_comma_is x s m r (inl e) h = ap after_optional_comma e ∙ ap (λ (o : Option (List ℕ)). elim o [ None ↦ m | Some l ↦ l ]) (no_comma x m r h)
      part_after_comma_is x s m r (inr e) h = rw e refl

      parts_complete : (n : ℕ) (xs : List A) (s : List ℕ) → length xs ≤ n → AreToEnd xs s → parts_to_end next n s ≡ Some xs
      unfolding parts_to_end
      parts_complete zero [] s le h = rw h refl
      parts_complete (suc n) [] s le h = rw (h, nothing) refl
      parts_complete zero (x ∷ xs) s le h = absurd (omega (arith, le))
      parts_complete (suc n) (x ∷ xs) s le h =
          let one : next h.0 ≡ Some (x, h.1) = complete x h.0 h.1 h.3 (follows xs h.1 h.4) in
          let more = parts_complete n xs h.1 (omega (arith, le)) h.4 in
          rw (part_after_comma_is x s h.0 h.1 h.2 h.3, one, more) refl

      pub to_end_complete : (x : A) (xs : List A) (s : List ℕ) → AreToEnd xs s → up_to_end next x s ≡ Some (x ∷ xs)
      to_end_complete x xs s h = rw (parts_complete (length s) xs s (end_fits xs s h) h) refl
