-- What is read as parts in a row is so by the grammar, and the other way round.
use Rattle.std.proofs.Common.{◌≡◌, inl, inr, ℕ, zero, suc, ◌+◌, ◌≤◌, List, [], ◌∷◌, length, Option, Some, None, refl, sym, ap, subst, ◌∙◌, arith}
use Rattle.hep_expression.specs.declared.characters.Context.{Context}
use Rattle.hep_expression.specs.Reading.{Reader, all_read, after}
use Rattle.hep_expression.proofs.Leaves.{bind_some, either_some, after_is}
use Rattle.hep_parse.specs.Lists.{AreAfter, AreListed, AreEnclosed, AreOptional, AreArguments, AreParenthesized}
use Rattle.hep_parse.specs.ReadingLists.{part_after_comma, with_part, parts_after, listed, closed, enclosed, optional, whole, arguments_within, arguments, parenthesized}
use Rattle.std.proofs.lemmas.Option.{same_Some, none-some}

-- ---- whole texts

pub all_is : {A : Type 0} (x : A) (r : List ℕ) (y : A) → all_read x r ≡ Some y → (r ≡ []) × (x ≡ y)
all_is x [] y e = (refl, same_Some x y e)
all_is x (c ∷ r) y e = absurd (none-some y e)

pub whole_is : {A B : Type 0} (f : A → B) (o : Option (A × List ℕ)) (y : B) → whole f o ≡ Some y → (x : A) × (o ≡ Some (x, [])) × (f x ≡ y)
whole_is f o y e =
    let b = bind_some _ _ y e in
    let a = all_is (f b.0.0) b.0.1 y b.2 in
    (b.0.0, b.1 ∙ ap (λ (r : List ℕ). Some (b.0.0, r)) a.0, a.1)

module _ {A : Type 0} where
  -- what a reader reads of the rest of a statement's text is so
  abbrev pub IsSound : Context → (A → List ℕ → List ℕ → Type 0) → Reader A → Type 0
  IsSound k P next = (s : List ℕ) (x : A × List ℕ) → length s ≤ k.length → next s ≡ Some x → P x.0 s x.1

  abbrev pub Shortens : (A → List ℕ → List ℕ → Type 0) → Type 0
  Shortens P = (x : A) (s r : List ℕ) → P x s r → length r ≤ length s

  -- what is so is read, where such a text follows
  abbrev pub IsComplete : (A → List ℕ → List ℕ → Type 0) → Reader A → (List ℕ → Type 0) → Type 0
  IsComplete P next Follows = (x : A) (s r : List ℕ) → P x s r → Follows r → next s ≡ Some (x, r)

  module _ (P : A → List ℕ → List ℕ → Type 0) (shorter : Shortens P) where
    -- ---- how long a text is

    after_fits : (xs : List A) (s r : List ℕ) → AreAfter P xs s r → length xs + length r ≤ length s
    after_fits [] s r h = omega (arith, ap length h)
    after_fits (x ∷ xs) s r h = omega (arith, ap length h.2, shorter x h.0 h.1 h.3, after_fits xs h.1 r h.4)

    pub listed_shortens : (xs : List A) (s r : List ℕ) → AreListed P xs s r → length r ≤ length s
    listed_shortens [] s r h = absurd h
    listed_shortens (x ∷ xs) s r h = omega (arith, shorter x s h.0 h.1, after_fits xs h.0 r h.2)

    pub enclosed_shortens : (xs : List A) (s r : List ℕ) → AreEnclosed P xs s r → length r ≤ length s
    enclosed_shortens xs s r h = omega (arith, ap length h.1, listed_shortens xs h.0 (41 ∷ r) h.2)

    pub optional_shortens : (xs : List A) (s r : List ℕ) → AreOptional P xs s r → length r ≤ length s
    optional_shortens [] s r h = omega (arith, ap length h)
    optional_shortens (x ∷ xs) s r h = enclosed_shortens (x ∷ xs) s r h

    -- ---- what is read is so

    module _ (k : Context) (next : Reader A) (sound : IsSound k P next) where
      after_sound : (n : ℕ) (s : List ℕ) (y : List A × List ℕ) → length s ≤ k.length → parts_after next n s ≡ Some y → AreAfter P y.0 s y.1
      unfolding parts_after
      after_sound zero s y fit e = subst (λ (z : List A × List ℕ). AreAfter P z.0 s z.1) (same_Some ([], s) y e) refl
      after_sound (suc n) s y fit e = elim (either_some (part_after_comma next s) (λ x. with_part x.0 (parts_after next n x.1)) (Some ([], s)) y e) [
        | inl g ↦ (
            let x = g.0 in
            let b = bind_some _ _ x g.1 in
            let is = after_is 44 s b.0 b.1 in
            let fit' : length b.0 ≤ k.length = omega (arith, ap length is) in
            let one = sound b.0 x fit' b.2 in
            let c = bind_some (parts_after next n x.1) (λ z. Some (x.0 ∷ z.0, z.1)) y g.2 in
            let fit2 : length x.1 ≤ k.length = omega (arith, shorter x.0 b.0 x.1 one) in
            subst (λ (z : List A × List ℕ). AreAfter P z.0 s z.1) (same_Some (x.0 ∷ c.0.0, c.0.1) y c.2) (b.0, x.1, is, one, after_sound n x.1 c.0 fit2 c.1))
        | inr g ↦ subst (λ (z : List A × List ℕ). AreAfter P z.0 s z.1) (same_Some ([], s) y g.1) refl
      ]

      pub listed_sound : (s : List ℕ) (y : List A × List ℕ) → length s ≤ k.length → listed next s ≡ Some y → AreListed P y.0 s y.1
      unfolding listed
      listed_sound s y fit e =
          let b = bind_some _ _ y e in
          let x = b.0 in
          let one = sound s x fit b.1 in
          let c = bind_some (parts_after next (length s) x.1) (λ z. Some (x.0 ∷ z.0, z.1)) y b.2 in
          let fit2 : length x.1 ≤ k.length = omega (arith, shorter x.0 s x.1 one) in
          subst (λ (z : List A × List ℕ). AreListed P z.0 s z.1) (same_Some (x.0 ∷ c.0.0, c.0.1) y c.2) (x.1, one, after_sound (length s) x.1 c.0 fit2 c.1)

      pub closed_sound : (s : List ℕ) (y : List A × List ℕ) → length s ≤ k.length → closed next s ≡ Some y → AreListed P y.0 s (41 ∷ y.1)
      unfolding closed
      closed_sound s y fit e =
          let b = bind_some _ _ y e in
          let c = bind_some _ _ y b.2 in
          let one = subst (λ (m : List ℕ). AreListed P b.0.0 s m) (after_is 41 b.0.1 c.0 c.1) (listed_sound s b.0 fit b.1) in
          subst (λ (z : List A × List ℕ). AreListed P z.0 s (41 ∷ z.1)) (same_Some (b.0.0, c.0) y c.2) one

      pub enclosed_sound : (s : List ℕ) (y : List A × List ℕ) → length s ≤ k.length → enclosed next s ≡ Some y → AreEnclosed P y.0 s y.1
      unfolding enclosed
      enclosed_sound s y fit e =
          let b = bind_some _ _ y e in
          let is = after_is 40 s b.0 b.1 in
          (b.0, is, closed_sound b.0 y (omega (arith, ap length is)) b.2)

      some_enclosed : (xs : List A) (s r : List ℕ) → AreEnclosed P xs s r → AreOptional P xs s r
      some_enclosed [] s r h = absurd h.2
      some_enclosed (x ∷ xs) s r h = h

      pub optional_sound : (s : List ℕ) (y : List A × List ℕ) → length s ≤ k.length → optional next s ≡ Some y → AreOptional P y.0 s y.1
      unfolding optional
      optional_sound s y fit e = go (after 40 s) refl e
        where
          go : (o : Option (List ℕ)) → after 40 s ≡ o → (elim o [ None ↦ Some ([], s) | Some m ↦ closed next m ]) ≡ Some y → AreOptional P y.0 s y.1
          go None q e = subst (λ (z : List A × List ℕ). AreOptional P z.0 s z.1) (same_Some ([], s) y e) refl
          go (Some m) q e =
              let is = after_is 40 s m q in
              some_enclosed y.0 s y.1 (m, is, closed_sound m y (omega (arith, ap length is)) e)

      some_arguments : (xs : List A) (s : List ℕ) → AreEnclosed P xs s [] → AreArguments P xs s
      some_arguments [] s h = absurd h.2
      some_arguments (x ∷ xs) s h = h

      pub arguments_sound : (s : List ℕ) (ys : List A) → length s ≤ k.length → arguments next s ≡ Some ys → AreArguments P ys s
      unfolding arguments arguments_within
      arguments_sound s ys fit e = go (after 40 s) refl e
        where
          within : (m : List ℕ) → s ≡ 40 ∷ m → arguments_within next m ≡ Some ys → AreArguments P ys s
          within m is e = elim (either_some (after 41 m) (λ r. all_read [] r) (whole (λ xs. xs) (closed next m)) ys e) [
            | inl g ↦ (
                let a = all_is [] g.0 ys g.2 in
                subst (λ (z : List A). AreArguments P z s) a.1 (inr (is ∙ ap (λ (l : List ℕ). 40 ∷ l) (after_is 41 m g.0 g.1 ∙ ap (λ (r : List ℕ). 41 ∷ r) a.0))))
            | inr g ↦ (
                let w = whole_is (λ xs. xs) (closed next m) ys g.1 in
                subst (λ (z : List A). AreArguments P z s) w.2 (some_arguments w.0 s (m, is, closed_sound m (w.0, []) (omega (arith, ap length is)) w.1)))
          ]

          go : (o : Option (List ℕ)) → after 40 s ≡ o → (elim o [ None ↦ all_read [] s | Some m ↦ arguments_within next m ]) ≡ Some ys → AreArguments P ys s
          go None q e = let a = all_is [] s ys e in subst (λ (z : List A). AreArguments P z s) a.1 (inl a.0)
          go (Some m) q e = within m (after_is 40 s m q) e

      some_parenthesized : (xs : List A) (s : List ℕ) → AreEnclosed P xs s [] → AreParenthesized P xs s
      some_parenthesized [] s h = absurd h.2
      some_parenthesized (x ∷ xs) s h = h

      pub parenthesized_sound : (s : List ℕ) (ys : List A) → length s ≤ k.length → parenthesized next s ≡ Some ys → AreParenthesized P ys s
      unfolding parenthesized arguments_within
      parenthesized_sound s ys fit e =
          let b = bind_some _ _ ys e in
          let is = after_is 40 s b.0 b.1 in
          elim (either_some (after 41 b.0) (λ r. all_read [] r) (whole (λ xs. xs) (closed next b.0)) ys b.2) [
            | inl g ↦ (
                let a = all_is [] g.0 ys g.2 in
                subst (λ (z : List A). AreParenthesized P z s) a.1 (is ∙ ap (λ (l : List ℕ). 40 ∷ l) (after_is 41 b.0 g.0 g.1 ∙ ap (λ (r : List ℕ). 41 ∷ r) a.0)))
            | inr g ↦ (
                let w = whole_is (λ xs. xs) (closed next b.0) ys g.1 in
                subst (λ (z : List A). AreParenthesized P z s) w.2 (some_parenthesized w.0 s (b.0, is, closed_sound b.0 (w.0, []) (omega (arith, ap length is)) w.1)))
          ]

    -- ---- what is so is read

    module _ (next : Reader A) (Follows : List ℕ → Type 0) (complete : IsComplete P next Follows) (comma : (m : List ℕ) → Follows (44 ∷ m)) where
      -- what follows a part of which others stand after
      follows : (xs : List A) (s r : List ℕ) → AreAfter P xs s r → Follows r → Follows s
      follows [] s r h f = subst Follows (sym h) f
      follows (x ∷ xs) s r h f = subst Follows (sym h.2) (comma h.0)

      after_stops : (n : ℕ) (s : List ℕ) → part_after_comma next s ≡ None → parts_after next n s ≡ Some ([], s)
      unfolding parts_after
      after_stops zero s e = refl
      after_stops (suc n) s e = rw e refl

      after_complete : (n : ℕ) (xs : List A) (s r : List ℕ) → length xs ≤ n → AreAfter P xs s r → Follows r → part_after_comma next r ≡ None → parts_after next n s ≡ Some (xs, r)
      unfolding parts_after
      after_complete n [] s r le h f stop = rw h (after_stops n r stop)
      after_complete zero (x ∷ xs) s r le h f stop = absurd (omega (arith, le))
      after_complete (suc n) (x ∷ xs) s r le h f stop =
          let one : next h.0 ≡ Some (x, h.1) = complete x h.0 h.1 h.3 (follows xs h.1 r h.4 f) in
          let more = after_complete n xs h.1 r (omega (arith, le)) h.4 f stop in
          rw (h.2, one, more) refl

      pub listed_complete : (xs : List A) (s r : List ℕ) → AreListed P xs s r → Follows r → part_after_comma next r ≡ None → listed next s ≡ Some (xs, r)
      unfolding listed
      listed_complete [] s r h f stop = absurd h
      listed_complete (x ∷ xs) s r h f stop =
          let one : next s ≡ Some (x, h.0) = complete x s h.0 h.1 (follows xs h.0 r h.2 f) in
          let few : length xs ≤ length s = omega (arith, shorter x s h.0 h.1, after_fits xs h.0 r h.2) in
          rw (one, after_complete (length s) xs h.0 r few h.2 f stop) refl

      module _ (parenthesis : (m : List ℕ) → Follows (41 ∷ m)) where
        closed_complete : (xs : List A) (s r : List ℕ) → AreListed P xs s (41 ∷ r) → closed next s ≡ Some (xs, r)
        unfolding closed
        closed_complete xs s r h = rw (listed_complete xs s (41 ∷ r) h (parenthesis r) refl) refl

        pub enclosed_complete : (xs : List A) (s r : List ℕ) → AreEnclosed P xs s r → enclosed next s ≡ Some (xs, r)
        unfolding enclosed
        enclosed_complete xs s r h = rw (h.1, closed_complete xs h.0 r h.2) refl

        pub optional_complete : (xs : List A) (s r : List ℕ) → AreOptional P xs s r → after 40 r ≡ None → optional next s ≡ Some (xs, r)
        unfolding optional
        optional_complete [] s r h f = ap (optional next) h ∙ ap (λ (o : Option (List ℕ)). elim o [ None ↦ Some ([], r) | Some m ↦ closed next m ]) f
        optional_complete (x ∷ xs) s r h f = rw (h.1, closed_complete (x ∷ xs) h.0 r h.2) refl

        module _ (opens : (x : A) (m r : List ℕ) → P x (41 ∷ m) r → ⊥) where
          not_closed_at_once : (xs : List A) (s r : List ℕ) → AreListed P xs s r → after 41 s ≡ None
          not_closed_at_once xs [] r h = refl
          not_closed_at_once xs (c ∷ s) r h = go (after 41 (c ∷ s)) refl h
            where
              never : (ys : List A) (m r : List ℕ) → AreListed P ys (41 ∷ m) r → ⊥
              never [] m r h = h
              never (x ∷ ys) m r h = opens x m h.0 h.1

              go : (o : Option (List ℕ)) → after 41 (c ∷ s) ≡ o → AreListed P xs (c ∷ s) r → after 41 (c ∷ s) ≡ None
              go None q h = q
              go (Some m) q h = absurd (never xs m r (subst (λ (l : List ℕ). AreListed P xs l r) (after_is 41 (c ∷ s) m q) h))

          pub arguments_complete : (xs : List A) (s : List ℕ) → AreArguments P xs s → arguments next s ≡ Some xs
          unfolding arguments arguments_within
          arguments_complete [] s (inl e) = rw e refl
          arguments_complete [] s (inr e) = rw e refl
          arguments_complete (x ∷ xs) s h =
              rw (h.1, not_closed_at_once (x ∷ xs) h.0 (41 ∷ []) h.2, closed_complete (x ∷ xs) h.0 [] h.2) refl

          pub parenthesized_complete : (xs : List A) (s : List ℕ) → AreParenthesized P xs s → parenthesized next s ≡ Some xs
          unfolding parenthesized arguments_within
          parenthesized_complete [] s e = rw e refl
          parenthesized_complete (x ∷ xs) s h =
              rw (h.1, not_closed_at_once (x ∷ xs) h.0 (41 ∷ []) h.2, closed_complete (x ∷ xs) h.0 [] h.2) refl
