-- What is read as COMMON is so by the grammar, and the other way round.
use Rattle.std.proofs.Common.{◌≡◌, inl, inr, ℕ, ◌+◌, ◌≤◌, true, List, [], ◌∷◌, length, Option, Some, None, refl, sym, ap, subst, ◌∙◌, arith}
use Rattle.hep_source.specs.declared.name.Occurrence.{Occurrence}
use Rattle.hep_source.specs.declared.declaration.Declarator.{Declarator}
use Rattle.hep_source.specs.declared.declaration.CommonBlock.{CommonBlock}
use Rattle.hep_source.specs.declared.statement.Form.{Form}
use Rattle.hep_source.specs.declared.statement.Form.TheVariants as form
use Rattle.hep_expression.specs.declared.characters.Context.{Context}
use Rattle.hep_expression.specs.Characters.{ReadsPlainOccurrence}
use Rattle.hep_expression.specs.Reading.{◌>>=◌, after, plain_occurrence_at}
use Rattle.hep_expression.proofs.Leaves.{bind_some, either_some, after_is, place_fits, is_plain_place}
use Rattle.hep_expression.proofs.Complete.{plain_place_read}
use Rattle.hep_parse.specs.Lists.{AreListed}
use Rattle.hep_parse.specs.ReadingLists.{part_after_comma}
use Rattle.hep_parse.specs.Declaration.{ReadsDeclarator, ReadsBlockName, ReadsFirstName, AreMoreBlocks, AreBlocks, declarator_at, block_name_at, entries_at, block_after, block_at, first_block_at, common}
use Rattle.hep_parse.proofs.Lists.{IsSound, IsComplete, listed_shortens, listed_sound, listed_complete}
use Rattle.hep_parse.proofs.Targets.{begins_name, first_is, place_begins, AfterName}
use Rattle.hep_parse.proofs.Headers.{carried}
use Rattle.hep_parse.proofs.Declarators.{declarator_shortens, declarator_sound, declarator_complete}
use Rattle.hep_parse.proofs.Ends.{AreToEnd, TakesSome, first_and_more_are, to_end_complete}
use Rattle.std.proofs.lemmas.Option.{none-some}

module _ (k : Context) where
  -- the text begins with this block and goes on with r
  abbrev ReadsBlock : CommonBlock → List ℕ → List ℕ → Type 0
  ReadsBlock x s r = (n : List ℕ) × ReadsBlockName k x.block s n × AreListed (ReadsDeclarator k) x.entries n r

  -- ---- names of blocks

  name_takes : (b : Option Occurrence) (s r : List ℕ) → ReadsBlockName k b s r → 2 + length r ≤ length s
  name_takes None s r h = omega (arith, ap length h)
  name_takes (Some p) s r h = omega (arith, ap length h.1, place_fits k p h.0 (47 ∷ r) h.2.1)

  name_sound : (s : List ℕ) (x : Option Occurrence × List ℕ) → length s ≤ k.length → block_name_at k s ≡ Some x → ReadsBlockName k x.0 (47 ∷ s) x.1
  name_sound s x fit e = elim (either_some (after 47 s) (λ r. Some (None, r)) (plain_occurrence_at k s >>= λ y. after 47 y.1 >>= λ r. Some (Some y.0, r)) x e) [
    | inl g ↦ carried (λ (y : Option Occurrence × List ℕ). ReadsBlockName k y.0 (47 ∷ s) y.1) (None, g.0) x g.2 (ap (λ (m : List ℕ). 47 ∷ m) (after_is 47 s g.0 g.1))
    | inr g ↦ (
        let b = bind_some _ _ x g.1 in
        let c = bind_some _ _ x b.2 in
        let one = subst (λ (m : List ℕ). ReadsPlainOccurrence k b.0.0 s m) (after_is 47 b.0.1 c.0 c.1) (is_plain_place k s b.0 fit b.1) in
        carried (λ (y : Option Occurrence × List ℕ). ReadsBlockName k y.0 (47 ∷ s) y.1) (Some b.0.0, c.0) x c.2 (s, refl, one))
  ]

  -- a name doesn't begin with `/` (47)
  no_stroke : (p : Occurrence) (s r : List ℕ) → ReadsPlainOccurrence k p s r → after 47 s ≡ None
  no_stroke p s r h = go (after 47 s) refl
    where
      go : (o : Option (List ℕ)) → after 47 s ≡ o → after 47 s ≡ None
      go None e = e
      go (Some m) e =
          let begun : ReadsPlainOccurrence k p (47 ∷ m) r = subst (λ (l : List ℕ). ReadsPlainOccurrence k p l r) (after_is 47 s m e) h in
          let no : begins_name 47 ≡ true = place_begins k p 47 m r begun.1 in
          absurd cc

  name_complete : (b : Option Occurrence) (s r : List ℕ) → ReadsBlockName k b s r → (after 47 s >>= block_name_at k) ≡ Some (b, r)
  name_complete None s r h = rw h refl
  name_complete (Some p) s r h = rw (h.1, no_stroke p h.0 (47 ∷ r) h.2, plain_place_read k p h.0 (47 ∷ r) h.2 refl) refl

  -- ---- lists of entries

  -- the list ends where no declarator stands after a comma
  abbrev AfterEntries : List ℕ → Type 0
  AfterEntries r = AfterName r × (part_after_comma (declarator_at k) r ≡ None)

  entries_sound : (b : Option Occurrence) (s : List ℕ) (x : CommonBlock × List ℕ) → length s ≤ k.length → entries_at k b s ≡ Some x → (x.0.block ≡ b) × AreListed (ReadsDeclarator k) x.0.entries s x.1
  entries_sound b s x fit e =
      let c = bind_some _ _ x e in
      let one = listed_sound (ReadsDeclarator k) (declarator_shortens k) k (declarator_at k) (declarator_sound k) s c.0 fit c.1 in
      carried (λ (y : CommonBlock × List ℕ). (y.0.block ≡ b) × AreListed (ReadsDeclarator k) y.0.entries s y.1) (record { block = b; entries = c.0.0 }, c.0.1) x c.2 (refl, one)

  entries_complete : (b : Option Occurrence) (xs : List Declarator) (s r : List ℕ) → AreListed (ReadsDeclarator k) xs s r → AfterEntries r → entries_at k b s ≡ Some (record { block = b; entries = xs }, r)
  entries_complete b xs s r h f = rw (listed_complete (ReadsDeclarator k) (declarator_shortens k) (declarator_at k) AfterName (declarator_complete k) (λ m. (refl, refl)) xs s r h f.0 f.1) refl

  -- ---- blocks

  block_takes : TakesSome ReadsBlock
  block_takes x s r h = omega (arith, name_takes x.block s h.0 h.1, listed_shortens (ReadsDeclarator k) (declarator_shortens k) x.entries h.0 r h.2)

  after_sound : (s : List ℕ) (x : CommonBlock × List ℕ) → length s ≤ k.length → block_after k s ≡ Some x → ReadsBlock x.0 (47 ∷ s) x.1
  after_sound s x fit e =
      let b = bind_some _ _ x e in
      let one = name_sound s b.0 fit b.1 in
      let fit' : length b.0.1 ≤ k.length = omega (arith, name_takes b.0.0 (47 ∷ s) b.0.1 one) in
      let two = entries_sound b.0.0 b.0.1 x fit' b.2 in
      (b.0.1, subst (λ (o : Option Occurrence). ReadsBlockName k o (47 ∷ s) b.0.1) (sym two.0) one, two.1)

  block_sound : IsSound k ReadsBlock (block_at k)
  unfolding block_at
  block_sound s x fit e =
      let b = bind_some _ _ x e in
      let is = after_is 47 s b.0 b.1 in
      let fit' : length b.0 ≤ k.length = omega (arith, ap length is) in
      subst (λ (m : List ℕ). ReadsBlock x.0 m x.1) (sym is) (after_sound b.0 x fit' b.2)

  chained : {A B C : Type 0} (o : Option A) (f : A → Option B) (g : B → Option C) (y : B) → (o >>= f) ≡ Some y → (o >>= λ x. f x >>= g) ≡ g y
  chained None f g y e = absurd (none-some y e)
  chained (Some x) f g y e = ap (λ (z : _). z >>= g) e

  block_complete : IsComplete ReadsBlock (block_at k) AfterEntries
  unfolding block_at
  block_complete x s r h f =
      chained (after 47 s) (block_name_at k) (λ y. entries_at k y.0 y.1) (x.block, h.0) (name_complete x.block s h.0 h.1)
      ∙ entries_complete x.block x.entries h.0 r h.2 f

  -- ---- the blocks of a statement

  -- a block begins with `/`
  name_begins : (b : Option Occurrence) (s r : List ℕ) → ReadsBlockName k b s r → (m : List ℕ) × (s ≡ 47 ∷ m)
  name_begins None s r h = (47 ∷ r, h)
  name_begins (Some p) s r h = (h.0, h.1)

  block_opens : (x : CommonBlock) (m r : List ℕ) → ReadsBlock x (44 ∷ m) r → ⊥
  block_opens x m r h =
      let b = name_begins x.block (44 ∷ m) h.0 h.1 in
      let same : 44 ≡ 47 = first_is 44 47 m b.0 b.1 in
      absurd (omega (arith, same))

  blocks_follow : (xs : List CommonBlock) (s : List ℕ) → AreToEnd ReadsBlock xs s → AfterEntries s
  unfolding declarator_at
  blocks_follow [] s h = rw h ((refl, refl), refl)
  blocks_follow (x ∷ xs) s h =
      let b = name_begins x.block h.0 h.3.0 h.3.1 in
      elim h.2 [
        | inl e ↦ rw (e ∙ b.1) ((refl, refl), refl)
        | inr e ↦ rw (e ∙ ap (λ (m : List ℕ). 44 ∷ m) b.1) ((refl, refl), refl)
      ]

  more_are : (xs : List CommonBlock) (s : List ℕ) → AreToEnd ReadsBlock xs s → AreMoreBlocks k xs s
  more_are [] s h = h
  more_are (x ∷ xs) s h = (h.0, h.3.0, h.1, h.2, h.3.1, h.3.2, more_are xs h.1 h.4)

  to_end_are : (xs : List CommonBlock) (s : List ℕ) → AreMoreBlocks k xs s → AreToEnd ReadsBlock xs s
  to_end_are [] s h = h
  to_end_are (x ∷ xs) s h = (h.0, h.2, h.3, (h.1, h.4, h.5), to_end_are xs h.2 h.6)

  named_first : (b : Option Occurrence) (s r : List ℕ) → ReadsBlockName k b s r → ReadsFirstName k b s r
  named_first None s r h = inr h
  named_first (Some p) s r h = h

  unnamed_first : (b : Option Occurrence) (s : List ℕ) → b ≡ None → ReadsFirstName k b s s
  unnamed_first None s e = inl refl
  unnamed_first (Some p) s e = absurd cc

  first_takes : (b : Option Occurrence) (s r : List ℕ) → ReadsFirstName k b s r → length r ≤ length s
  first_takes None s r h = elim h [ inl e ↦ omega (arith, ap length e) | inr e ↦ omega (arith, ap length e) ]
  first_takes (Some p) s r h = omega (arith, name_takes (Some p) s r h)

  first_sound : (s : List ℕ) (x : CommonBlock × List ℕ) → length s ≤ k.length → first_block_at k s ≡ Some x → (n : List ℕ) × ReadsFirstName k x.0.block s n × AreListed (ReadsDeclarator k) x.0.entries n x.1
  first_sound s x fit e = elim (either_some (after 47 s) (block_after k) (entries_at k None s) x e) [
    | inl g ↦ (
        let is = after_is 47 s g.0 g.1 in
        let fit' : length g.0 ≤ k.length = omega (arith, ap length is) in
        let one = after_sound g.0 x fit' g.2 in
        (one.0, named_first x.0.block s one.0 (subst (λ (m : List ℕ). ReadsBlockName k x.0.block m one.0) (sym is) one.1), one.2))
    | inr g ↦ (
        let one = entries_sound None s x fit g.1 in
        (s, unnamed_first x.0.block s one.0, one.1))
  ]

  -- a list of entries doesn't begin with `/`
  entries_begin : (xs : List Declarator) (s r : List ℕ) → AreListed (ReadsDeclarator k) xs s r → after 47 s ≡ None
  entries_begin [] s r h = absurd h
  entries_begin (x ∷ xs) s r h = go (after 47 s) refl
    where
      go : (o : Option (List ℕ)) → after 47 s ≡ o → after 47 s ≡ None
      go None e = e
      go (Some m) e =
          let begun : ReadsDeclarator k x (47 ∷ m) h.0 = subst (λ (l : List ℕ). ReadsDeclarator k x l h.0) (after_is 47 s m e) h.1 in
          let no : begins_name 47 ≡ true = place_begins k x.occurrence 47 m begun.0 begun.1 in
          absurd cc

  block_first : (x : CommonBlock) (s r : List ℕ) → block_at k s ≡ Some (x, r) → first_block_at k s ≡ Some (x, r)
  unfolding block_at
  block_first x s r e = let b = bind_some (after 47 s) (block_after k) (x, r) e in rw b.1 b.2

  first_complete : (b : Option Occurrence) (xs : List Declarator) (s n r : List ℕ) → ReadsFirstName k b s n → AreListed (ReadsDeclarator k) xs n r → AfterEntries r → first_block_at k s ≡ Some (record { block = b; entries = xs }, r)
  first_complete None xs s n r (inl e) h f = rw (e, entries_begin xs n r h) (entries_complete None xs n r h f)
  first_complete None xs s n r (inr e) h f = rw e (entries_complete None xs n r h f)
  first_complete (Some p) xs s n r g h f =
      let x : CommonBlock = record { block = Some p; entries = xs } in
      block_first x s r (block_complete x s r (n, g, h) f)

  -- ---- COMMON

  first_shortens : (x : CommonBlock) (s n r : List ℕ) → ReadsFirstName k x.block s n → AreListed (ReadsDeclarator k) x.entries n r → length r ≤ length s
  first_shortens x s n r g h = omega (arith, first_takes x.block s n g, listed_shortens (ReadsDeclarator k) (declarator_shortens k) x.entries n r h)

  pub common_is : (m : List ℕ) (f : Form) → length m ≤ k.length → common k m ≡ Some f → (xs : List CommonBlock) × (form.Common xs ≡ f) × AreBlocks k xs m
  unfolding common
  common_is m f fit e =
      let w = first_and_more_are ReadsBlock block_takes k (block_at k) block_sound form.Common (first_block_at k m) f
      (λ x g. let one = first_sound m x fit g in omega (arith, first_shortens x.0 m one.0 x.1 one.1 one.2)) e in
      let one = first_sound m w.0 fit w.2 in
      (w.0.0 ∷ w.1, w.3, (one.0, w.0.1, one.1, one.2, more_are w.1 w.0.1 w.4))

  pub common_read : (xs : List CommonBlock) (m : List ℕ) → AreBlocks k xs m → common k m ≡ Some (form.Common xs)
  unfolding common block_at
  common_read [] m h = absurd h
  common_read (x ∷ xs) m h =
      let more = to_end_are xs h.1 h.4 in
      let one : first_block_at k m ≡ Some (x, h.1) = first_complete x.block x.entries m h.0 h.1 h.2 h.3 (blocks_follow xs h.1 more) in
      let two = to_end_complete ReadsBlock block_takes (block_at k) AfterEntries block_complete blocks_follow refl block_opens x xs h.1 more in
      rw (one, two) refl
