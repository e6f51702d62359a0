-- The list of all circles, by indexes.
use Rattle.std.proofs.Common.{◌≡◌, ℕ, zero, suc, ◌+◌, ◌-◌, ◌<◌, ◌≤◌, Bool, true, false, List, [], ◌∷◌, ◌++◌, length, Option, Some, None, option_to_list, append_assoc, true≢false, refl, sym, ap, ◌∙◌, subst, arith, nat_eq, slice_get}
use Rattle.std.specs.Option.{unwrap_or}
use Rattle.std.proofs.lemmas.Bool.{eqb-false, eqb-true}
use Rattle.std.proofs.lemmas.Option.{none-some, same_Some}
use Rattle.hep_why.specs.WaitCycles.{circle_at, circle_from, circles_from, circles_of}
use Rattle.hep_why.specs.CycleMarks.{AreAllNoted}
use Rattle.hep_why.specs.CycleLaws.{AreDistinct, LeadBack, LeadsTo}
use Rattle.hep_why.proofs.CycleLinks.{behind, behind-none, closes, goes_on, lead}
use Rattle.hep_why.proofs.RotatedCycles.{HasLeast, least-of, no-more-than, turned-back, turned-distinct, has-turned}
use Rattle.hep_why.proofs.CycleWalks.{next-within}

-- ---- where a list stands among lists

pub record StandsOnce (lists : List (List ℕ)) (xs : List ℕ) : Type 0 where
  pub place : ℕ
  pub there : slice_get lists place ≡ Some xs
  pub once : (i : ℕ) → slice_get lists i ≡ Some xs → i ≡ place

module _ (nexts : List (Option ℕ)) where
  begins : (first : ℕ) (circle : List ℕ) → circle_at nexts first ≡ Some circle → slice_get circle 0 ≡ Some first
  begins first circle e = (lead nexts first (length nexts) first circle e).0

  -- a circle of those from an index on begins at one of these
  pub record IsFrom (i : ℕ) (circle : List ℕ) : Type 0 where
    pub first : ℕ
    pub above : i ≤ first
    pub is : circle_at nexts first ≡ Some circle

  pub is-from : (i n k : ℕ) (circle : List ℕ) → slice_get (circles_from nexts i n) k ≡ Some circle → IsFrom i circle
  is-from i zero k circle there = absurd (none-some circle there)
  is-from i (suc n) k circle there = by k (circle_at nexts i) refl there (λ m. is-from (suc i) n m circle)
    where
      by : (k : ℕ) (o : Option (List ℕ)) → circle_at nexts i ≡ o
          → slice_get (option_to_list o ++ circles_from nexts (suc i) n) k ≡ Some circle
          → ((m : ℕ) → slice_get (circles_from nexts (suc i) n) m ≡ Some circle → IsFrom (suc i) circle) → IsFrom i circle
      by k None e there further = let h = further k there in record { first = h.first; above = omega (arith, h.above); is = h.is }
      by zero (Some c) e there further = record { first = i; above = omega arith; is = e ∙ there }
      by (suc k) (Some c) e there further = let h = further k there in record { first = h.first; above = omega (arith, h.above); is = h.is }

  -- a circle stands among those of so many
  pub stands-once : (i n first : ℕ) (circle : List ℕ) → circle_at nexts first ≡ Some circle → i ≤ first → first < i + n
      → StandsOnce (circles_from nexts i n) circle
  stands-once i zero first circle is above below = absurd (omega (arith, above, below))
  stands-once i (suc n) first circle is above below =
      by (nat_eq i first) refl (λ more less. stands-once (suc i) n first circle is more less)
    where
      here : (o : Option (List ℕ)) → o ≡ Some circle → i ≡ first → StandsOnce (option_to_list o ++ circles_from nexts (suc i) n) circle
      here None e same = absurd (none-some circle e)
      here (Some c) e same = record { place = 0; there = e; once = once }
        where
          once : (k : ℕ) → slice_get (c ∷ circles_from nexts (suc i) n) k ≡ Some circle → k ≡ 0
          once zero there = refl
          once (suc k) there =
              let h = is-from (suc i) n k circle there in
              let again : h.first ≡ first = same_Some h.first first (sym (begins h.first circle h.is) ∙ begins first circle is) in
              absurd (omega (arith, h.above, again, same))

      further : (o : Option (List ℕ)) → circle_at nexts i ≡ o → (i ≡ first → ⊥) → StandsOnce (circles_from nexts (suc i) n) circle
          → StandsOnce (option_to_list o ++ circles_from nexts (suc i) n) circle
      further None e not h = h
      further (Some c) e not h = record { place = suc h.place; there = h.there; once = once }
        where
          once : (k : ℕ) → slice_get (c ∷ circles_from nexts (suc i) n) k ≡ Some circle → k ≡ suc h.place
          once zero there =
              let same : i ≡ first =
              same_Some i first
              (sym (begins i c e) ∙ ap (λ (xs : List ℕ). slice_get xs 0) (same_Some c circle there) ∙ begins first circle is) in
              absurd (not same)
          once (suc k) there = ap suc (h.once k there)

      by : (b : Bool) → nat_eq i first ≡ b → (suc i ≤ first → first < suc i + n → StandsOnce (circles_from nexts (suc i) n) circle)
          → StandsOnce (circles_from nexts i (suc n)) circle
      by true t again = let same : i ≡ first = eqb-true i first t in here (circle_at nexts i) (ap (circle_at nexts) same ∙ is) same
      by false t again =
          let not = eqb-false i first t in
          let more : suc i ≤ first = grind (arith, above, not) in
          further (circle_at nexts i) refl not (again more (omega (arith, below)))

  -- ---- what leads back is found

  pub found : (m first i : ℕ) (is : List ℕ) → LeadBack (LeadsTo nexts) first (i ∷ is) → ((k j : ℕ) → slice_get is k ≡ Some j → first < j)
      → length (i ∷ is) ≤ m
      → circle_from nexts first m i ≡ Some (i ∷ is)
  found zero first i is h above few = absurd (omega (arith, few))
  found (suc m) first i [] h above few =
      sym (behind-none nexts first (circle_from nexts first (suc m) i)) ∙ closes nexts first [] m i first h refl
  found (suc m) first i (j ∷ js) h above few =
      sym (behind-none nexts first (circle_from nexts first (suc m) i))
      ∙ goes_on nexts first [] m i j h.0 (above 0 j refl)
      ∙ ap (behind nexts first (i ∷ [])) (found m first j js h.1 (λ k x. above (suc k) x) (omega (arith, few)))

  leads-within : (first : ℕ) (is : List ℕ) → LeadBack (LeadsTo nexts) first is → (k x : ℕ) → slice_get is k ≡ Some x → x < length nexts
  leads-within first [] h k x there = absurd h
  leads-within first (i ∷ []) h zero x there = subst (λ y. y < length nexts) (same_Some i x there) (next-within nexts i first h)
  leads-within first (i ∷ []) h (suc k) x there = absurd (none-some x there)
  leads-within first (i ∷ j ∷ js) h zero x there = subst (λ y. y < length nexts) (same_Some i x there) (next-within nexts i j h.0)
  leads-within first (i ∷ j ∷ js) h (suc k) x there = leads-within first (j ∷ js) h.1 k x there

  -- ---- a circle, turned so that its least one is in front, is among them

  pub record IsTurned (is : List ℕ) : Type 0 where
    pub before : List ℕ
    pub behind : List ℕ
    pub parts : is ≡ before ++ behind
    pub first : ℕ
    pub found : circle_at nexts first ≡ Some (behind ++ before)
    pub once : StandsOnce (circles_of nexts) (behind ++ before)

  pub is-turned : (i : ℕ) (is : List ℕ) → LeadBack (LeadsTo nexts) i (i ∷ is) → AreDistinct (i ∷ is) → IsTurned (i ∷ is)
  is-turned i is h distinct =
      record { before = l.before; behind = l.first ∷ l.behind; parts = l.parts; first = l.first; found = circle; once = stands-once 0 (length nexts) l.first (l.first ∷ l.behind ++ l.before) circle (omega arith) (omega (arith, within)) }
    where
      l : HasLeast (i ∷ is)
      l = least-of i is

      leads : LeadBack (LeadsTo nexts) l.first (l.first ∷ l.behind ++ l.before)
      leads = turned-back (LeadsTo nexts) i l.first is l.before l.behind l.parts h

      apart : AreDistinct (l.first ∷ l.behind ++ l.before)
      apart = turned-distinct l.before (l.first ∷ l.behind) (subst AreDistinct l.parts distinct)

      above : (k j : ℕ) → slice_get (l.behind ++ l.before) k ≡ Some j → l.first < j
      above k j there =
          let t = has-turned l.before (l.first ∷ l.behind) (suc k) j there in
          let least = l.least t.place j (ap (λ (xs : List ℕ). slice_get xs t.place) l.parts ∙ t.there) in
          let not : l.first ≡ j → ⊥ = λ same. no_zero (apart 0 (suc k) j (ap (λ (x : ℕ). Some x) same) there) in
          grind (arith, least, not)
        where
          no_zero : 0 ≡ suc k → ⊥
          no_zero e = omega (arith, e)

      few : length (l.first ∷ l.behind ++ l.before) ≤ length nexts
      few = no-more-than (l.first ∷ l.behind ++ l.before) (length nexts) apart (leads-within l.first (l.first ∷ l.behind ++ l.before) leads)

      circle : circle_at nexts l.first ≡ Some (l.first ∷ l.behind ++ l.before)
      circle = found (length nexts) l.first l.first (l.behind ++ l.before) leads above few

      within : l.first < length nexts
      within = leads-within l.first (l.first ∷ l.behind ++ l.before) leads 0 l.first refl

  -- ---- one more is looked for

  pub circles-turn : (i n : ℕ) (found next whole : List (List ℕ)) → i < n → found ++ circles_from nexts i (n - i) ≡ whole
      → next ≡ found ++ option_to_list (circle_at nexts i) → next ++ circles_from nexts (i + 1) (n - (i + 1)) ≡ whole
  circles-turn i n found next whole less h e =
      let one : i + 1 ≡ suc i = omega arith in
      let left : n - i ≡ suc (n - (i + 1)) = omega (arith, less) in
      let rest = circles_from nexts (i + 1) (n - (i + 1)) in
      ap (λ (cs : List (List ℕ)). cs ++ rest) e
      ∙ append_assoc found (option_to_list (circle_at nexts i)) rest
      ∙ ap (λ k. found ++ (option_to_list (circle_at nexts i) ++ circles_from nexts k (n - (i + 1)))) one
      ∙ ap (λ k. found ++ circles_from nexts i k) (sym left)
      ∙ h

  pub unnoted : (noted : List Bool) (i : ℕ) → AreAllNoted nexts noted → unwrap_or (slice_get noted i) false ≡ false
      → circle_at nexts i ≡ None
  unnoted noted i all e = by (circle_at nexts i) refl
    where
      by : (o : Option (List ℕ)) → circle_at nexts i ≡ o → circle_at nexts i ≡ None
      by None f = f
      by (Some c) f = absurd (true≢false (sym (ap (λ (o : Option Bool). unwrap_or o false) (all i c f)) ∙ e))
