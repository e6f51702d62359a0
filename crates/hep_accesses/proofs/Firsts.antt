-- The first of each kind in a list.
use Rattle.std.proofs.Common.{◌≡◌, Bool, true, false, not, cond, List, [], ◌∷◌, refl, sym, ap, ◌∙◌, arith}
use Rattle.std.proofs.lemmas.Bool.{both_ways}
use Rattle.std.specs.Cmp.{IsEquivalence}
use Rattle.std.specs.List.{AllByRecursion, filter}
use Rattle.hep_accesses.specs.Firsts.{first_of_each}
use Rattle.hep_accesses.proofs.Elements.{IsAmong, all-filtered, all-mapped, all_of, among-filtered, behind, here}

-- a test that follows from another one fails only where that one does
not-true-if : (a b : Bool) → (a ≡ true → b ≡ true) → not b ≡ true → not a ≡ true
not-true-if true b h e = absurd (both_ways b (grind arith) (h refl))
not-true-if false b h e = refl

module _ {X : Type 0} where
  -- ---- filters

  -- an element that passes is kept
  filter-kept : (p : X → Bool) (x : X) (xs : List X) → p x ≡ true → filter p (x ∷ xs) ≡ x ∷ filter p xs
  filter-kept p x xs e = ap (λ b. cond b (x ∷ filter p xs) (filter p xs)) e

  -- one that doesn't is left out
  pub filter-dropped : (p : X → Bool) (x : X) (xs : List X) → p x ≡ false → filter p (x ∷ xs) ≡ filter p xs
  filter-dropped p x xs e = ap (λ b. cond b (x ∷ filter p xs) (filter p xs)) e

  -- two filters can be exchanged
  pub filter-swap : (p q : X → Bool) (xs : List X) → filter p (filter q xs) ≡ filter q (filter p xs)
  filter-swap p q [] = refl
  filter-swap p q (x ∷ xs) = by (filter-swap p q xs) (p x) (q x) refl refl
    where
      by : filter p (filter q xs) ≡ filter q (filter p xs) → (a b : Bool) → p x ≡ a → q x ≡ b
          → filter p (cond b (x ∷ filter q xs) (filter q xs)) ≡ filter q (cond a (x ∷ filter p xs) (filter p xs))
      by rest true true e f =
          filter-kept p x (filter q xs) e ∙ ap (λ ys. x ∷ ys) rest ∙ sym (filter-kept q x (filter p xs) f)
      by rest true false e f = rest ∙ sym (filter-dropped q x (filter p xs) f)
      by rest false true e f = filter-dropped p x (filter q xs) e ∙ rest
      by rest false false e f = rest

  -- a test that follows from another one leaves out nothing more
  pub filter-absorbed : (p q : X → Bool) (xs : List X) → AllByRecursion (λ x. p x ≡ true → q x ≡ true) xs
      → filter p (filter q xs) ≡ filter p xs
  filter-absorbed p q [] a = refl
  filter-absorbed p q (x ∷ xs) a = by (filter-absorbed p q xs a.1) (p x) (q x) refl refl
    where
      by : filter p (filter q xs) ≡ filter p xs → (b c : Bool) → p x ≡ b → q x ≡ c
          → filter p (cond c (x ∷ filter q xs) (filter q xs)) ≡ cond b (x ∷ filter p xs) (filter p xs)
      by rest true true e f = filter-kept p x (filter q xs) e ∙ ap (λ ys. x ∷ ys) rest
      by rest true false e f = absurd (both_ways (q x) f (a.0 e))
      by rest false true e f = filter-dropped p x (filter q xs) e ∙ rest
      by rest false false e f = rest

  -- two tests that agree at each element of the list keep the same
  pub filter-same : (p q : X → Bool) (xs : List X) → AllByRecursion (λ x. p x ≡ q x) xs → filter p xs ≡ filter q xs
  filter-same p q [] a = refl
  filter-same p q (x ∷ xs) a =
      ap (λ ys. cond (p x) (x ∷ ys) ys) (filter-same p q xs a.1) ∙ ap (λ b. cond b (x ∷ filter q xs) (filter q xs)) a.0

  -- ---- the first of each kind

  -- the first ones have what all have
  pub all-firsts : (P : X → Type 0) (alike : X → X → Bool) (xs : List X) → AllByRecursion P xs → AllByRecursion P (first_of_each alike xs)
  all-firsts P alike [] a = tt
  all-firsts P alike (x ∷ xs) a =
      (a.0, all-filtered P (λ y. not (alike x y)) (first_of_each alike xs) (all-firsts P alike xs a.1))

  module _ (alike : X → X → Bool) where
    -- each element is like one of the first ones
    pub covered : IsEquivalence alike → {x : X} {xs : List X} → IsAmong x xs
        → (y : X) × IsAmong y (first_of_each alike xs) × (alike y x ≡ true)
    covered laws {x} here = (x, here, laws.refl x)
    covered laws {x} (behind {y = z} {xs = xs} h) = by (covered laws h)
      where
        from : (y : X) → IsAmong y (first_of_each alike xs) → alike y x ≡ true → (b : Bool) → alike z y ≡ b
            → (w : X) × IsAmong w (first_of_each alike (z ∷ xs)) × (alike w x ≡ true)
        from y k e true f = (z, here, laws.congr z y x f ∙ e)
        from y k e false f = (y, behind (among-filtered (λ v. not (alike z v)) (ap not f) k), e)

        by : (y : X) × IsAmong y (first_of_each alike xs) × (alike y x ≡ true)
            → (w : X) × IsAmong w (first_of_each alike (z ∷ xs)) × (alike w x ≡ true)
        by c = from c.0 c.1 c.2 (alike z c.0) refl

    -- a test that agrees on what is alike can come first or last
    firsts-filter : (r : X → Bool) → ((x y : X) → alike x y ≡ true → r x ≡ r y) → (xs : List X)
        → filter r (first_of_each alike xs) ≡ first_of_each alike (filter r xs)
    firsts-filter r same [] = refl
    firsts-filter r same (x ∷ xs) = by (firsts-filter r same xs) (r x) refl
      where
        other : r x ≡ false → (y : X) (b : Bool) → alike x y ≡ b → r y ≡ true → not b ≡ true
        other e y true f g = absurd (both_ways (r y) (sym (same x y f) ∙ e) g)
        other e y false f g = refl

        by : filter r (first_of_each alike xs) ≡ first_of_each alike (filter r xs) → (b : Bool) → r x ≡ b
            → cond b (x ∷ filter r (filter (λ y. not (alike x y)) (first_of_each alike xs)))
            (filter r (filter (λ y. not (alike x y)) (first_of_each alike xs)))
            ≡ first_of_each alike (cond b (x ∷ filter r xs) (filter r xs))
        by rest true e =
            ap (λ ys. x ∷ ys) (filter-swap r (λ y. not (alike x y)) (first_of_each alike xs) ∙ ap (filter (λ y. not (alike x y))) rest)
        by rest false e =
            filter-absorbed r (λ y. not (alike x y)) (first_of_each alike xs) (
            all_of (λ y. r y ≡ true → not (alike x y) ≡ true) (λ y. other e y (alike x y) refl) (first_of_each alike xs)) ∙ rest

  -- what passes makes each one before it pass that is like it
  abbrev pub RisesTo : (X → X → Bool) → (X → Bool) → List X → Type 0
  RisesTo fine p [] = Unit {0}
  RisesTo fine p (x ∷ xs) = AllByRecursion (λ y. fine x y ≡ true → p y ≡ true → p x ≡ true) xs × RisesTo fine p xs

  module _ (fine coarse : X → X → Bool) (finer : (x y : X) → fine x y ≡ true → coarse x y ≡ true)
      (same : (x y z : X) → coarse y z ≡ true → coarse x y ≡ coarse x z) where
    -- without those that are like x
    abbrev others : X → List X → List X
    others x ys = filter (λ y. not (coarse x y)) ys

    -- without those that are finely like x
    abbrev finely_others : X → List X → List X
    finely_others x ys = filter (λ y. not (fine x y)) ys

    -- it is the same to leave out what is like x before or after the first ones are taken
    others-firsts : (x : X) (ys : List X) → others x (first_of_each coarse ys) ≡ first_of_each coarse (others x ys)
    others-firsts x ys = firsts-filter coarse (λ y. not (coarse x y)) (λ y z e. ap not (same x y z e)) ys

    -- what is finely like x is like x
    others-absorbed : (x : X) (ys : List X) → others x (finely_others x ys) ≡ others x ys
    others-absorbed x ys =
        filter-absorbed (λ y. not (coarse x y)) (λ y. not (fine x y)) ys (
        all_of (λ y. not (coarse x y) ≡ true → not (fine x y) ≡ true) (λ y. not-true-if (fine x y) (coarse x y) (finer x y)) ys)

    -- where x is among the first ones, those that are finely like it make no difference
    others-kept : (p : X → Bool) (x : X) (ys : List X)
        → others x (first_of_each coarse (filter p (finely_others x ys))) ≡ others x (first_of_each coarse (filter p ys))
    others-kept p x ys =
        others-firsts x (filter p (finely_others x ys))
        ∙ ap (first_of_each coarse) (
        filter-swap (λ y. not (coarse x y)) p (finely_others x ys)
        ∙ ap (filter p) (others-absorbed x ys)
        ∙ sym (filter-swap (λ y. not (coarse x y)) p ys))
        ∙ sym (others-firsts x (filter p ys))

    -- to look only at the first ones of each finer kind leaves the first ones that pass the same
    pub firsts-of-firsts : (p : X → Bool) (xs : List X) → RisesTo fine p xs
        → first_of_each coarse (filter p (first_of_each fine xs)) ≡ first_of_each coarse (filter p xs)
    firsts-of-firsts p [] h = refl
    firsts-of-firsts p (x ∷ xs) h = by (firsts-of-firsts p xs h.1) (p x) refl
      where
        none-lost : p x ≡ false → (y : X) → (b : Bool) → fine x y ≡ b → (fine x y ≡ true → p y ≡ true → p x ≡ true) → p y ≡ true
            → not b ≡ true
        none-lost e y true f g k = absurd (both_ways (p x) e (g f k))
        none-lost e y false f g k = refl

        by : first_of_each coarse (filter p (first_of_each fine xs)) ≡ first_of_each coarse (filter p xs) → (b : Bool) → p x ≡ b
            → first_of_each coarse
            (cond b (x ∷ filter p (finely_others x (first_of_each fine xs))) (filter p (finely_others x (first_of_each fine xs))))
            ≡ first_of_each coarse (cond b (x ∷ filter p xs) (filter p xs))
        by rest true e = ap (λ ys. x ∷ ys) (others-kept p x (first_of_each fine xs) ∙ ap (others x) rest)
        by rest false e =
            ap (first_of_each coarse) (
            filter-absorbed p (λ y. not (fine x y)) (first_of_each fine xs) (
            all-mapped (λ y. fine x y ≡ true → p y ≡ true → p x ≡ true) (λ y. p y ≡ true → not (fine x y) ≡ true) (
            λ y g k. none-lost e y (fine x y) refl g k) (first_of_each fine xs) (
            all-firsts (λ y. fine x y ≡ true → p y ≡ true → p x ≡ true) fine xs h.0))) ∙ rest
