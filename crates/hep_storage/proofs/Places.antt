-- Lists in runs, place by place.
use Rattle.std.proofs.Common.{◌≡◌, ◌≤◌, ℕ, zero, suc, ◌+◌, Bool, true, false, not, ◌&&◌, ◌||◌, nat_lt, List, [], ◌∷◌, refl, sym, ap, ◌∙◌, arith}
use Rattle.std.proofs.lemmas.Bool.Decides.{nat_tests}
use Rattle.hep_machine.specs.Words.{Repeated}
use Rattle.hep_conditions.specs.Words.{meet, holds_within, holds_from, holds_at_each_place}
use Rattle.hep_storage.specs.RunItems.{repeat_before, spread, agree_as_far}
use Rattle.hep_source.proofs.Tests.{and-assoc, and-true}

-- ---- places in common

meet-turned : (i m j n d : ℕ) → meet (i + d) m (j + d) n ≡ meet i m j n
meet-turned i m j n d = grind (arith, nat_tests)

meet-no_place : (i j n : ℕ) → meet i 0 j n ≡ false
meet-no_place i j n = grind (arith, nat_tests)

meet-no_places : (i m j : ℕ) → meet i m j 0 ≡ false
meet-no_places i m j = grind (arith, nat_tests)

meet-first_parts : (i s r j n : ℕ) → meet i (s + r) j n ≡ (meet i s j n || meet (i + s) r j n)
meet-first_parts i s r j n = grind (arith, nat_tests)

meet-second_parts : (i m j s r : ℕ) → meet i m j (s + r) ≡ (meet i m j s || meet i m (j + s) r)
meet-second_parts i m j s r = grind (arith, nat_tests)

meet-behind : (i m j n : ℕ) → i + m ≤ j → meet i m j n ≡ false
meet-behind i m j n h = grind (arith, nat_tests)

meet-before : (i m j n : ℕ) → j + n ≤ i → meet i m j n ≡ false
meet-before i m j n h = grind (arith, nat_tests)

meet-same : (i s : ℕ) → meet i s i s ≡ nat_lt 0 s
meet-same i s = grind (arith, nat_tests)

-- ---- tests

either-split : (p q t : Bool) → (not (p || q) || t) ≡ ((not p || t) && (not q || t))
either-split true true true = refl
either-split true true false = refl
either-split true false true = refl
either-split true false false = refl
either-split false q t = refl

both-turned : (a b w v : Bool) → ((a && b) && (w && v)) ≡ ((a && w) && (b && v))
both-turned true true w v = refl
both-turned true false true v = refl
both-turned true false false v = refl
both-turned false b w v = refl

-- ---- one run against a list

module _ {B : Type 0} (test : B → Bool) where
  within-turned : (i m j d : ℕ) (ys : List (Repeated B)) → holds_within test (i + d) m (j + d) ys ≡ holds_within test i m j ys
  within-turned i m j d [] = refl
  within-turned i m j d (y ∷ ys) =
      let e : j + d + y.count ≡ j + y.count + d = omega arith in
      rw (meet-turned i m j y.count d, e, within-turned i m (j + y.count) d ys) refl

  within-no_place : (i j : ℕ) (ys : List (Repeated B)) → holds_within test i 0 j ys ≡ true
  within-no_place i j [] = refl
  within-no_place i j (y ∷ ys) = rw (meet-no_place i j y.count) (within-no_place i (j + y.count) ys)

  within-first_parts : (i s r j : ℕ) (ys : List (Repeated B)) → holds_within test i (s + r) j ys ≡ (holds_within test i s j ys && holds_within test (i + s) r j ys)
  within-first_parts i s r j [] = refl
  within-first_parts i s r j (y ∷ ys) =
      rw (meet-first_parts i s r j y.count, within-first_parts i s r (j + y.count) ys, either-split (meet i s j y.count) (meet (i + s) r j y.count) (test y.item))
      (both-turned (not (meet i s j y.count) || test y.item) (not (meet (i + s) r j y.count) || test y.item) (holds_within test i s (j + y.count) ys) (holds_within test (i + s) r (j + y.count) ys))

  within-behind : (i m j : ℕ) (ys : List (Repeated B)) → i + m ≤ j → holds_within test i m j ys ≡ true
  within-behind i m j [] h = refl
  within-behind i m j (y ∷ ys) h =
      let k : i + m ≤ j + y.count = omega arith in
      rw (meet-behind i m j y.count h) (within-behind i m (j + y.count) ys k)

  within-no_places : (i m j : ℕ) (b : B) (ys : List (Repeated B)) → holds_within test i m j (record { item = b; count = 0 } ∷ ys) ≡ holds_within test i m j ys
  within-no_places i m j b ys =
      let e : j + 0 ≡ j = omega arith in
      rw (meet-no_places i m j, e) refl

  within-second_parts : (i m j s r : ℕ) (b : B) (ys : List (Repeated B))
      → holds_within test i m j (record { item = b; count = s + r } ∷ ys) ≡ holds_within test i m j (record { item = b; count = s } ∷ record { item = b; count = r } ∷ ys)
  within-second_parts i m j s r b ys =
      let e : j + (s + r) ≡ j + s + r = omega arith in
      rw (meet-second_parts i m j s r, e, either-split (meet i m j s) (meet i m (j + s) r) (test b))
      (sym (and-assoc (not (meet i m j s) || test b) (not (meet i m (j + s) r) || test b) (holds_within test i m (j + s + r) ys)))

  within-before : (i m j c : ℕ) (b : B) (ys : List (Repeated B)) → j + c ≤ i → holds_within test i m j (record { item = b; count = c } ∷ ys) ≡ holds_within test i m (j + c) ys
  within-before i m j c b ys h = rw (meet-before i m j c h) refl

-- ---- a list against a list, of which each begins at a place of its own

module _ {A B : Type 0} (test : A → B → Bool) where
  abbrev holds_on : ℕ → ℕ → List (Repeated A) → List (Repeated B) → Bool
  holds_on i j [] ys = true
  holds_on i j (x ∷ xs) ys = holds_within (test x.item) i x.count j ys && holds_on (i + x.count) j xs ys

  on-start : (i : ℕ) (xs : List (Repeated A)) (ys : List (Repeated B)) → holds_from test i xs ys ≡ holds_on i 0 xs ys
  on-start i [] ys = refl
  on-start i (x ∷ xs) ys = ap (λ b. holds_within (test x.item) i x.count 0 ys && b) (on-start (i + x.count) xs ys)

  on-turned : (i j d : ℕ) (xs : List (Repeated A)) (ys : List (Repeated B)) → holds_on (i + d) (j + d) xs ys ≡ holds_on i j xs ys
  on-turned i j d [] ys = refl
  on-turned i j d (x ∷ xs) ys =
      let e : i + d + x.count ≡ i + x.count + d = omega arith in
      rw (within-turned (test x.item) i x.count j d ys, e, on-turned (i + x.count) j d xs ys) refl

  on-no_place : (i j : ℕ) (a : A) (xs : List (Repeated A)) (ys : List (Repeated B)) → holds_on i j (record { item = a; count = 0 } ∷ xs) ys ≡ holds_on i j xs ys
  on-no_place i j a xs ys =
      let e : i + 0 ≡ i = omega arith in
      rw (within-no_place (test a) i j ys, e) refl

  on-no_places : (i j : ℕ) (b : B) (xs : List (Repeated A)) (ys : List (Repeated B)) → holds_on i j xs (record { item = b; count = 0 } ∷ ys) ≡ holds_on i j xs ys
  on-no_places i j b [] ys = refl
  on-no_places i j b (x ∷ xs) ys = rw (within-no_places (test x.item) i x.count j b ys, on-no_places (i + x.count) j b xs ys) refl

  on-first_parts : (i j s r : ℕ) (a : A) (xs : List (Repeated A)) (ys : List (Repeated B))
      → holds_on i j (record { item = a; count = s + r } ∷ xs) ys ≡ holds_on i j (record { item = a; count = s } ∷ record { item = a; count = r } ∷ xs) ys
  on-first_parts i j s r a xs ys =
      let e : i + (s + r) ≡ i + s + r = omega arith in
      rw (within-first_parts (test a) i s r j ys, e)
      (sym (and-assoc (holds_within (test a) i s j ys) (holds_within (test a) (i + s) r j ys) (holds_on (i + s + r) j xs ys)))

  on-second_parts : (i j s r : ℕ) (b : B) (xs : List (Repeated A)) (ys : List (Repeated B))
      → holds_on i j xs (record { item = b; count = s + r } ∷ ys) ≡ holds_on i j xs (record { item = b; count = s } ∷ record { item = b; count = r } ∷ ys)
  on-second_parts i j s r b [] ys = refl
  on-second_parts i j s r b (x ∷ xs) ys = rw (within-second_parts (test x.item) i x.count j s r b ys, on-second_parts (i + x.count) j s r b xs ys) refl

  on-before : (i j c : ℕ) (b : B) (xs : List (Repeated A)) (ys : List (Repeated B)) → j + c ≤ i → holds_on i j xs (record { item = b; count = c } ∷ ys) ≡ holds_on i (j + c) xs ys
  on-before i j c b [] ys h = refl
  on-before i j c b (x ∷ xs) ys h =
      let k : j + c ≤ i + x.count = omega arith in
      rw (within-before (test x.item) i x.count j c b ys h, on-before (i + x.count) j c b xs ys k) refl

  -- two runs of one length, at one place
  on-same : (i s : ℕ) (a : A) (b : B) (xs : List (Repeated A)) (ys : List (Repeated B))
      → holds_on i i (record { item = a; count = s } ∷ xs) (record { item = b; count = s } ∷ ys) ≡ ((not (nat_lt 0 s) || test a b) && holds_on i i xs ys)
  on-same i s a b xs ys =
      let h : i + s ≤ i + s = omega arith in
      rw (on-before (i + s) i s b xs ys h, on-turned i i s xs ys, meet-same i s, within-behind (test a) i s (i + s) ys h, and-true (not (nat_lt 0 s) || test a b)) refl

  -- one place of both
  on-next : (r q : ℕ) (a : A) (b : B) (xs : List (Repeated A)) (ys : List (Repeated B))
      → holds_on 0 0 (record { item = a; count = suc r } ∷ xs) (record { item = b; count = suc q } ∷ ys) ≡ (test a b && holds_on 0 0 (record { item = a; count = r } ∷ xs) (record { item = b; count = q } ∷ ys))
  on-next r q a b xs ys =
      let e : suc r ≡ 1 + r = omega arith in
      let f : suc q ≡ 1 + q = omega arith in
      ap (λ n. holds_on 0 0 (record { item = a; count = n } ∷ xs) (record { item = b; count = suc q } ∷ ys)) e
      ∙ (ap (λ n. holds_on 0 0 (record { item = a; count = 1 + r } ∷ xs) (record { item = b; count = n } ∷ ys)) f
      ∙ (on-first_parts 0 0 1 r a xs (record { item = b; count = 1 + q } ∷ ys)
      ∙ (on-second_parts 0 0 1 q b (record { item = a; count = 1 } ∷ record { item = a; count = r } ∷ xs) ys
      ∙ on-same 0 1 a b (record { item = a; count = r } ∷ xs) (record { item = b; count = q } ∷ ys))))

  on-nothing : (i j : ℕ) (xs : List (Repeated A)) → holds_on i j xs [] ≡ true
  on-nothing i j [] = refl
  on-nothing i j (x ∷ xs) = on-nothing (i + x.count) j xs

  -- item by item
  spread-second : (a : A) (b : B) (r : ℕ) (xs : List (Repeated A)) (ys : List (Repeated B))
      → ((zs : List (Repeated B)) → holds_on 0 0 (record { item = a; count = r } ∷ xs) zs ≡ agree_as_far test (repeat_before r a (spread xs)) (spread zs))
      → holds_on 0 0 (record { item = a; count = suc r } ∷ xs) ys ≡ agree_as_far test (repeat_before (suc r) a (spread xs)) (spread ys)
      → (q : ℕ) → holds_on 0 0 (record { item = a; count = suc r } ∷ xs) (record { item = b; count = q } ∷ ys) ≡ agree_as_far test (repeat_before (suc r) a (spread xs)) (repeat_before q b (spread ys))
  spread-second a b r xs ys fewer after zero = on-no_places 0 0 b (record { item = a; count = suc r } ∷ xs) ys ∙ after
  spread-second a b r xs ys fewer after (suc q) = on-next r q a b xs ys ∙ ap (λ t. test a b && t) (fewer (record { item = b; count = q } ∷ ys))

  spread-more : (a : A) (r : ℕ) (xs : List (Repeated A))
      → ((zs : List (Repeated B)) → holds_on 0 0 (record { item = a; count = r } ∷ xs) zs ≡ agree_as_far test (repeat_before r a (spread xs)) (spread zs))
      → (ys : List (Repeated B)) → holds_on 0 0 (record { item = a; count = suc r } ∷ xs) ys ≡ agree_as_far test (repeat_before (suc r) a (spread xs)) (spread ys)
  spread-more a r xs fewer [] = on-nothing 0 0 (record { item = a; count = suc r } ∷ xs)
  spread-more a r xs fewer (y ∷ ys) = spread-second a y.item r xs ys fewer (spread-more a r xs fewer ys) y.count

  spread-run : (a : A) (xs : List (Repeated A)) → ((zs : List (Repeated B)) → holds_on 0 0 xs zs ≡ agree_as_far test (spread xs) (spread zs))
      → (n : ℕ) (ys : List (Repeated B)) → holds_on 0 0 (record { item = a; count = n } ∷ xs) ys ≡ agree_as_far test (repeat_before n a (spread xs)) (spread ys)
  spread-run a xs after zero ys = on-no_place 0 0 a xs ys ∙ after ys
  spread-run a xs after (suc r) ys = spread-more a r xs (λ zs. spread-run a xs after r zs) ys

  on-spread : (xs : List (Repeated A)) (ys : List (Repeated B)) → holds_on 0 0 xs ys ≡ agree_as_far test (spread xs) (spread ys)
  on-spread [] ys = refl
  on-spread (x ∷ xs) ys = spread-run x.item xs (λ zs. on-spread xs zs) x.count ys

-- the test holds at each place of two lists in runs where it holds at each place that both have, item by item
pub at_each_place : {A B : Type 0} (test : A → B → Bool) (xs : List (Repeated A)) (ys : List (Repeated B)) → holds_at_each_place test xs ys ≡ agree_as_far test (spread xs) (spread ys)
at_each_place test xs ys = on-start test 0 xs ys ∙ on-spread test xs ys
