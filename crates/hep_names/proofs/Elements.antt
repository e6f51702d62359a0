-- Numbers of elements of an array: no two elements have one, and none is past the last.
use Rattle.std.proofs.Common.{◌≡◌, ℕ, zero, suc, ◌+◌, ◌*◌, ◌<◌, ◌≤◌, ℤ, pos, negsuc, ◌+ℤ◌, ◌-ℤ◌, ◌≤ℤ◌, Bool, true, false, if◌then◌else◌, List, [], ◌∷◌, Option, Some, None, refl, ap, sym, ◌∙◌, arith, true≢false, int_le}
use Rattle.std.specs.Option.{option_map, unwrap_or}
use Rattle.std.proofs.lemmas.Bool.{and_parts}
use Rattle.std.proofs.lemmas.Int.{ints}
use Rattle.std.proofs.lemmas.Nat.{mul-add-lt}
use Rattle.hep_machine.specs.declared.shape.Bound.{Bound}
use Rattle.hep_machine.specs.Words.{Bounds, natural, size_between, extent, product, elements, is_below, is_within, is_between, are_dimensions, sum, before_element, element_number}
use Rattle.hep_shape.proofs.Extents.{le_of_test}

pub some-equal : (m n : ℕ) → Some m ≡ Some n → m ≡ n
some-equal m n h = cc

-- the number of elements before one, in steps of one
steps : (z o e : ℕ) (rest : Option ℕ) → sum (o * z) (option_map (λ q. q * (z * e)) rest) ≡ option_map (λ q. q * z) (sum (o * 1) (option_map (λ q. q * (1 * e)) rest))
steps z o e None = refl
steps z o e (Some q) = ap Some (omega arith)

scaled-if : (b : Bool) (z o e : ℕ) (all one rest : Option ℕ) → all ≡ option_map (λ q. q * (z * e)) rest → one ≡ option_map (λ q. q * (1 * e)) rest
    → (if b then sum (o * z) all else None) ≡ option_map (λ q. q * z) (if b then sum (o * 1) one else None)
scaled-if false z o e all one rest h k = refl
scaled-if true z o e all one rest h k = ap (sum (o * z)) h ∙ (steps z o e rest ∙ ap (λ r. option_map (λ q. q * z) (sum (o * 1) r)) (sym k))

pub scaled : (z : ℕ) (bs : Bounds) (ss : List ℤ) → before_element z bs ss ≡ option_map (λ q. q * z) (before_element 1 bs ss)
scaled z [] [] = ap Some (omega arith)
scaled z [] (s ∷ ss) = refl
scaled z (b ∷ bs) [] = refl
scaled z (b ∷ bs) (s ∷ ss) =
    scaled-if (is_within b s) z (natural (s -ℤ b.lower)) (unwrap_or (extent b) 1) _ _ (before_element 1 bs ss)
    (scaled (z * unwrap_or (extent b) 1) bs ss) (scaled (1 * unwrap_or (extent b) 1) bs ss)

-- the elements before one, by its first subscript and the others
unfoldable pub by_first : Bool → ℕ → ℕ → Option ℕ → Option ℕ
by_first false o e rest = None
by_first true o e None = None
by_first true o e (Some q) = Some (o + q * e)

first-if : (b : Bool) (o e : ℕ) (one rest : Option ℕ) → one ≡ option_map (λ q. q * (1 * e)) rest → (if b then sum (o * 1) one else None) ≡ by_first b o e rest
unfolding by_first
first-if false o e one rest h = refl
first-if true o e one None h = ap (sum (o * 1)) h
first-if true o e one (Some q) h = ap (sum (o * 1)) h ∙ ap Some (omega arith)

pub first-step : (b : Bound) (bs : Bounds) (s : ℤ) (ss : List ℤ) → before_element 1 (b ∷ bs) (s ∷ ss) ≡ by_first (is_within b s) (natural (s -ℤ b.lower)) (unwrap_or (extent b) 1) (before_element 1 bs ss)
first-step b bs s ss = first-if (is_within b s) (natural (s -ℤ b.lower)) (unwrap_or (extent b) 1) _ (before_element 1 bs ss) (scaled (1 * unwrap_or (extent b) 1) bs ss)

-- ---- a subscript within its bounds

natural-above : (z : ℤ) → pos 0 ≤ℤ z → pos (natural z) ≡ z
natural-above (pos n) h = refl
natural-above (negsuc n) h = absurd (omega (arith, ints))

offset-below : (l u s : ℤ) → l ≤ℤ s → s ≤ℤ u → natural (s -ℤ l) < natural ((u -ℤ l) +ℤ pos 1)
offset-below l u s h k =
    let a = natural-above (s -ℤ l) (omega (arith, ints)) in
    let b = natural-above ((u -ℤ l) +ℤ pos 1) (omega (arith, ints)) in
    omega (arith, ints, a, b)

within-size : (l : ℤ) (u : Option ℤ) (s : ℤ) (e : ℕ) → int_le l s ≡ true → is_below s u ≡ true → size_between l u ≡ Some e → natural (s -ℤ l) < e
within-size l None s e h k g = absurd (cc)
within-size l (Some u) s e h k g =
    let n : natural ((u -ℤ l) +ℤ pos 1) ≡ e = some-equal _ e g in
    let o = offset-below l u s (le_of_test l s h) (le_of_test s u k) in
    omega (arith, n, o)

within-extent : (b : Bound) (s : ℤ) (e : ℕ) → is_within b s ≡ true → extent b ≡ Some e → natural (s -ℤ b.lower) < e
within-extent b s e h g = let p = and_parts (int_le b.lower s) (is_below s b.upper) h in within-size b.lower b.upper s e p.0 p.1 g

same-offset : (l s t : ℤ) → l ≤ℤ s → l ≤ℤ t → natural (s -ℤ l) ≡ natural (t -ℤ l) → s ≡ t
same-offset l s t h k e =
    let a = natural-above (s -ℤ l) (omega (arith, ints)) in
    let b = natural-above (t -ℤ l) (omega (arith, ints)) in
    let c : pos (natural (s -ℤ l)) ≡ pos (natural (t -ℤ l)) = ap pos e in
    omega (arith, ints, a, b, c)

-- ---- no element is past the last

pub product-parts : (o p : Option ℕ) (c : ℕ) → product o p ≡ Some c → (m : ℕ) × (n : ℕ) × (o ≡ Some m) × (p ≡ Some n) × (m * n ≡ c)
product-parts None p c h = absurd cc
product-parts (Some m) None c h = absurd cc
product-parts (Some m) (Some n) c h = (m, n, refl, refl, some-equal (m * n) c h)

by-first-some : (b : Bool) (o e q : ℕ) (rest : Option ℕ) → by_first b o e rest ≡ Some q → (b ≡ true) × ((p : ℕ) × (rest ≡ Some p) × (o + p * e ≡ q))
unfolding by_first
by-first-some false o e q rest h = absurd cc
by-first-some true o e q None h = absurd cc
by-first-some true o e q (Some p) h = (refl, (p, refl, some-equal (o + p * e) q h))

before-last : (bs : Bounds) (ss : List ℤ) (c q : ℕ) → elements bs ≡ Some c → before_element 1 bs ss ≡ Some q → q < c
before-last [] [] c q h k = let m = some-equal 1 c h in let n = some-equal 0 q k in omega (arith, m, n)
before-last [] (s ∷ ss) c q h k = absurd cc
before-last (b ∷ bs) [] c q h k = absurd cc
before-last (b ∷ bs) (s ∷ ss) c q h k =
    let parts = product-parts (extent b) (elements bs) c h in
    let found = by-first-some (is_within b s) (natural (s -ℤ b.lower)) (unwrap_or (extent b) 1) q (before_element 1 bs ss) (sym (first-step b bs s ss) ∙ k) in
    let e : unwrap_or (extent b) 1 ≡ parts.0 = ap (λ x. unwrap_or x 1) parts.2 in
    let less = before-last bs ss parts.1 found.1.0 parts.3 found.1.1 in
    let low = within-extent b s parts.0 found.0 parts.2 in
    below-product (natural (s -ℤ b.lower)) found.1.0 (unwrap_or (extent b) 1) parts.0 parts.1 q c e low less found.1.2 parts.4
  where
    below-product : (o p f m n q c : ℕ) → f ≡ m → o < m → p < n → o + p * f ≡ q → m * n ≡ c → q < c
    below-product o p f m n q c e low less is all =
        let g : p * f ≡ p * m = ap (λ x. p * x) e in
        let bound = mul-add-lt p m o n less low in
        omega (arith, g, bound, is, all)

pub number-within : (bs : Bounds) (ss : List ℤ) (c n : ℕ) → elements bs ≡ Some c → element_number bs ss ≡ Some n → (1 ≤ n) × (n ≤ c)
number-within bs ss c n h k = by (before_element 1 bs ss) refl k
  where
    by : (o : Option ℕ) → before_element 1 bs ss ≡ o → sum 1 o ≡ Some n → (1 ≤ n) × (n ≤ c)
    by None e g = absurd cc
    by (Some q) e g =
        let less = before-last bs ss c q h e in
        let m = some-equal (1 + q) n g in
        (omega (arith, m), omega (arith, m, less))

-- ---- no two elements have one number

-- a quotient and its remainder follow from the number
one-division : (e a b m n : ℕ) → a < e → b < e → a + m * e ≡ b + n * e → (a ≡ b) × (m ≡ n)
one-division e a b zero zero h k g = (omega arith, refl)
one-division e a b zero (suc n) h k g = absurd (omega arith)
one-division e a b (suc m) zero h k g = absurd (omega arith)
one-division e a b (suc m) (suc n) h k g = let p = one-division e a b m n h k (omega arith) in (p.0, ap suc p.1)

same-subscripts : (bs : Bounds) (ss ts : List ℤ) (q : ℕ) → are_dimensions bs ≡ true → before_element 1 bs ss ≡ Some q → before_element 1 bs ts ≡ Some q → ss ≡ ts
same-subscripts [] [] [] q d h k = refl
same-subscripts [] (s ∷ ss) ts q d h k = absurd cc
same-subscripts [] [] (t ∷ ts) q d h k = absurd cc
same-subscripts (b ∷ bs) [] ts q d h k = absurd cc
same-subscripts (b ∷ bs) (s ∷ ss) [] q d h k = absurd cc
same-subscripts (b ∷ bs) (s ∷ ss) (t ∷ ts) q d h k =
    let parts = and_parts (is_between b.lower b.upper bs) (are_dimensions bs) d in
    let e = unwrap_or (extent b) 1 in
    let one = by-first-some (is_within b s) (natural (s -ℤ b.lower)) e q (before_element 1 bs ss) (sym (first-step b bs s ss) ∙ h) in
    let two = by-first-some (is_within b t) (natural (t -ℤ b.lower)) e q (before_element 1 bs ts) (sym (first-step b bs t ts) ∙ k) in
    by-upper b bs s ss t ts parts.0 one.0 two.0 one.1.0 two.1.0 one.1.1 two.1.1 (one.1.2 ∙ sym two.1.2)
    (λ p g f. same-subscripts bs ss ts p parts.1 g f)
  where
    lower-of : (b : Bound) (s : ℤ) → is_within b s ≡ true → b.lower ≤ℤ s
    lower-of b s w = le_of_test b.lower s (and_parts (int_le b.lower s) (is_below s b.upper) w).0

    none-after : (ss : List ℤ) (m : ℕ) → before_element 1 [] ss ≡ Some m → (ss ≡ []) × (m ≡ 0)
    none-after [] m g = (refl, sym (some-equal 0 m g))
    none-after (s ∷ ss) m g = absurd cc

    joined : (s t : ℤ) (ss ts : List ℤ) → s ≡ t → ss ≡ ts → s ∷ ss ≡ t ∷ ts
    joined s t ss ts e f = ap (λ x. x ∷ ss) e ∙ ap (λ xs. t ∷ xs) f

    by-upper : (b : Bound) (bs : Bounds) (s : ℤ) (ss : List ℤ) (t : ℤ) (ts : List ℤ) → is_between b.lower b.upper bs ≡ true → is_within b s ≡ true → is_within b t ≡ true
        → (m n : ℕ) → before_element 1 bs ss ≡ Some m → before_element 1 bs ts ≡ Some n
        → natural (s -ℤ b.lower) + m * unwrap_or (extent b) 1 ≡ natural (t -ℤ b.lower) + n * unwrap_or (extent b) 1
        → ((p : ℕ) → before_element 1 bs ss ≡ Some p → before_element 1 bs ts ≡ Some p → ss ≡ ts) → s ∷ ss ≡ t ∷ ts
    by-upper b bs s ss t ts w ws wt m n f g e more = by b.upper refl
      where
        lows : (b.lower ≤ℤ s) × (b.lower ≤ℤ t)
        lows = (lower-of b s ws, lower-of b t wt)

        last : (bs : Bounds) → is_between b.lower None bs ≡ true → before_element 1 bs ss ≡ Some m → before_element 1 bs ts ≡ Some n → natural (s -ℤ b.lower) + m * 1 ≡ natural (t -ℤ b.lower) + n * 1 → s ∷ ss ≡ t ∷ ts
        last [] i x y z =
            let p = none-after ss m x in
            let r = none-after ts n y in
            joined s t ss ts (same-offset b.lower s t lows.0 lows.1 (omega (arith, p.1, r.1, z))) (p.0 ∙ sym r.0)
        last (c ∷ cs) i x y z = absurd (true≢false (sym i))

        by : (u : Option ℤ) → b.upper ≡ u → s ∷ ss ≡ t ∷ ts
        by None is =
            last bs (sym (ap (λ o. is_between b.lower o bs) is) ∙ w) f g
            (ap (λ o. natural (s -ℤ b.lower) + m * unwrap_or (size_between b.lower o) 1) (sym is) ∙ (e ∙ ap (λ o. natural (t -ℤ b.lower) + n * unwrap_or (size_between b.lower o) 1) is))
        by (Some u) is =
            let size : extent b ≡ Some (natural ((u -ℤ b.lower) +ℤ pos 1)) = ap (size_between b.lower) is in
            let x = natural ((u -ℤ b.lower) +ℤ pos 1) in
            let a = within-extent b s x ws size in
            let c = within-extent b t x wt size in
            let z = ap (λ o. natural (s -ℤ b.lower) + m * unwrap_or o 1) (sym size) ∙ (e ∙ ap (λ o. natural (t -ℤ b.lower) + n * unwrap_or o 1) size) in
            let same = one-division x (natural (s -ℤ b.lower)) (natural (t -ℤ b.lower)) m n a c z in
            joined s t ss ts (same-offset b.lower s t lows.0 lows.1 same.0) (more m f (g ∙ ap Some (sym same.1)))

pub same-element : (bs : Bounds) (ss ts : List ℤ) (n : ℕ) → are_dimensions bs ≡ true → element_number bs ss ≡ Some n → element_number bs ts ≡ Some n → ss ≡ ts
same-element bs ss ts n d h k = by (before_element 1 bs ss) (before_element 1 bs ts) refl refl h k
  where
    by : (o p : Option ℕ) → before_element 1 bs ss ≡ o → before_element 1 bs ts ≡ p → sum 1 o ≡ Some n → sum 1 p ≡ Some n → ss ≡ ts
    by None p e f g i = absurd cc
    by (Some q) None e f g i = absurd cc
    by (Some q) (Some r) e f g i =
        let m = some-equal (1 + q) n g in
        let l = some-equal (1 + r) n i in
        let same : r ≡ q = omega (arith, m, l) in
        same-subscripts bs ss ts q d e (f ∙ ap Some same)
