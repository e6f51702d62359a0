-- From a cell its owner: the last one that begins there or before, in a row.
use Rattle.std.proofs.Common.{◌≡◌, ℕ, zero, suc, ◌+◌, ◌-◌, ◌<◌, ◌≤◌, Bool, true, false, List, [], ◌∷◌, ◌++◌, map, length, get_or, Some, None, refl, ap, sym, ◌∙◌, subst, arith, true≢false, if◌then◌else◌, nat_le, nat_lt}
use Rattle.std.specs.List.Sorted.{IsNonDecreasingBy}
use Rattle.std.specs.Option.{option_or}
use Rattle.std.proofs.lemmas.Bool.Decides.{nat_tests}
use Rattle.std.proofs.lemmas.Option.{none-some, same_Some}
use Rattle.hep_layout.specs.Words.{Row, cells_in, first_in, owner_in}
use Rattle.hep_layout.proofs.Rows.{has_key}
use Rattle.hep_image.specs.Owners.{last_before}
use Rattle.hep_image.proofs.Lookups.{none-begun}

-- ---- rows

-- where a cell is that of a key of the first row, and where of one of the second
owner_behind : {K : Type 0} (es fs : Row K) (n : ℕ) → cells_in es ≤ n → owner_in (es ++ fs) n ≡ owner_in fs (n - cells_in es)
owner_behind [] fs n h = ap (owner_in fs) (omega arith)
owner_behind (e ∷ es) fs n h =
    let above : nat_lt n e.1 ≡ false = grind (arith, nat_tests) in
    let less : n - e.1 - cells_in es ≡ n - (e.1 + cells_in es) = omega arith in
    ap (λ b. if b then Some (e.0, n) else owner_in (es ++ fs) (n - e.1)) above ∙ (owner_behind es fs (n - e.1) (omega (arith, h)) ∙ ap (owner_in fs) less)

owner_within : {K : Type 0} (es fs : Row K) (n : ℕ) → n < cells_in es → owner_in (es ++ fs) n ≡ owner_in es n
owner_within [] fs n h = absurd (omega (arith, h))
owner_within (e ∷ es) fs n h = by (nat_lt n e.1) refl (owner_within es fs (n - e.1)) where
  by : (b : Bool) → nat_lt n e.1 ≡ b → (n - e.1 < cells_in es → owner_in (es ++ fs) (n - e.1) ≡ owner_in es (n - e.1))
      → (if b then Some (e.0, n) else owner_in (es ++ fs) (n - e.1)) ≡ (if b then Some (e.0, n) else owner_in es (n - e.1))
  by true t rest = refl
  by false t rest = let from : e.1 ≤ n = grind (arith, nat_tests) in rest (omega (arith, h, from))

-- an owner is a key of the row
pub owner_key : {K : Type 0} (same : K → K → Bool) (self : (k : K) → same k k ≡ true) (es : Row K) (n i : ℕ) (k : K)
    → owner_in es n ≡ Some (k, i) → has_key (same k) es ≡ true
owner_key same self [] n i k e = absurd (none-some (k, i) e)
owner_key same self (d ∷ ds) n i k e = by (nat_lt n d.1) e (owner_key same self ds (n - d.1) i k) where
  here : (b : Bool) → b ≡ true → (if b then true else has_key (same k) ds) ≡ true
  here true t = refl
  here false t = absurd cc

  there : (b : Bool) → has_key (same k) ds ≡ true → (if b then true else has_key (same k) ds) ≡ true
  there true t = refl
  there false t = t

  by : (b : Bool) → (if b then Some (d.0, n) else owner_in ds (n - d.1)) ≡ Some (k, i) → (owner_in ds (n - d.1) ≡ Some (k, i) → has_key (same k) ds ≡ true)
      → (if same k d.0 then true else has_key (same k) ds) ≡ true
  by true f rest = here (same k d.0) (ap (same k) (ap (λ p. p.0) (same_Some (d.0, n) (k, i) f)) ∙ self k)
  by false f rest = there (same k d.0) (rest f)

-- where a key isn't in the second row, the cell is one of the first
pub owner_front : {K : Type 0} (same : K → K → Bool) (self : (k : K) → same k k ≡ true) (es fs : Row K) (n i : ℕ) (k : K)
    → has_key (same k) fs ≡ false → owner_in (es ++ fs) n ≡ Some (k, i) → owner_in es n ≡ Some (k, i)
owner_front same self es fs n i k other e = by (nat_lt n (cells_in es)) refl where
  by : (b : Bool) → nat_lt n (cells_in es) ≡ b → owner_in es n ≡ Some (k, i)
  by true t = let less : n < cells_in es = grind (arith, nat_tests) in sym (owner_within es fs n less) ∙ e
  by false t =
      let from : cells_in es ≤ n = grind (arith, nat_tests) in
      let there = owner_key same self fs (n - cells_in es) i k (sym (owner_behind es fs n from) ∙ e) in
      absurd (true≢false (sym there ∙ other))

-- where it isn't in the first, one of the second
pub owner_back : {K : Type 0} (same : K → K → Bool) (self : (k : K) → same k k ≡ true) (es fs : Row K) (n i : ℕ) (k : K)
    → has_key (same k) es ≡ false → owner_in (es ++ fs) n ≡ Some (k, i) → (cells_in es ≤ n) × (owner_in fs (n - cells_in es) ≡ Some (k, i))
owner_back same self es fs n i k other e = by (nat_lt n (cells_in es)) refl where
  by : (b : Bool) → nat_lt n (cells_in es) ≡ b → (cells_in es ≤ n) × (owner_in fs (n - cells_in es) ≡ Some (k, i))
  by true t =
      let less : n < cells_in es = grind (arith, nat_tests) in
      absurd (true≢false (sym (owner_key same self es n i k (sym (owner_within es fs n less) ∙ e)) ∙ other))
  by false t = let from : cells_in es ≤ n = grind (arith, nat_tests) in (from, sym (owner_behind es fs n from) ∙ e)

-- ---- rows of which each key has a thing that knows its first cell

module _ {K V : Type 0} (make : K → V) (first : V → ℕ) where
  abbrev pub made : Row K → List V
  made es = map (λ (e : K × ℕ). make e.0) es

  -- the keys begin one behind the other, from a cell on
  abbrev pub AreFrom : ℕ → Row K → Type 0
  AreFrom n [] = Unit {0}
  AreFrom n (e ∷ es) = (first (make e.0) ≡ n) × AreFrom (n + e.1) es

  pub from-append : (n : ℕ) (es fs : Row K) → AreFrom n es → AreFrom (n + cells_in es) fs → AreFrom n (es ++ fs)
  from-append n [] fs h g = let same : n + 0 ≡ n = omega arith in subst (λ m. AreFrom m fs) same g
  from-append n (e ∷ es) fs h g =
      let same : n + (e.1 + cells_in es) ≡ n + e.1 + cells_in es = omega arith in
      (h.0, from-append (n + e.1) es fs h.1 (subst (λ m. AreFrom m fs) same g))

  -- none begins before that cell
  pub from-above : (n : ℕ) (es : Row K) → AreFrom n es → (k : ℕ) (d : V) → k < length (made es) → n ≤ first (get_or (made es) k d)
  from-above n [] h k d inside = absurd (omega (arith, inside))
  from-above n (e ∷ es) h zero d inside = omega (arith, h.0)
  from-above n (e ∷ es) h (suc k) d inside = omega (arith, from-above (n + e.1) es h.1 k d (omega (arith, inside)))

  pub from-rising : (n : ℕ) (es : Row K) → AreFrom n es → IsNonDecreasingBy first (made es)
  from-rising n [] h i j d less inside = absurd (omega (arith, inside))
  from-rising n (e ∷ es) h zero zero d less inside = omega arith
  from-rising n (e ∷ es) h zero (suc j) d less inside = omega (arith, h.0, from-above (n + e.1) es h.1 j d (omega (arith, inside)))
  from-rising n (e ∷ es) h (suc i) zero d less inside = absurd (omega (arith, less))
  from-rising n (e ∷ es) h (suc i) (suc j) d less inside = from-rising (n + e.1) es h.1 i j d (omega (arith, less)) (omega (arith, inside))

  -- whose cell it is, is found
  pub from-found : (n m i : ℕ) (k : K) (es : Row K) → AreFrom n es → owner_in es m ≡ Some (k, i)
      → (last_before first (made es) (n + m) ≡ Some (make k)) × (first (make k) + i ≡ n + m)
  from-found n m i k [] h e = absurd (none-some (k, i) e)
  from-found n m i k (d ∷ ds) h e = by (nat_lt m d.1) refl e (from-found (n + d.1) (m - d.1) i k ds h.1) where
    by : (b : Bool) → nat_lt m d.1 ≡ b → (if b then Some (d.0, m) else owner_in ds (m - d.1)) ≡ Some (k, i)
        → (owner_in ds (m - d.1) ≡ Some (k, i) → (last_before first (made ds) (n + d.1 + (m - d.1)) ≡ Some (make k)) × (first (make k) + i ≡ n + d.1 + (m - d.1)))
        → (option_or (last_before first (made ds) (n + m)) (if nat_le (first (make d.0)) (n + m) then Some (make d.0) else None) ≡ Some (make k)) × (first (make k) + i ≡ n + m)
    by true t f rest =
        let less : m < d.1 = grind (arith, nat_tests) in
        let key : d.0 ≡ k = ap (λ p. p.0) (same_Some (d.0, m) (k, i) f) in
        let index : m ≡ i = ap (λ p. p.1) (same_Some (d.0, m) (k, i) f) in
        let begins : nat_le (first (make d.0)) (n + m) ≡ true = grind (arith, nat_tests, h.0) in
        let behind = none-begun first (n + m) (made ds) (λ j v inside. omega (arith, from-above (n + d.1) ds h.1 j v inside, less)) in
        let at : first (make k) ≡ n = ap (λ z. first (make z)) (sym key) ∙ h.0 in (
          ap (λ o. option_or o (if nat_le (first (make d.0)) (n + m) then Some (make d.0) else None)) behind
              ∙ (ap (λ b. if b then Some (make d.0) else None) begins ∙ ap (λ z. Some (make z)) key),
          omega (arith, at, index),
        )
    by false t f rest =
        let from : d.1 ≤ m = grind (arith, nat_tests) in
        let same : n + d.1 + (m - d.1) ≡ n + m = omega (arith, from) in
        let found = rest f in (
          ap (λ o. option_or o (if nat_le (first (make d.0)) (n + m) then Some (make d.0) else None)) (ap (last_before first (made ds)) (sym same) ∙ found.0),
          found.1 ∙ same,
        )

-- ---- keys of which each stands once

module _ {K V : Type 0} (make : K → V) (first : V → ℕ)
    (same : K → K → Bool) (self : (k : K) → same k k ≡ true) (equal : (j k : K) → same j k ≡ true → j ≡ k) where
  abbrev pub AreApart : Row K → Type 0
  AreApart [] = Unit {0}
  AreApart (e ∷ es) = (has_key (same e.0) es ≡ false) × AreApart es

  other : (e : K) (es : Row K) (k : K) → has_key (same e) es ≡ false → has_key (same k) es ≡ true → same k e ≡ false
  other e es k none there = by (same k e) refl where
    by : (t : Bool) → same k e ≡ t → t ≡ false
    by true t = absurd (true≢false (sym there ∙ (ap (λ j. has_key (same j) es) (equal k e t) ∙ none)))
    by false t = refl

  -- where each key begins behind those before it, they begin one behind the other
  pub from-firsts : (n : ℕ) (es : Row K) → AreApart es → ((k : K) → has_key (same k) es ≡ true → first (make k) ≡ n + first_in (same k) es)
      → AreFrom make first n es
  from-firsts n [] h at = tt
  from-firsts n (e ∷ es) h at = (here (same e.0 e.0) (self e.0) (at e.0), from-firsts (n + e.1) es h.1 behind) where
    here : (b : Bool) → b ≡ true → ((if b then true else has_key (same e.0) es) ≡ true → first (make e.0) ≡ n + (if b then 0 else e.1 + first_in (same e.0) es))
        → first (make e.0) ≡ n
    here true t f = omega (arith, f refl)
    here false t f = absurd cc

    behind : (k : K) → has_key (same k) es ≡ true → first (make k) ≡ n + e.1 + first_in (same k) es
    behind k there = by (same k e.0) (other e.0 es k h.0 there) (at k) where
      by : (b : Bool) → b ≡ false → ((if b then true else has_key (same k) es) ≡ true → first (make k) ≡ n + (if b then 0 else e.1 + first_in (same k) es))
          → first (make k) ≡ n + e.1 + first_in (same k) es
      by true t f = absurd cc
      by false t f = omega (arith, f there)
