-- The sites of two accesses, as a pair of numbers.
use mathlib.Core.Bool.{beq}
use Rattle.std.proofs.Common.{◌≡◌, inl, inr, ◌⊎◌, ℕ, ◌+◌, ◌*◌, Bool, true, false, ◌&&◌, ◌||◌, if◌then◌else◌, nat_eq, min, max, refl, arith}
use Rattle.std.proofs.lemmas.Bool.{and_from, and_parts, cases_eq, eqb-true, eq-eqb, or_cases, or_left, or_right}
use Rattle.std.proofs.lemmas.Bool.Decides.{same_from_decides}
use Rattle.hep_accesses.specs.Races.{is_row_of}
use Rattle.hep_accesses.proofs.Sites.{stores-same}
use Rattle.hep_races.specs.declared.event.StepAccess.{StepAccess}
use Rattle.hep_races.specs.declared.rows.Row.{Row}
use Rattle.hep_races.specs.LatestRaces.{share_site}
use Rattle.hep_races.specs.Observed.{row_in, step_access_in}
use Rattle.hep_races.specs.RowTables.{pair_eq, pair_of, site_code}

-- two accesses from the same site have one number
code-from_site : (d f : StepAccess) → share_site d f ≡ true → site_code d.access ≡ site_code f.access
code-from_site d f h =
    let parts = and_parts (nat_eq d.access.site f.access.site) (beq d.access.stores f.access.stores) h in
    let site : d.access.site ≡ f.access.site = eqb-true d.access.site f.access.site parts.0 in
    let stores : d.access.stores ≡ f.access.stores = stores-same d.access.stores f.access.stores parts.1 in
    λ i. if stores i then 2 * site i + 1 else 2 * site i

-- two numbers of sites tell them apart
number-tells : (s t : Bool) (x y : ℕ) → (if s then 2 * x + 1 else 2 * x) ≡ (if t then 2 * y + 1 else 2 * y)
    → (nat_eq x y && beq s t) ≡ true
number-tells true true x y e = and_from (nat_eq x y) true (eq-eqb x y (omega arith)) refl
number-tells true false x y e = absurd (omega arith)
number-tells false true x y e = absurd (omega arith)
number-tells false false x y e = and_from (nat_eq x y) true (eq-eqb x y (omega arith)) refl

-- so two accesses with one number are from the same site
site-from_code : (d f : StepAccess) → site_code d.access ≡ site_code f.access → share_site d f ≡ true
site-from_code d f e = number-tells d.access.stores f.access.stores d.access.site f.access.site e

-- two numbers in either order
either-order : (a b f s : ℕ) → min a b ≡ min f s → max a b ≡ max f s → ((a ≡ f) × (b ≡ s)) ⊎ ((a ≡ s) × (b ≡ f))
either-order a b f s low high = elim (cases_eq a f) [
  | inl e ↦ inl (e, omega arith)
  | inr n ↦ inr (omega arith, omega arith)
]

-- two numbers in either order have one pair
pairs-equal : (a b f s : ℕ) → ((a ≡ f) × (b ≡ s)) ⊎ ((a ≡ s) × (b ≡ f)) → (nat_eq (min a b) (min f s) && nat_eq (max a b) (max f s)) ≡ true
pairs-equal a b f s (inl e) =
    let p = e.0 in
    let q = e.1 in
    and_from (nat_eq (min a b) (min f s)) (nat_eq (max a b) (max f s)) (eq-eqb (min a b) (min f s) (omega arith)) (
    eq-eqb (max a b) (max f s) (omega arith))
pairs-equal a b f s (inr e) =
    let p = e.0 in
    let q = e.1 in
    and_from (nat_eq (min a b) (min f s)) (nat_eq (max a b) (max f s)) (eq-eqb (min a b) (min f s) (omega arith)) (
    eq-eqb (max a b) (max f s) (omega arith))

module _ (d y : StepAccess) (r : Row) where
  -- the sites in the order of the row
  abbrev straight : Bool
  straight = share_site d r.first && share_site y r.second

  -- and in the other order
  abbrev turned : Bool
  turned = share_site d r.second && share_site y r.first

  abbrev same_pair : Bool
  same_pair = pair_eq (pair_of d y) (pair_of r.first r.second)

  -- two accesses with the pair of a row are of its sites
  row-from_pair : same_pair ≡ true → (straight || turned) ≡ true
  row-from_pair h =
      let a = site_code d.access in
      let b = site_code y.access in
      let f = site_code r.first.access in
      let s = site_code r.second.access in
      let parts = and_parts (nat_eq (min a b) (min f s)) (nat_eq (max a b) (max f s)) h in
      elim (either-order a b f s (eqb-true (min a b) (min f s) parts.0) (eqb-true (max a b) (max f s) parts.1)) [
        | inl e ↦
            or_left straight turned (
            and_from (share_site d r.first) (share_site y r.second) (site-from_code d r.first e.0) (site-from_code y r.second e.1))
        | inr e ↦
            or_right straight turned (
            and_from (share_site d r.second) (share_site y r.first) (site-from_code d r.second e.0) (site-from_code y r.first e.1))
      ]

  -- and accesses of its sites have its pair
  pair-from_row : (straight || turned) ≡ true → same_pair ≡ true
  pair-from_row h = elim (or_cases straight turned h) [
    | inl e ↦
        let parts = and_parts (share_site d r.first) (share_site y r.second) e in
        pairs-equal (site_code d.access) (site_code y.access) (site_code r.first.access) (site_code r.second.access) (
        inl (code-from_site d r.first parts.0, code-from_site y r.second parts.1))
    | inr e ↦
        let parts = and_parts (share_site d r.second) (share_site y r.first) e in
        pairs-equal (site_code d.access) (site_code y.access) (site_code r.first.access) (site_code r.second.access) (
        inr (code-from_site d r.second parts.0, code-from_site y r.first parts.1))
  ]

  -- two pairs are the same just where a row of the one is a row of the other
  pub pair-is_row : pair_eq (pair_of d y) (pair_of r.first r.second) ≡ is_row_of nat_eq (step_access_in d) (step_access_in y) (row_in r)
  pair-is_row = same_from_decides same_pair (straight || turned) (row-from_pair, pair-from_row) (λ h. h, λ h. h)
