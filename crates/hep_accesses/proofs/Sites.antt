-- Sites, and rows of them, are told apart by an equivalence.
use mathlib.Core.Bool.{beq}
use Rattle.std.proofs.Common.{◌≡◌, ℕ, Bool, true, false, ◌&&◌, ◌||◌, refl, sym, ap, ◌∙◌}
use Rattle.std.proofs.lemmas.Bool.{and_from, and_parts, or_left}
use Rattle.std.specs.Cmp.{IsEquivalence, bool_eq_equiv}
use Rattle.hep_accesses.specs.Races.{Row, StepAccess, from_same_site, is_row_of}

-- whether both are true doesn't depend on their order
and_swapped : (a b : Bool) → (a && b) ≡ (b && a)
and_swapped true true = refl
and_swapped true false = refl
and_swapped false true = refl
and_swapped false false = refl

-- what an element is like doesn't change where the other one is replaced by one that is like it
pub like_replaced : {X : Type 0} {alike : X → X → Bool} → IsEquivalence alike → (x y z : X) → alike y z ≡ true → alike x y ≡ alike x z
like_replaced laws x y z e = laws.symm x y ∙ laws.congr y z x e ∙ laws.symm z x

-- what `beq` tells apart differs
pub stores-same : (a b : Bool) → beq a b ≡ true → a ≡ b
stores-same true true e = refl
stores-same true false e = sym e
stores-same false true e = e
stores-same false false e = refl

module _ {L S : Type 0} (alike : S → S → Bool) (laws : IsEquivalence alike) where
  -- to be from the same site, and to store or not alike, is an equivalence
  pub site-equivalence : IsEquivalence (from_same_site {L = L} alike)
  site-equivalence =
      record {
        refl = λ d. and_from (alike d.access.site d.access.site) (beq d.access.stores d.access.stores)
            (laws.refl d.access.site) (bool_eq_equiv.refl d.access.stores);
        symm = λ d f. ap (λ b. b && beq d.access.stores f.access.stores) (laws.symm d.access.site f.access.site)
            ∙ ap (λ b. alike f.access.site d.access.site && b) (bool_eq_equiv.symm d.access.stores f.access.stores);
        congr = λ d f g e. both d f g (and_parts (alike d.access.site f.access.site) (beq d.access.stores f.access.stores) e);
      }
    where
      both : (d f g : StepAccess L S) → (alike d.access.site f.access.site ≡ true) × (beq d.access.stores f.access.stores ≡ true)
          → from_same_site alike d g ≡ from_same_site alike f g
      both d f g e =
          ap (λ b. b && beq d.access.stores g.access.stores) (laws.congr d.access.site f.access.site g.access.site e.0)
          ∙ ap (λ b. alike f.access.site g.access.site && b) (bool_eq_equiv.congr d.access.stores f.access.stores g.access.stores e.1)

  -- two accesses have a row of their own sites
  pub row-itself : (d y : StepAccess L S) (n : ℕ) → is_row_of alike d y (record { first = d; second = y; times = n }) ≡ true
  row-itself d y n =
      or_left (from_same_site alike d d && from_same_site alike y y) (from_same_site alike d y && from_same_site alike y d) (
      and_from (from_same_site alike d d) (from_same_site alike y y) (site-equivalence.refl d) (site-equivalence.refl y))

  -- a row of one of two accesses from the same site is one of the other
  pub row-replaced : (d f y : StepAccess L S) (r : Row L S) → from_same_site alike d f ≡ true
      → is_row_of alike f y r ≡ is_row_of alike d y r
  row-replaced d f y r e =
      ap (λ b. (b && from_same_site alike y r.second) || (from_same_site alike f r.second && from_same_site alike y r.first)) (
      sym (site-equivalence.congr d f r.first e))
      ∙ ap (λ b. (from_same_site alike d r.first && from_same_site alike y r.second) || (b && from_same_site alike y r.first)) (
      sym (site-equivalence.congr d f r.second e))

  -- a row is of the sites of two accesses just where the row that they begin is of its own
  pub row-swapped : (d y : StepAccess L S) (n : ℕ) (r : Row L S)
      → is_row_of alike r.first r.second (record { first = d; second = y; times = n }) ≡ is_row_of alike d y r
  row-swapped d y n r =
      ap (λ a. (a && from_same_site alike r.second y) || (from_same_site alike r.first y && from_same_site alike r.second d)) (
      site-equivalence.symm r.first d)
      ∙ ap (λ b. (from_same_site alike d r.first && b) || (from_same_site alike r.first y && from_same_site alike r.second d)) (
      site-equivalence.symm r.second y)
      ∙ ap (λ a. (from_same_site alike d r.first && from_same_site alike y r.second) || (a && from_same_site alike r.second d)) (
      site-equivalence.symm r.first y)
      ∙ ap (λ b. (from_same_site alike d r.first && from_same_site alike y r.second) || (from_same_site alike y r.first && b)) (
      site-equivalence.symm r.second d)
      ∙ ap (λ c. (from_same_site alike d r.first && from_same_site alike y r.second) || c) (
      and_swapped (from_same_site alike y r.first) (from_same_site alike d r.second))
