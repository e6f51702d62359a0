-- Sites are compared by an equivalence.
use Rattle.std.proofs.Common.{◌≡◌, Bool, true, false, ◌&&◌, nat_eq, refl, sym, ap, ◌∙◌}
use Rattle.std.proofs.lemmas.Bool.{and_from, and_parts, eq-eqb, eqb-true}
use Rattle.std.specs.Cmp.{IsEquivalence}
use Rattle.hep_source.proofs.NameTests.{equal_names, same_name-self}
use Rattle.hep_machine.specs.Words.{same_name}
use Rattle.hep_accesses.specs.Accesses.{Site, same_site}

-- a test that holds of an element and itself, and of equal ones alone, is an equivalence
decides-equivalence : {X : Type 0} (E : X → X → Bool) → ((x : X) → E x x ≡ true) → ((x y : X) → E x y ≡ true → x ≡ y) → IsEquivalence E
decides-equivalence {X} E itself same =
    record {
      refl = itself;
      symm = λ x y. swapped x y (E x y) (E y x) refl refl;
      congr = λ x y z e. ap (λ w. E w z) (same x y e);
    }
  where
    swapped : (x y : X) (a b : Bool) → E x y ≡ a → E y x ≡ b → a ≡ b
    swapped x y true true e f = refl
    swapped x y false false e f = refl
    swapped x y true false e f = sym (itself y) ∙ ap (E y) (sym (same x y e)) ∙ f
    swapped x y false true e f = sym e ∙ ap (E x) (same y x f) ∙ itself x

-- each site is the same as itself
site-itself : (x : Site) → same_site x x ≡ true
site-itself x =
    and_from (nat_eq x.unit x.unit) (nat_eq x.line x.line && same_name x.name x.name) (eq-eqb x.unit x.unit refl) (
    and_from (nat_eq x.line x.line) (same_name x.name x.name) (eq-eqb x.line x.line refl) (same_name-self x.name))

-- the test holds of equal sites alone
site-same : (x y : Site) → same_site x y ≡ true → x ≡ y
site-same x y e =
    let both = and_parts (nat_eq x.unit y.unit) (nat_eq x.line y.line && same_name x.name y.name) e in
    let more = and_parts (nat_eq x.line y.line) (same_name x.name y.name) both.1 in
    let u = eqb-true x.unit y.unit both.0 in
    let l = eqb-true x.line y.line more.0 in
    let n = equal_names x.name y.name more.1 in
    λ i. record { unit = u i; line = l i; name = n i }

-- the test of sites is an equivalence
pub site-equivalence : IsEquivalence same_site
site-equivalence = decides-equivalence same_site site-itself site-same
