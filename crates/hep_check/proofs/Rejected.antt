-- What is told of a program that isn't accepted are violations of it, and none that is told is left out behind the first one.
use Rattle.std.proofs.Common.{◌≡◌, ◌⊎◌, inl, inr, Bool, true, false, not, ◌&&◌, if◌then◌else◌, [], ◌∷◌, Option, Some, None, refl, sym, ap, subst, ◌∙◌, ⊎_elim, true≢false}
use Rattle.std.specs.List.{Contains}
use Rattle.std.specs.Option.{option_eq}
use Rattle.std.proofs.lemmas.Bool.{and_parts, eqb-true}
use Rattle.std.proofs.lemmas.List.Elements.{Contains-append_cases}
use Rattle.std.proofs.lemmas.Option.{none-some, same_Some}
use Rattle.hep_source.proofs.NameTests.{equal_names, name_eq-is}
use Rattle.hep_machine.specs.Words.{Name, Units, name_eq}
use Rattle.hep_conditions.specs.declared.violation.Violation.{Violation}
use Rattle.hep_conditions.specs.Violations.{earlier}
use Rattle.hep_conditions.specs.Words.{Violations, first_of, first_violation, precedes, violations}
use Rattle.hep_check.specs.AllViolations.{told}
use Rattle.hep_check.proofs.Members.{contains-here, contains-more, contains-one, none-contained}
use Rattle.hep_check.proofs.Sound.{told-within}
use Rattle.hep_check.specs.Diagnostics.{further, is_same, others}

-- the first of violations is one of them
first-one : (vs : Violations) (v : Violation) → first_of vs ≡ Some v → Contains vs v
first-one [] v e = absurd (none-some v e)
first-one (w ∷ ws) v e = by (first_of ws) refl (λ u f. first-one ws u f) (same_Some (earlier w (first_of ws)) v e)
  where
    one : (b : Bool) (u : Violation) → Contains ws u → (if b then u else w) ≡ v → Contains (w ∷ ws) v
    one true u m g = contains-more v w ws (subst (Contains ws) g m)
    one false u m g = subst (Contains (w ∷ ws)) g (contains-here w ws)

    by : (o : Option Violation) → first_of ws ≡ o → ((u : Violation) → first_of ws ≡ Some u → Contains ws u) → earlier w o ≡ v → Contains (w ∷ ws) v
    by None f k g = subst (Contains (w ∷ ws)) g (contains-here w ws)
    by (Some u) f k g = one (precedes u w) u (k u f) g

-- the others are among those that were looked through
others-one : (first last : Violation) (ws : Violations) (v : Violation) → Contains (others first last ws) v → Contains ws v
others-one first last [] v h = h
others-one first last (w ∷ ws) v h =
    by (not (is_same first w) && not (is_same last w)) (λ g. others-one first w ws v g) (λ g. others-one first last ws v g) h
  where
    by : (b : Bool) → (Contains (others first w ws) v → Contains ws v) → (Contains (others first last ws) v → Contains ws v)
        → Contains (if b then w ∷ others first w ws else others first last ws) v → Contains (w ∷ ws) v
    by true m k g =
        ⊎_elim (λ one. subst (Contains (w ∷ ws)) (sym (contains-one w v one)) (contains-here w ws)) (λ more. contains-more v w ws (m more))
        (Contains-append_cases (w ∷ []) (others first w ws) v g)
    by false m k g = contains-more v w ws (k g)

pub told-violation : (program : Units) (first v : Violation) → first_violation program ≡ Some first → Contains (first ∷ further program first) v → Contains (violations program) v
told-violation program first v e h =
    ⊎_elim (λ one. subst (Contains (violations program)) (sym (contains-one first v one)) (first-one (violations program) first e))
    (λ more. told-within program v (others-one first first (told program) v more))
    (Contains-append_cases (first ∷ []) (further program first) v h)

-- ---- none that is told is left out

same-names : (x y : Option Name) → option_eq name_eq x y ≡ true → x ≡ y
same-names None None e = refl
same-names None (Some y) e = absurd (true≢false (sym e))
same-names (Some x) None e = absurd (true≢false (sym e))
same-names (Some x) (Some y) e = ap (λ z. Some z) (equal_names x y (sym (name_eq-is x y) ∙ e))

same-violation : (v w : Violation) → is_same v w ≡ true → v ≡ w
same-violation v w e =
    let lines = and_parts _ _ e in
    let numbers = and_parts _ _ lines.1 in
    let names = and_parts _ _ numbers.1 in
    let line = eqb-true v.line w.line lines.0 in
    let number = eqb-true v.number w.number numbers.0 in
    let name = same-names v.name w.name names.0 in
    let position = eqb-true v.position w.position names.1 in
    λ i. record { line = line i; number = number i; name = name i; position = position i }

-- the first one, the one before it, or among these
abbrev Kept : Violation → Violation → Violations → Violation → Type 0
Kept first last us v = (v ≡ first) ⊎ ((v ≡ last) ⊎ Contains us v)

-- one that is kept is the one before those behind it
kept-here : (first last w v : Violation) (us : Violations) → Kept first w us v → Kept first last (w ∷ us) v
kept-here first last w v us (inl e) = inl e
kept-here first last w v us (inr (inl e)) = inr (inr (subst (Contains (w ∷ us)) (sym e) (contains-here w us)))
kept-here first last w v us (inr (inr m)) = inr (inr (contains-more v w us m))

others-kept : (first last : Violation) (ws : Violations) (v : Violation) → Contains ws v → Kept first last (others first last ws) v
others-kept first last [] v h = none-contained v h
others-kept first last (w ∷ ws) v h =
    by (is_same first w) (is_same last w) refl refl (Contains-append_cases (w ∷ []) ws v h) (λ m. others-kept first w ws v m)
    (λ m. others-kept first last ws v m)
  where
    by : (a b : Bool) → is_same first w ≡ a → is_same last w ≡ b → Contains (w ∷ []) v ⊎ Contains ws v
        → (Contains ws v → Kept first w (others first w ws) v) → (Contains ws v → Kept first last (others first last ws) v)
        → Kept first last (if not a && not b then w ∷ others first w ws else others first last ws) v
    by true b e f (inl one) k m = inl (contains-one w v one ∙ sym (same-violation first w e))
    by true b e f (inr more) k m = m more
    by false true e f (inl one) k m = inr (inl (contains-one w v one ∙ sym (same-violation last w f)))
    by false true e f (inr more) k m = m more
    by false false e f (inl one) k m =
        inr (inr (subst (Contains (w ∷ others first w ws)) (sym (contains-one w v one)) (contains-here w (others first w ws))))
    by false false e f (inr more) k m = kept-here first last w v (others first w ws) (k more)

pub told-kept : (program : Units) (first v : Violation) → Contains (told program) v → Contains (first ∷ further program first) v
told-kept program first v h = by (others-kept first first (told program) v h)
  where
    by : Kept first first (further program first) v → Contains (first ∷ further program first) v
    by (inl e) = subst (Contains (first ∷ further program first)) (sym e) (contains-here first (further program first))
    by (inr (inl e)) = subst (Contains (first ∷ further program first)) (sym e) (contains-here first (further program first))
    by (inr (inr m)) = contains-more v first (further program first) m
