-- The first of violations, put together from parts.
use Rattle.std.proofs.Common.{◌≡◌, Bool, true, false, Option, Some, None, List, [], ◌∷◌, ◌++◌, refl, ◌∙◌, sym, ap, arith, if◌then◌else◌}
use Rattle.std.specs.List.{flat_map}
use Rattle.std.proofs.lemmas.Bool.Decides.{nat_tests}
use Rattle.hep_conditions.specs.declared.violation.Violation.{Violation}
use Rattle.hep_conditions.specs.Words.{Violations, precedes, first_of, first_of_two}

pub first_of_two-none : (a : Option Violation) → first_of_two a None ≡ a
first_of_two-none None = refl
first_of_two-none (Some v) = refl

-- `precedes` is an order, and so is that nothing precedes
precedes-trans : (u v w : Violation) → precedes w v ≡ true → precedes v u ≡ true → precedes w u ≡ true
precedes-trans u v w p q = grind (arith, nat_tests)

not_precedes-trans : (u v w : Violation) → precedes w v ≡ false → precedes v u ≡ false → precedes w u ≡ false
not_precedes-trans u v w p q = grind (arith, nat_tests)

pub first_of_two-assoc : (a b c : Option Violation) → first_of_two (first_of_two a b) c ≡ first_of_two a (first_of_two b c)
first_of_two-assoc None b c = refl
first_of_two-assoc (Some u) None c = refl
first_of_two-assoc (Some u) (Some v) None = first_of_two-none (first_of_two (Some u) (Some v))
first_of_two-assoc (Some u) (Some v) (Some w) = by (precedes v u) (precedes w v) refl refl
  where
    by : (p q : Bool) → precedes v u ≡ p → precedes w v ≡ q
        → first_of_two (Some (if p then v else u)) (Some w) ≡ first_of_two (Some u) (Some (if q then w else v))
    by true true e k = rw (k, precedes-trans u v w k e) refl
    by true false e k = rw (k, e) refl
    by false true e k = refl
    by false false e k = rw (not_precedes-trans u v w k e, e) refl

-- lists put together
pub first_of-append : (vs ws : Violations) → first_of (vs ++ ws) ≡ first_of_two (first_of vs) (first_of ws)
first_of-append [] ws = refl
first_of-append (v ∷ vs) ws = rw (first_of-append vs ws) (sym (first_of_two-assoc (Some v) (first_of vs) (first_of ws)))

-- one element more of a loop that keeps the first so far
pub first_of-next : {A : Type 0} (f : A → Violations) (best : Option Violation) (x : A) (xs : List A)
    → first_of_two (first_of_two best (first_of (f x))) (first_of (flat_map f xs)) ≡ first_of_two best (first_of (flat_map f (x ∷ xs)))
first_of-next f best x xs =
    first_of_two-assoc best (first_of (f x)) (first_of (flat_map f xs)) ∙ ap (first_of_two best) (sym (first_of-append (f x) (flat_map f xs)))

-- nothing is reported only where there is no violation
pub none_reported : (vs : Violations) → first_of vs ≡ None → vs ≡ []
none_reported [] h = refl
none_reported (v ∷ vs) h = cc
