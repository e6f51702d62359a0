-- The local variables of a unit, by its tables.
use Rattle.std.proofs.Common.{◌≡◌, ℕ, Bool, not, ◌&&◌, is_some, Option, List, [], ◌∷◌, refl, ap, ◌∙◌}
use Rattle.std.specs.List.{filter}
use Rattle.hep_machine.specs.Words.{Name, Statement, is_among, index_among, dummies_of, BlockName, common_block, is_constant_name, is_local, names_of, locals_of}
use Rattle.hep_names.specs.Tables.{is_local_by}
use Rattle.hep_source.proofs.NameTests.{index_there}

filter-same : (p q : Name → Bool) → ((x : Name) → p x ≡ q x) → (xs : List Name) → filter p xs ≡ filter q xs
filter-same p q h [] = refl
filter-same p q h (x ∷ xs) = rw (h x, filter-same p q h xs) refl

-- tables that give what the unit's statements say
pub locals-owned : (unit : List Statement) (dummies : Name → Option ℕ) (blocks : Name → Option BlockName) (constants : Name → Bool) (names : List Name)
    → ((x : Name) → dummies x ≡ index_among x (dummies_of unit)) → ((x : Name) → blocks x ≡ common_block unit x) → ((x : Name) → constants x ≡ is_constant_name unit x) → names ≡ names_of unit
    → filter (is_local_by dummies blocks constants) names ≡ locals_of unit
locals-owned unit dummies blocks constants names d b k n =
    filter-same (is_local_by dummies blocks constants) (is_local unit) same names ∙ ap (filter (is_local unit)) n
  where
    same : (x : Name) → is_local_by dummies blocks constants x ≡ is_local unit x
    same x =
        let ds = dummies_of unit in
        ap (λ o. not (is_some o) && (not (is_some (blocks x)) && not (constants x))) (d x)
        ∙ (ap (λ a. not a && (not (is_some (blocks x)) && not (constants x))) (index_there x ds)
        ∙ (ap (λ o. not (is_among x ds) && (not (is_some o) && not (constants x))) (b x) ∙ ap (λ a. not (is_among x ds) && (not (is_some (common_block unit x)) && not a)) (k x)))
