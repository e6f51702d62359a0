-- Bounds of arrays, dimension by dimension.
use Rattle.std.proofs.Common.{◌≡◌, Bool, true, false, ◌&&◌, ◌||◌, if◌then◌else◌, Option, List, [], ◌∷◌, length, refl, ap, sym, ◌∙◌}
use Rattle.std.specs.Bool.{◌==◌}
use Rattle.std.specs.List.{list_all, list_any, flat_map}
use Rattle.std.proofs.lemmas.List.Folds.{list_any-append}
use Rattle.hep_machine.specs.Words.{Declarator, Dimension, Statement, Constants, bounds_of, value_among, is_nonempty, is_dummy, Bounds}
use Rattle.hep_conditions.specs.Words.{Parameters, is_dimension, are_bounds_open, is_shape_if_known, has_bounds}
use Rattle.hep_names.proofs.Notes.{not-empty}

-- a test of what elements hold, element by element
pub any-within : {A B : Type 0} (test : B → Bool) (f : A → List B) (xs : List A) → list_any (λ x. list_any test (f x)) xs ≡ list_any test (flat_map f xs)
any-within test f [] = refl
any-within test f (x ∷ xs) = ap (λ b. list_any test (f x) || b) (any-within test f xs) ∙ sym (list_any-append test (f x) (flat_map f xs))

-- the parts of the test of a declarator with dimensions
pub bounds-right : (unit : List Statement) (ps : Parameters) (d : Declarator) (of_dummy a o s : Bool) (ds : List Dimension) (k : Constants) (bs : Option Bounds) (r : Bool)
    → (length ds == 0) ≡ false → r ≡ (a && (o || s)) → a ≡ list_all (is_dimension unit ps of_dummy) ds → of_dummy ≡ is_dummy unit d.occurrence.name → ds ≡ d.dimensions
    → o ≡ are_bounds_open unit ps d → s ≡ is_shape_if_known bs → bs ≡ bounds_of unit (value_among k) ds → k ≡ ps.known → r ≡ has_bounds unit ps d
bounds-right unit ps d of_dummy a o s ds k bs r hn hr ha hd hs ho hx hb hk =
    hr
    ∙ (ap (λ c. c && (o || s)) (ha ∙ (ap (λ b. list_all (is_dimension unit ps b) ds) hd ∙ ap (list_all (is_dimension unit ps (is_dummy unit d.occurrence.name))) hs))
    ∙ (ap (λ c. list_all (is_dimension unit ps (is_dummy unit d.occurrence.name)) d.dimensions && (c || s)) ho
    ∙ (ap (λ c. list_all (is_dimension unit ps (is_dummy unit d.occurrence.name)) d.dimensions && (are_bounds_open unit ps d || c))
    (hx ∙ ap is_shape_if_known (hb ∙ (ap (λ z. bounds_of unit (value_among z) ds) hk ∙ ap (bounds_of unit (value_among ps.known)) hs)))
    ∙ sym (ap (λ b. if b then list_all (is_dimension unit ps (is_dummy unit d.occurrence.name)) d.dimensions && (are_bounds_open unit ps d || is_shape_if_known (bounds_of unit (value_among ps.known) d.dimensions)) else true)
    (sym (ap is_nonempty hs) ∙ not-empty ds hn)))))
