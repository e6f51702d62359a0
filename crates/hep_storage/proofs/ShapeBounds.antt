-- Shapes that a table gets, and subscripts within their bounds.
use Rattle.std.proofs.Common.{◌≡◌, Bool, true, false, cond, Option, Some, refl, ap, sym, ◌∙◌, subst, ◌<◌, ℕ, ◌+◌, ℤ, List, ◌∷◌, length, drop, get_or, None, is_some, if◌then◌else◌}
use Rattle.std.proofs.lemmas.Option.{same_Some}
use Rattle.std.proofs.lemmas.List.{drop_more}
use Rattle.hep_machine.specs.Words.{Dimension, Name, Statement, Values, constant_value, bounds_of, if_shape, shape_by, dimensions_of, Bounds, is_within, element_number, before_element, sum, name_eq}
use Rattle.hep_source.proofs.NameTests.{name_eq-is, equal_names}
use Rattle.hep_storage.specs.ArrayShapes.{IsShaped, IsTable}
use Rattle.hep_storage.specs.declared.array_shapes.ArrayShape.{ArrayShape}
use Rattle.hep_machine.specs.declared.shape.Bound.{Bound}
use Rattle.hep_names.proofs.Elements.{first-step, by_first}

pub table-turn : (unit : List Statement) (values : Values) (old new : Name → Option (Option ArrayShape)) (x : Name) (value : Option ArrayShape) (o : Option Bounds) (ds : List Dimension)
    → values ≡ constant_value unit → IsTable unit old → ((y : Name) → new y ≡ cond (name_eq x y) (Some value) (old y)) → IsShaped value (if_shape o) → o ≡ bounds_of unit values ds
    → ds ≡ dimensions_of unit x → IsTable unit new
table-turn unit values old new x value o ds known table updated is e f = λ y s h. by (name_eq x y) y refl s (sym (updated y) ∙ h)
  where
    here : IsShaped value (shape_by unit (constant_value unit) x)
    here = subst (λ p. IsShaped value (if_shape p)) (e ∙ (ap (λ (v : Values). bounds_of unit v ds) known ∙ ap (bounds_of unit (constant_value unit)) f)) is

    by : (b : Bool) (y : Name) → name_eq x y ≡ b → (s : Option ArrayShape) → cond b (Some value) (old y) ≡ Some s → IsShaped s (shape_by unit (constant_value unit) y)
    by true y g s h =
        subst (λ z. IsShaped s (shape_by unit (constant_value unit) z)) (equal_names x y (sym (name_eq-is x y) ∙ g))
        (subst (λ v. IsShaped v (shape_by unit (constant_value unit) x)) (same_Some value s h) here)
    by false y g s h = table y s h

-- ---- subscripts within their bounds

is_some-sum : (o : Option ℕ) → is_some (sum 1 o) ≡ is_some o
is_some-sum None = refl
is_some-sum (Some n) = refl

is_some-first : (b : Bool) (o e : ℕ) (rest : Option ℕ) → is_some (by_first b o e rest) ≡ (if b then is_some rest else false)
unfolding by_first
is_some-first false o e rest = refl
is_some-first true o e None = refl
is_some-first true o e (Some q) = refl

some-number : (b : Bound) (bs : Bounds) (s : ℤ) (ss : List ℤ) → is_some (element_number (b ∷ bs) (s ∷ ss)) ≡ (if is_within b s then is_some (element_number bs ss) else false)
some-number b bs s ss =
    is_some-sum (before_element 1 (b ∷ bs) (s ∷ ss))
    ∙ (ap is_some (first-step b bs s ss)
    ∙ (is_some-first (is_within b s) _ _ (before_element 1 bs ss) ∙ ap (λ t. if is_within b s then t else false) (sym (is_some-sum (before_element 1 bs ss)))))

pub within-turn : (bs : Bounds) (ss : List ℤ) (i : ℕ) (c : Bound) (d : ℤ) (all : Bool) → i < length bs → i < length ss → is_some (element_number (drop i bs) (drop i ss)) ≡ all
    → is_within (get_or bs i c) (get_or ss i d) ≡ true → is_some (element_number (drop (i + 1) bs) (drop (i + 1) ss)) ≡ all
within-turn bs ss i c d all lt mt so_far within =
    let here = some-number (get_or bs i c) (drop (i + 1) bs) (get_or ss i d) (drop (i + 1) ss) in
    rw (drop_more bs i c lt, drop_more ss i d mt, here, within) at so_far
