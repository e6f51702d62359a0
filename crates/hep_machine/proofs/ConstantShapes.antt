-- An array of a constant shape has constant bounds, so none of them is adjustable, and they are a shape.
use Rattle.std.proofs.Common.{◌≡◌, Bool, true, false, List, [], ◌∷◌, length, Option, Some, None, refl, sym, ap, ◌∙◌, ◌&&◌, if◌then◌else◌, ℤ}
use Rattle.std.specs.List.{list_all}
use Rattle.std.proofs.lemmas.Bool.{and_from}
use Rattle.std.proofs.lemmas.Option.{same_Some, none-some}
use Rattle.hep_machine.specs.Words.{Dimension, UpperBound, Expression, Open, Name, Statement, Value, Tree, integer_of, adjustable_dimensions, bound_before, bound_of, bounds_of, constant_shape, constant_value, if_shape, is_constant_dimension, is_constant_lower, is_constant_upper, lower_value, upper_value, value_of, dimensions_of, is_array, Bounds, is_shape}
use Rattle.hep_source.proofs.Tests.{there-mapped}

module _ (unit : List Statement) where
  lower-constant : (t : Option Tree) (l : ℤ) → lower_value unit (constant_value unit) t ≡ Some l → is_constant_lower unit t ≡ true
  lower-constant None l e = refl
  lower-constant (Some t) l e = there-mapped integer_of (value_of unit (constant_value unit) t) l e

  upper-constant : (b : UpperBound) (u : Option ℤ) → upper_value unit (constant_value unit) b ≡ Some u → is_constant_upper unit b ≡ true
  upper-constant Open u e = refl
  upper-constant (Expression t) u e = there-mapped (λ (v : Value). Some (integer_of v)) (value_of unit (constant_value unit) t) u e

  bounds-constant : (ds : List Dimension) (bs : Bounds) → bounds_of unit (constant_value unit) ds ≡ Some bs → list_all (is_constant_dimension unit) ds ≡ true
  bounds-constant [] bs e = refl
  bounds-constant (d ∷ ds) bs e = by_parts (bounds-constant ds) (lower_value unit (constant_value unit) d.lower) (upper_value unit (constant_value unit) d.upper) (bounds_of unit (constant_value unit) ds) refl refl refl e where
    by_parts : ((cs : Bounds) → bounds_of unit (constant_value unit) ds ≡ Some cs → list_all (is_constant_dimension unit) ds ≡ true) → (l : Option ℤ) (u : Option (Option ℤ)) (r : Option Bounds) → lower_value unit (constant_value unit) d.lower ≡ l → upper_value unit (constant_value unit) d.upper ≡ u → bounds_of unit (constant_value unit) ds ≡ r
        → bound_before (bound_of l u) r ≡ Some bs → (is_constant_dimension unit d && list_all (is_constant_dimension unit) ds) ≡ true
    by_parts more None u r f g h e = absurd (none-some bs e)
    by_parts more (Some l) None r f g h e = absurd (none-some bs e)
    by_parts more (Some l) (Some u) None f g h e = absurd (none-some bs e)
    by_parts more (Some l) (Some u) (Some cs) f g h e =
        and_from (is_constant_dimension unit d) (list_all (is_constant_dimension unit) ds) (
        and_from (is_constant_lower unit d.lower) (is_constant_upper unit d.upper) (lower-constant d.lower l f) (upper-constant d.upper u g)) (more cs h)

  pub shaped : (o : Option Bounds) (bs : Bounds) → if_shape o ≡ Some bs → (o ≡ Some bs) × (is_shape bs ≡ true)
  shaped None bs e = absurd (none-some bs e)
  shaped (Some cs) bs e = by_test (is_shape cs) refl e where
    by_test : (b : Bool) → is_shape cs ≡ b → (if b then Some cs else None) ≡ Some bs → (Some cs ≡ Some bs) × (is_shape bs ≡ true)
    by_test true t e = (e, ap is_shape (sym (same_Some cs bs e)) ∙ t)
    by_test false t e = absurd (none-some bs e)

  -- its bounds are a shape, and none of them is adjustable
  pub constant-shape : (x : Name) (bs : Bounds) → is_array unit x ≡ true → constant_shape unit x ≡ Some bs → (is_shape bs ≡ true) × (adjustable_dimensions unit x ≡ 0)
  constant-shape x bs is_one e =
      let known : if_shape (bounds_of unit (constant_value unit) (dimensions_of unit x)) ≡ Some bs = ap (λ b. if b then if_shape (bounds_of unit (constant_value unit) (dimensions_of unit x)) else Some []) (sym is_one) ∙ e in
      let both = shaped (bounds_of unit (constant_value unit) (dimensions_of unit x)) bs known in
      (both.1, ap (λ b. if b then 0 else length (dimensions_of unit x)) (bounds-constant (dimensions_of unit x) bs both.0))
