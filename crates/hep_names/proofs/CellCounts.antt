-- Cells of names, and dimensions that are fixed anew at each call, by the bounds of arrays.
use Rattle.std.proofs.Common.{◌≡◌, ℕ, ℤ, Bool, true, false, ◌&&◌, Option, Some, None, List, [], ◌∷◌, length, is_some, refl, ap, sym, ◌∙◌, true≢false, if◌then◌else◌}
use Rattle.std.specs.List.{list_all}
use Rattle.std.specs.Option.{option_map}
use Rattle.hep_machine.specs.Words.{Tree, Dimension, UpperBound, Expression, Open, Name, Statement, Value, integer_of, Constants, value_among, constant_value, value_of, lower_value, upper_value, bound_of, bound_before, bounds_of, if_shape, cells_of_shape, cells_of, is_constant_lower, is_constant_upper, is_constant_dimension, adjustable_dimensions, dimensions_of, is_array, Bounds}
use Rattle.hep_machine.specs.declared.shape.Bound.{Bound}

pub scalar : (unit : List Statement) (x : Name) → is_array unit x ≡ false → 1 ≡ cells_of unit x
scalar unit x h = by (is_array unit x) h
  where
    by : (t : Bool) → t ≡ false → 1 ≡ cells_of_shape (if t then if_shape (bounds_of unit (constant_value unit) (dimensions_of unit x)) else Some [])
    by true e = absurd (true≢false e)
    by false e = refl

pub array : (unit : List Statement) (x : Name) (known : Constants) (dimensions : List Dimension) (bounds : Option Bounds) (n : ℕ) → is_array unit x ≡ true
    → value_among known ≡ constant_value unit → bounds ≡ bounds_of unit (value_among known) dimensions → dimensions ≡ dimensions_of unit x → n ≡ cells_of_shape (if_shape bounds) → n ≡ cells_of unit x
array unit x known dimensions bounds n h k b d e =
    e ∙ (ap (λ o. cells_of_shape (if_shape o)) (b ∙ (ap (λ values. bounds_of unit values dimensions) k ∙ ap (bounds_of unit (constant_value unit)) d)) ∙ by (is_array unit x) h)
  where
    by : (t : Bool) → t ≡ true → cells_of_shape (if_shape (bounds_of unit (constant_value unit) (dimensions_of unit x)))
        ≡ cells_of_shape (if t then if_shape (bounds_of unit (constant_value unit) (dimensions_of unit x)) else Some [])
    by true e = refl
    by false e = absurd (true≢false (sym e))

-- ---- dimensions

lower-known : (unit : List Statement) (l : Option Tree) → is_constant_lower unit l ≡ is_some (lower_value unit (constant_value unit) l)
lower-known unit None = refl
lower-known unit (Some t) = by (value_of unit (constant_value unit) t)
  where
    by : (o : Option Value) → is_some o ≡ is_some (option_map integer_of o)
    by None = refl
    by (Some v) = refl

upper-known : (unit : List Statement) (u : UpperBound) → is_constant_upper unit u ≡ is_some (upper_value unit (constant_value unit) u)
upper-known unit Open = refl
upper-known unit (Expression t) = by (value_of unit (constant_value unit) t)
  where
    by : (o : Option Value) → is_some o ≡ is_some (option_map (λ v. Some (integer_of v)) o)
    by None = refl
    by (Some v) = refl

both-known : (l : Option ℤ) (u : Option (Option ℤ)) → (is_some l && is_some u) ≡ is_some (bound_of l u)
both-known None u = refl
both-known (Some l) None = refl
both-known (Some l) (Some u) = refl

dimension-known : (unit : List Statement) (d : Dimension)
    → is_constant_dimension unit d ≡ is_some (bound_of (lower_value unit (constant_value unit) d.lower) (upper_value unit (constant_value unit) d.upper))
dimension-known unit d =
    ap (λ a. a && is_constant_upper unit d.upper) (lower-known unit d.lower)
    ∙ (ap (λ b. is_some (lower_value unit (constant_value unit) d.lower) && b) (upper-known unit d.upper)
    ∙ both-known (lower_value unit (constant_value unit) d.lower) (upper_value unit (constant_value unit) d.upper))

before-known : (b : Option Bound) (bs : Option Bounds) → (is_some b && is_some bs) ≡ is_some (bound_before b bs)
before-known None bs = refl
before-known (Some b) None = refl
before-known (Some b) (Some bs) = refl

dimensions-known : (unit : List Statement) (ds : List Dimension) → list_all (is_constant_dimension unit) ds ≡ is_some (bounds_of unit (constant_value unit) ds)
dimensions-known unit [] = refl
dimensions-known unit (d ∷ ds) =
    let b = bound_of (lower_value unit (constant_value unit) d.lower) (upper_value unit (constant_value unit) d.upper) in
    ap (λ a. a && list_all (is_constant_dimension unit) ds) (dimension-known unit d)
    ∙ (ap (λ a. is_some b && a) (dimensions-known unit ds) ∙ before-known b (bounds_of unit (constant_value unit) ds))

-- an array is adjustable where its bounds have no values
pub adjustable : (unit : List Statement) (x : Name) (known : Constants) (dimensions : List Dimension) (bounds : Option Bounds) (n : ℕ)
    → value_among known ≡ constant_value unit → bounds ≡ bounds_of unit (value_among known) dimensions → dimensions ≡ dimensions_of unit x
    → n ≡ (if is_some bounds then 0 else length dimensions) → n ≡ adjustable_dimensions unit x
adjustable unit x known dimensions bounds n k b d e =
    let s : is_some bounds ≡ list_all (is_constant_dimension unit) (dimensions_of unit x)
    = ap is_some (b ∙ (ap (λ values. bounds_of unit values dimensions) k ∙ ap (bounds_of unit (constant_value unit)) d)) ∙ sym (dimensions-known unit (dimensions_of unit x)) in
    e ∙ (ap (λ t. if t then 0 else length dimensions) s ∙ ap (λ ds. if list_all (is_constant_dimension unit) (dimensions_of unit x) then 0 else length ds) d)
