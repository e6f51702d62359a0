-- The bounds of a variable.
use Rattle.std.proofs.Common.{◌≡◌, Bool, true, false, List, [], Option, Some, refl, sym, ap, ◌∙◌, if◌then◌else◌, true≢false}
use Rattle.std.specs.Option.{unwrap_or}
use Rattle.hep_machine.specs.Words.{Name, Statement, Constants, Dimension, Bounds, bounds_of, constant_shape, constant_value, dimensions_of, if_shape, is_array, no_shape, value_among}

pub scalar : (unit : List Statement) (x : Name) → is_array unit x ≡ false → [] ≡ unwrap_or (constant_shape unit x) no_shape
scalar unit x h = by (is_array unit x) h
  where
    by : (t : Bool) → t ≡ false → [] ≡ unwrap_or (if t then if_shape (bounds_of unit (constant_value unit) (dimensions_of unit x)) else Some []) no_shape
    by true e = absurd (true≢false e)
    by false e = refl

pub array : (unit : List Statement) (x : Name) (known : Constants) (dimensions : List Dimension) (bounds : Option Bounds) (shape : Bounds) → is_array unit x ≡ true
    → value_among known ≡ constant_value unit → bounds ≡ bounds_of unit (value_among known) dimensions → dimensions ≡ dimensions_of unit x → shape ≡ unwrap_or (if_shape bounds) no_shape
    → shape ≡ unwrap_or (constant_shape unit x) no_shape
array unit x known dimensions bounds shape h k b d e =
    e ∙ (ap (λ o. unwrap_or (if_shape o) no_shape) (b ∙ (ap (λ values. bounds_of unit values dimensions) k ∙ ap (bounds_of unit (constant_value unit)) d)) ∙ by (is_array unit x) h)
  where
    by : (t : Bool) → t ≡ true → unwrap_or (if_shape (bounds_of unit (constant_value unit) (dimensions_of unit x))) no_shape
        ≡ unwrap_or (if t then if_shape (bounds_of unit (constant_value unit) (dimensions_of unit x)) else Some []) no_shape
    by true e = refl
    by false e = absurd (true≢false (sym e))
