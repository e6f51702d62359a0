-- The code of an array's dimensions, and the shape that it computes: X3.9-1978, 5.1.1, 5.1.2 and 5.5.1.
use Rattle.std.specs.Prelude.{ℕ, pos, List, [], ◌∷◌, ◌++◌, Option, Some, None}
use Rattle.std.specs.Option.{option_map}
use Rattle.hep_machine.specs.Words.{Dimension, UpperBound, Expression, Open, Statement, Int, Tree, integer_of, if_shape, Bounds}
use Rattle.hep_source.specs.declared.value.Value.{Value as Constant}
use Rattle.hep_machine.specs.declared.shape.Bound.{Bound}
use Rattle.hep_code.specs.declared.bound.BoundOperation.{BoundOperation}
use Rattle.hep_code.specs.declared.bound.BoundOperation.TheVariants.{Value, Nowhere}
use Rattle.hep_code.specs.BoundCode.{Sources, code_of_bound, after_code}

-- ---- the code of dimensions: the lower and the upper bound of each, from left to right

-- 1 where there is no lower bound
abbrev pub code_of_lower : Sources → List Statement → Option Tree → List BoundOperation
code_of_lower source unit None = Value (Int (pos 1)) ∷ []
code_of_lower source unit (Some t) = code_of_bound source unit t

-- the code of an upper bound, and then that of the dimensions after it; an open one is the last, and has none
abbrev pub code_from_upper : Sources → List Statement → UpperBound → List Dimension → List BoundOperation → List BoundOperation
code_from_upper source unit (Expression t) ds more = code_of_bound source unit t ++ more
code_from_upper source unit Open [] more = more
code_from_upper source unit Open (d ∷ ds) more = Nowhere ∷ []

abbrev pub code_of_dimensions : Sources → List Statement → List Dimension → List BoundOperation
code_of_dimensions source unit [] = []
code_of_dimensions source unit (d ∷ ds) =
    code_of_lower source unit d.lower ++ code_from_upper source unit d.upper ds (code_of_dimensions source unit ds)

-- ---- the shape that it computes

-- the bounds of a dimension, and the values after its own: two, but one for a last dimension that is open
abbrev pub bound_ahead : List Constant → Option (Bound × List Constant)
bound_ahead [] = None
bound_ahead (l ∷ []) = Some (record { lower = integer_of l; upper = None }, [])
bound_ahead (l ∷ u ∷ vs) = Some (record { lower = integer_of l; upper = Some (integer_of u) }, vs)

-- the bounds of all dimensions, by their values
abbrev pub bounds_in : List Constant → Bounds
bounds_in [] = []
bounds_in (l ∷ []) = record { lower = integer_of l; upper = None } ∷ []
bounds_in (l ∷ u ∷ vs) = record { lower = integer_of l; upper = Some (integer_of u) } ∷ bounds_in vs

-- the shape that code leaves, with these values in the cells of COMMON and in the dummy arguments
abbrev pub coded_shape : (ℕ → Option Constant) → (ℕ → Option Constant) → List BoundOperation → Option Bounds
coded_shape common dummies code = if_shape (option_map bounds_in (after_code common dummies code []))
