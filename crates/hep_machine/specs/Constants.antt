-- Values of constant expressions and dimension bounds, by the values of names (X3.9-1978, 5.1.1, 6.1.3 and 8.6).
use Rattle.std.specs.Prelude.{ℕ, ◌+◌, ℤ, pos, Bool, true, ◌&&◌, if◌then◌else◌, List, [], ◌∷◌, ◌++◌, Option, Some, None, Result, Ok, Err, is_some, length}
use Rattle.std.specs.Option.{option_map, unwrap_or}
use Rattle.std.specs.List.{list_all}
use Rattle.hep_source.specs.Tree.{Tree, Trees, constant, occurrence, with_list, parenthesized, signed, negated, binary, no_trees, trees}
use Rattle.hep_source.specs.declared.declaration.Dimension.{Dimension}
use Rattle.hep_source.specs.declared.declaration.NamedConstant.{NamedConstant}
use Rattle.hep_source.specs.declared.declaration.UpperBound.{UpperBound}
use Rattle.hep_source.specs.declared.declaration.UpperBound.TheVariants.{Expression, Open}
use Rattle.hep_machine.specs.declared.event.Kind.{Kind}
use Rattle.hep_source.specs.declared.name.Name.{Name}
use Rattle.hep_source.specs.declared.statement.Statement.{Statement}
use Rattle.hep_source.specs.declared.value.Value.{Value}
use Rattle.hep_machine.specs.Arithmetic.{signed_value, negated_value, combined_value, function_value, integer_of}
use Rattle.hep_machine.specs.Declarations.{named_constants, dimensions_of, is_nonempty}
use Rattle.hep_machine.specs.Functions.{Meaning, pure, listed_meaning}
use Rattle.hep_source.specs.Names.{same_name}
use Rattle.hep_machine.specs.declared.shape.Bound.{Bound}
use Rattle.hep_machine.specs.Shapes.{Bounds, is_shape, elements}
use Rattle.hep_machine.specs.Defaults.{no_cells}

-- ---- expressions: 6.1.3 and 6.4.4

-- the values of names, as far as they have one
abbrev pub Values : Type 0
Values = Name → Option Value

abbrev pub without_fault : Result Value Kind → Option Value
without_fault (Ok v) = Some v
without_fault (Err k) = None

abbrev pub with_one : (Value → Result Value Kind) → Option Value → Option Value
with_one f None = None
with_one f (Some v) = without_fault (f v)

abbrev pub with_two : (Value → Value → Result Value Kind) → Option Value → Option Value → Option Value
with_two f None w = None
with_two f (Some v) None = None
with_two f (Some v) (Some w) = without_fault (f v w)

abbrev pub both : Option Value → Option (List Value) → Option (List Value)
both None vs = None
both (Some v) None = None
both (Some v) (Some vs) = Some (v ∷ vs)

-- the value of a name with a list: only functions of integers may be in such an expression (docs/LANGUAGE.md, 7)
abbrev pub by_meaning : Meaning → Option (List Value) → Option Value
by_meaning (pure f) (Some vs) = without_fault (function_value f vs)
by_meaning _ _ = None

abbrev mutual
  -- the value of an expression in a unit; none where it faults or where a part of it has no value
  pub value_of : List Statement → Values → Tree → Option Value
  value_of unit values (constant v) = Some v
  value_of unit values (occurrence p) = values p.name
  value_of unit values (with_list p ts) = by_meaning (listed_meaning unit p.name) (values_of unit values ts)
  value_of unit values (parenthesized t) = value_of unit values t
  value_of unit values (signed s t) = with_one (signed_value s) (value_of unit values t)
  value_of unit values (negated t) = with_one negated_value (value_of unit values t)
  value_of unit values (binary o a b) = with_two (combined_value o) (value_of unit values a) (value_of unit values b)

  pub values_of : List Statement → Values → Trees → Option (List Value)
  values_of unit values no_trees = Some []
  values_of unit values (trees t ts) = both (value_of unit values t) (values_of unit values ts)

-- ---- named constants: 8.6

-- constants with their values; the first entry of a name counts
abbrev pub Constants : Type 0
Constants = List (Name × Value)

abbrev pub value_among : Constants → Values
value_among [] x = None
value_among (c ∷ cs) x = if same_name c.0 x then Some c.1 else value_among cs x

abbrev pub with_constant : Constants → Name → Option Value → Constants
with_constant known x None = known
with_constant known x (Some v) = known ++ (x, v) ∷ []

-- the constants after a PARAMETER statement; each may use those before it
abbrev pub given_by : List Statement → Constants → List NamedConstant → Constants
given_by unit known [] = known
given_by unit known (c ∷ cs) = given_by unit (with_constant known c.occurrence.name (value_of unit (value_among known) c.value)) cs

abbrev pub constants_of : List Statement → Constants
constants_of unit = given_by unit [] (named_constants unit)

abbrev pub constant_value : List Statement → Values
constant_value unit x = value_among (constants_of unit) x

-- ---- shapes: 5.1.1.2 and 5.2

abbrev pub upper_value : List Statement → Values → UpperBound → Option (Option ℤ)
upper_value unit values Open = Some None
upper_value unit values (Expression t) = option_map (λ v. Some (integer_of v)) (value_of unit values t)

-- the value of a lower bound; 1 where none is written
abbrev pub lower_value : List Statement → Values → Option Tree → Option ℤ
lower_value unit values None = Some (pos 1)
lower_value unit values (Some t) = option_map integer_of (value_of unit values t)

abbrev pub bound_of : Option ℤ → Option (Option ℤ) → Option Bound
bound_of None u = None
bound_of (Some l) None = None
bound_of (Some l) (Some u) = Some (record { lower = l; upper = u })

abbrev pub bound_before : Option Bound → Option Bounds → Option Bounds
bound_before None bs = None
bound_before (Some b) None = None
bound_before (Some b) (Some bs) = Some (b ∷ bs)

abbrev pub bounds_of : List Statement → Values → List Dimension → Option Bounds
bounds_of unit values [] = Some []
bounds_of unit values (d ∷ ds) =
    bound_before (bound_of (lower_value unit values d.lower) (upper_value unit values d.upper)) (bounds_of unit values ds)

abbrev pub if_shape : Option Bounds → Option Bounds
if_shape None = None
if_shape (Some bs) = if is_shape bs then Some bs else None

-- the shape of an array; none where a bound has no value or where the bounds make no shape
abbrev pub shape_by : List Statement → Values → Name → Option Bounds
shape_by unit values x = if_shape (bounds_of unit values (dimensions_of unit x))

-- the shape of a name by the constants of the unit; that of a scalar has no dimension
abbrev pub constant_shape : List Statement → Name → Option Bounds
constant_shape unit x = if is_nonempty (dimensions_of unit x) then shape_by unit (constant_value unit) x else Some []

-- the number of cells of a scalar or an array of constant shape
abbrev pub cells_of_shape : Option Bounds → ℕ
cells_of_shape None = no_cells
cells_of_shape (Some bs) = unwrap_or (elements bs) 0

abbrev pub cells_of : List Statement → Name → ℕ
cells_of unit x = cells_of_shape (constant_shape unit x)

-- ---- adjustable arrays: 5.5.1

abbrev pub is_constant : List Statement → Tree → Bool
is_constant unit t = is_some (value_of unit (constant_value unit) t)

abbrev pub is_constant_lower : List Statement → Option Tree → Bool
is_constant_lower unit None = true
is_constant_lower unit (Some t) = is_constant unit t

abbrev pub is_constant_upper : List Statement → UpperBound → Bool
is_constant_upper unit Open = true
is_constant_upper unit (Expression t) = is_constant unit t

abbrev pub is_constant_dimension : List Statement → Dimension → Bool
is_constant_dimension unit d = is_constant_lower unit d.lower && is_constant_upper unit d.upper

-- the number of dimensions that each call fixes anew: all dimensions of an array with a bound that isn't constant
abbrev pub adjustable_dimensions : List Statement → Name → ℕ
adjustable_dimensions unit x = if list_all (is_constant_dimension unit) (dimensions_of unit x) then 0 else length (dimensions_of unit x)

-- ---- positions in common blocks: 8.3.2

abbrev pub cells_of_all : List Statement → List Name → ℕ
cells_of_all unit [] = 0
cells_of_all unit (x ∷ xs) = cells_of unit x + cells_of_all unit xs

abbrev pub cells_before : List Statement → Name → List Name → ℕ
cells_before unit x [] = 0
cells_before unit x (y ∷ ys) = if same_name x y then 0 else cells_of unit y + cells_before unit x ys
