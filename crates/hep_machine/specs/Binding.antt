-- The association of dummy arguments with actual arguments: X3.9-1978, 15.9.3.
use Rattle.std.specs.Prelude.{ℕ, ◌+◌, ◌-◌, not, ◌&&◌, ◌||◌, if◌then◌else◌, List, [], ◌∷◌, Option, Some, None, Result, Ok, Err}
use Rattle.std.specs.Option.{option_or}
use Rattle.hep_machine.specs.declared.event.Kind.{Kind}
use Rattle.hep_machine.specs.declared.event.Kind.TheVariants.{Shape}
use Rattle.hep_source.specs.declared.name.Name.{Name}
use Rattle.hep_source.specs.declared.statement.Statement.{Statement}
use Rattle.hep_machine.specs.Constants.{Values, constant_value, shape_by}
use Rattle.hep_machine.specs.Declarations.{is_array, is_dummy, is_common, is_nonempty}
use Rattle.hep_machine.specs.Evaluation.{Actual, evaluated, referred, Reference}
use Rattle.hep_machine.specs.Locations.{Scope, StorageSequence, storage_of, element_of}
use Rattle.hep_machine.specs.Shapes.{Bounds, fits}
use Rattle.hep_machine.specs.State.{Dummy, local, Store}
use Rattle.hep_machine.specs.Storage.{with_value, further}
use Rattle.hep_source.specs.Units.{dummies_of}

-- ---- actual arguments: 15.9.2 and 15.9.3

-- An element as actual argument passes the sequence of the array's elements from that element on.
abbrev pub from_element : StorageSequence → Result ℕ Kind → Result Dummy Kind
from_element e (Err k) = Err k
from_element e (Ok n) = Ok (record { start = further e.start (n - 1); rest = (e.rest + 1) - n; shape = [] })

-- the number of the first element that an actual argument passes: 1 for a whole array
abbrev pub first_element : Scope → Reference → Result ℕ Kind
first_element scope r =
    if is_array scope.unit r.0 && not (is_nonempty r.1) then Ok 1 else element_of (storage_of scope r.0) r.1

-- The storage of a dummy argument of activation a, before its shape is known. For an expression it is a new variable of the activation.
abbrev pub dummy_for : Scope → ℕ → Name → Actual → Result Dummy Kind
dummy_for scope a x (evaluated v) = Ok (record { start = local a x 1; rest = 1; shape = [] })
dummy_for scope a x (referred r) = from_element (storage_of scope r.0) (first_element scope r)

abbrev pub dummy_before : Result Dummy Kind → Result (List Dummy) Kind → Result (List Dummy) Kind
dummy_before (Err k) ds = Err k
dummy_before (Ok d) (Err k) = Err k
dummy_before (Ok d) (Ok ds) = Ok (d ∷ ds)

abbrev pub dummies_for : Scope → ℕ → List Name → List Actual → Result (List Dummy) Kind
dummies_for scope a (x ∷ xs) (y ∷ ys) = dummy_before (dummy_for scope a x y) (dummies_for scope a xs ys)
dummies_for scope a _ _ = Ok []

abbrev pub with_actual : Store → ℕ → Name → Actual → Store
with_actual store a x (evaluated v) = with_value store (local a x 1) (Some v)
with_actual store a x (referred r) = store

-- the store with the values of the expressions among the actual arguments
abbrev pub with_actuals : Store → ℕ → List Name → List Actual → Store
with_actuals store a (x ∷ xs) (y ∷ ys) = with_actuals (with_actual store a x y) a xs ys
with_actuals store a _ _ = store

-- ---- shapes: 5.5 and 15.9.3.3

-- the value of a name in a bound: that of a constant, or the value stored in a scalar that is a dummy argument or in COMMON
abbrev pub bound_values : Scope → Store → Values
bound_values scope store x =
    option_or (constant_value scope.unit x) (
    if is_dummy scope.unit x || is_common scope.unit x then (store (storage_of scope x).start).value else None)

abbrev pub dummy_with_shape : Dummy → Option Bounds → Result Dummy Kind
dummy_with_shape d None = Err Shape
dummy_with_shape d (Some bs) = if fits bs d.rest then Ok (record d { shape = bs }) else Err Shape

-- a dummy argument with its shape; the fault SHAPE where it has none, or more elements than the actual argument
abbrev pub with_shape : Scope → Store → Name → Dummy → Result Dummy Kind
with_shape scope store x d = if is_array scope.unit x then dummy_with_shape d (shape_by scope.unit (bound_values scope store) x) else Ok d

abbrev pub with_shapes : Scope → Store → List Name → List Dummy → Result (List Dummy) Kind
with_shapes scope store (x ∷ xs) (d ∷ ds) = dummy_before (with_shape scope store x d) (with_shapes scope store xs ds)
with_shapes scope store _ _ = Ok []

-- ---- binding: docs/MACHINE.md, "Binding"

-- the dummy arguments of a new activation, and the store with the values of expressions
pub record Binding : Type 0 where
  pub dummies : List Dummy
  pub store : Store

abbrev pub with_store : Store → Result (List Dummy) Kind → Result Binding Kind
with_store store (Err k) = Err k
with_store store (Ok ds) = Ok (record { dummies = ds; store = store })

abbrev pub binding_with_shapes : List Statement → ℕ → Store → Result (List Dummy) Kind → Result Binding Kind
binding_with_shapes unit a store (Err k) = Err k
binding_with_shapes unit a store (Ok ds) =
    with_store store (with_shapes (record { unit = unit; number = a; dummies = ds }) store (dummies_of unit) ds)

-- The binding of activation a of a unit, by the actual arguments in another activation. The fault RANGE of an actual argument
-- precedes the fault SHAPE.
abbrev pub binding_for : Scope → Store → List Statement → ℕ → List Actual → Result Binding Kind
binding_for scope store unit a actuals =
    binding_with_shapes unit a (with_actuals store a (dummies_of unit) actuals) (dummies_for scope a (dummies_of unit) actuals)
