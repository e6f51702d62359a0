-- The sources of the names of a unit when it is called: X3.9-1978, 5.5.1, 8.3 and 8.6.
use Rattle.std.specs.Prelude.{◌≡◌, ℕ, Bool, true, false, List, Option, Some, None, slice_get}
use Rattle.hep_machine.specs.Words.{Name, Statement, index_among, dummies_of, constant_value, dimensions_of, is_common, Scope, dummy_at, own_storage, Store}
use Rattle.hep_source.specs.declared.value.Value.{Value as Constant}
use Rattle.hep_code.specs.declared.bound.BoundOperation.{BoundOperation}
use Rattle.hep_code.specs.declared.bound.BoundOperation.TheVariants.{Value, InCommon, InDummy, Nowhere}
use Rattle.hep_code.specs.BoundCode.{Sources}
use Rattle.hep_code.specs.DimensionCode.{code_of_dimensions}

-- of a named constant its value, else the number of a dummy argument, else the cell of a name in COMMON
abbrev pub source_by : Option Constant → Option ℕ → Bool → ℕ → BoundOperation
source_by (Some v) number in_common cell = Value v
source_by None (Some k) in_common cell = InDummy k
source_by None None true cell = InCommon cell
source_by None None false cell = Nowhere

-- by the cell of each name in COMMON
abbrev pub source_of : List Statement → (Name → ℕ) → Sources
source_of unit cell x = source_by (constant_value unit x) (index_among x (dummies_of unit)) (is_common unit x) (cell x)

-- the code of an adjustable array
abbrev pub adjustable_code : List Statement → (Name → ℕ) → Name → List BoundOperation
adjustable_code unit cell x = code_of_dimensions (source_of unit cell) unit (dimensions_of unit x)

-- no name twice
abbrev pub IsNamedOnce : List Name → Type 0
IsNamedOnce xs = (i j : ℕ) (x : Name) → slice_get xs i ≡ Some x → slice_get xs j ≡ Some x → i ≡ j

-- the cells of COMMON and what is given have the values of the names in COMMON and of the dummy arguments
pub record AreStored (scope : Scope) (store : Store) (cell : Name → ℕ) (common dummies : ℕ → Option Constant) : Type 0 where
  pub in_common : (x : Name) → is_common scope.unit x ≡ true → (store (own_storage scope x).start).value ≡ common (cell x)
  pub in_dummies : (x : Name) (k : ℕ) → index_among x (dummies_of scope.unit) ≡ Some k → (store (dummy_at scope.dummies k).start).value ≡ dummies k
