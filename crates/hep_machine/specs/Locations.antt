-- The storage units that a name denotes in an activation: X3.9-1978, 2.13, 2.14, 5.2.5, 8.3.2 and 15.9.3.
use Rattle.std.specs.Prelude.{ℕ, ◌+◌, ◌-◌, nat_le, if◌then◌else◌, List, Option, Some, None, Result, Ok, Err, slice_get}
use Rattle.std.specs.Option.{unwrap_or}
use Rattle.hep_machine.specs.declared.event.Kind.{Kind}
use Rattle.hep_machine.specs.declared.event.Kind.TheVariants.{Range}
use Rattle.hep_source.specs.declared.name.Name.{Name}
use Rattle.hep_source.specs.declared.statement.Statement.{Statement}
use Rattle.hep_source.specs.declared.value.Value.{Value}
use Rattle.hep_machine.specs.Arithmetic.{integers_of}
use Rattle.hep_machine.specs.Constants.{cells_of_shape, constant_shape, cells_before}
use Rattle.hep_machine.specs.Declarations.{BlockName, common_block, names_in_block}
use Rattle.hep_source.specs.Names.{index_among}
use Rattle.hep_machine.specs.Shapes.{Bounds, elements, element_number}
use Rattle.hep_machine.specs.Storage.{further}
use Rattle.hep_machine.specs.State.{Dummy, Location, local, common}
use Rattle.hep_source.specs.Units.{dummies_of}
use Rattle.hep_machine.specs.Defaults.{no_dummy, no_shape}

-- an activation as its statements see it: its unit, its number, and its dummy arguments
pub record Scope : Type 0 where
  pub unit : List Statement
  pub number : ℕ
  pub dummies : List Dummy

abbrev pub dummy_at : List Dummy → ℕ → Dummy
dummy_at dummies i = unwrap_or (slice_get dummies i) no_dummy

-- the storage of a variable: its first storage unit, the number of its storage units, and its shape
pub record StorageSequence : Type 0 where
  pub start : Location
  pub rest : ℕ
  pub shape : Bounds

abbrev pub start_by_block : Scope → Name → Option BlockName → Location
start_by_block scope x None = local scope.number x 1
start_by_block scope x (Some b) = common b (1 + cells_before scope.unit x (names_in_block scope.unit b))

-- the storage of a variable that is no dummy argument: it is in COMMON or local
abbrev pub own_storage : Scope → Name → StorageSequence
own_storage scope x =
    record {
      start = start_by_block scope x (common_block scope.unit x);
      rest = cells_of_shape (constant_shape scope.unit x);
      shape = unwrap_or (constant_shape scope.unit x) no_shape;
    }

-- the storage of a dummy argument: an array of known size has the elements of its shape, and an assumed-size array has all elements that
-- the actual argument has from there on
abbrev pub storage_of_dummy : Dummy → StorageSequence
storage_of_dummy d = record { start = d.start; rest = unwrap_or (elements d.shape) d.rest; shape = d.shape }

abbrev pub storage_by_dummy : Scope → Name → Option ℕ → StorageSequence
storage_by_dummy scope x None = own_storage scope x
storage_by_dummy scope x (Some i) = storage_of_dummy (dummy_at scope.dummies i)

abbrev pub storage_of : Scope → Name → StorageSequence
storage_of scope x = storage_by_dummy scope x (index_among x (dummies_of scope.unit))

-- ---- elements: 5.3 and 5.4

abbrev pub element_in : StorageSequence → Option ℕ → Result ℕ Kind
element_in e None = Err Range
element_in e (Some n) = if nat_le n e.rest then Ok n else Err Range

-- the number of an element; the fault RANGE for a subscript outside its bounds and for an element past the last one
abbrev pub element_of : StorageSequence → List Value → Result ℕ Kind
element_of e subscripts = element_in e (element_number e.shape (integers_of subscripts))

abbrev pub location_in : StorageSequence → Result ℕ Kind → Result Location Kind
location_in e (Err k) = Err k
location_in e (Ok n) = Ok (further e.start (n - 1))

-- the storage unit of a scalar or an element
abbrev pub location_of_name : Scope → Name → List Value → Result Location Kind
location_of_name scope x subscripts = location_in (storage_of scope x) (element_of (storage_of scope x) subscripts)
