-- The first state of a run: the values of DATA (X3.9-1978, section 9), and process 1 at the main program (3.6).
use Rattle.std.specs.Prelude.{ℕ, ◌+◌, ◌-◌, nat_lt, false, if◌then◌else◌, List, [], ◌∷◌, map, Option, Some, None, option_and_then, option_to_list}
use Rattle.std.specs.Option.{option_map}
use Rattle.std.specs.List.{flat_map}
use Rattle.hep_source.specs.declared.declaration.DataGroup.{DataGroup}
use Rattle.hep_source.specs.declared.declaration.DataValue.{DataValue}
use Rattle.hep_source.specs.declared.declaration.Target.{Target}
use Rattle.hep_source.specs.declared.value.Value.{Value}
use Rattle.hep_machine.specs.Constants.{constant_value}
use Rattle.hep_machine.specs.Data.{Repeated, Stretch, data_groups, elements_named, item_at, values_given}
use Rattle.hep_machine.specs.Locations.{Scope, storage_of}
use Rattle.hep_machine.specs.State.{Cell, State, Location, Store}
use Rattle.hep_machine.specs.Step.{entry_level}
use Rattle.hep_machine.specs.Access.{unset_cell}
use Rattle.hep_machine.specs.Storage.{distance, further}
use Rattle.hep_source.specs.Units.{Units, unit_at, main_unit}

-- ---- DATA: 9.2

-- consecutive storage units: the first one, and how many there are
abbrev pub StorageUnits : Type 0
StorageUnits = Location × ℕ

abbrev pub storage_units_of : Scope → Stretch → StorageUnits
storage_units_of scope e = (further (storage_of scope e.name).start (e.first - 1), e.count)

-- the index of a storage unit in lists of consecutive units: its distance from the first one, where that is within the first list, or else
-- its index in the lists after it
abbrev pub index_within : ℕ → Option ℕ → Option ℕ → Option ℕ
index_within count None after = option_map (λ n. count + n) after
index_within count (Some i) after = if nat_lt i count then Some i else option_map (λ n. count + n) after

abbrev pub index_of_location : List StorageUnits → Location → Option ℕ
index_of_location [] location = None
index_of_location (u ∷ us) location = index_within u.1 (distance u.0 location) (index_of_location us location)

abbrev pub cell_given : Option Value → Cell → Cell
cell_given None cell = cell
cell_given (Some v) cell = record { value = Some v; full = cell.full }

-- the store in which the first storage unit has the first value, and so on
abbrev pub with_values : Store → List StorageUnits → List (Repeated Value) → Store
with_values store us vs location = cell_given (option_and_then (item_at vs) (index_of_location us location)) (store location)

abbrev pub storage_units_named : Scope → List Target → List StorageUnits
storage_units_named scope ts =
    flat_map (λ (t : Target). map (storage_units_of scope) (option_to_list (elements_named scope.unit (constant_value scope.unit) t))) ts

abbrev pub all_values_given : Scope → List DataValue → List (Repeated Value)
all_values_given scope vs = flat_map (λ (v : DataValue). option_to_list (values_given (constant_value scope.unit) v)) vs

abbrev pub with_group : Scope → Store → DataGroup → Store
with_group scope store g = with_values store (storage_units_named scope g.targets) (all_values_given scope g.values)

abbrev pub with_groups : Scope → Store → List DataGroup → Store
with_groups scope store [] = store
with_groups scope store (g ∷ gs) = with_groups scope (with_group scope store g) gs

-- the store before the first step
abbrev pub initial_store : Units → Store
initial_store program =
    with_groups (record { unit = unit_at program (main_unit program); number = 1; dummies = [] }) (λ location. unset_cell) (
    data_groups (unit_at program (main_unit program)))

-- ---- the first state: docs/MACHINE.md, "The opening and runs"

-- process 1 at the first executable statement of the main program
unfoldable pub opening : Units → State
opening program =
    record {
      processes = (entry_level (unit_at program (main_unit program)) 1 ∷ []) ∷ [];
      activations = record { unit = main_unit program; parent = None; dummies = [] } ∷ [];
      store = initial_store program;
      records = [];
      faults = [];
      halted = false;
    }
