-- The variables that DATA gives values, and the values: X3.9-1978, section 9.
use Rattle.std.specs.Prelude.{◌≡◌, ◌+◌, ◌<◌, ◌≤◌, ℕ, List, Some, option_to_list}
use Rattle.std.specs.List.{flat_map}
use Rattle.std.specs.Option.{option_map}
use Rattle.hep_machine.specs.Words.{DataGroup, DataValue, Target, Name, Statement, Value, constant_value, Repeated, Stretch, elements_named, groups_in, item_at, values_given, type_of}
use Rattle.hep_conditions.specs.Words.{name_repeated, count_of_items, type_of_value}

-- the elements of names, as stretches in their order
abbrev pub stretches_of : List Statement → List Target → List Stretch
stretches_of unit ts = flat_map (λ (t : Target). option_to_list (elements_named unit (constant_value unit) t)) ts

-- the names of these elements, each as often as it has elements there
abbrev pub names_given : List Statement → List Target → List (Repeated Name)
names_given unit ts = flat_map (λ (t : Target). option_to_list (option_map name_repeated (elements_named unit (constant_value unit) t))) ts

-- the values of a group in their order
abbrev pub values_of_group : List Statement → List DataValue → List (Repeated Value)
values_of_group unit vs = flat_map (λ (v : DataValue). option_to_list (values_given (constant_value unit) v)) vs

-- there are as many values as elements, and each value is of the type of its element: 9.2
abbrev pub FitsValues : List Statement → DataGroup → Type 0
FitsValues unit g =
    (count_of_items (names_given unit g.targets) ≡ count_of_items (values_of_group unit g.values))
    × ((n : ℕ) (x : Name) (v : Value) → item_at (names_given unit g.targets) n ≡ Some x → item_at (values_of_group unit g.values) n ≡ Some v → type_of unit x ≡ Some (type_of_value v))

-- the elements that DATA gives values in a statement
abbrev pub stretches_in : List Statement → Statement → List Stretch
stretches_in unit s = flat_map (λ (g : DataGroup). stretches_of unit g.targets) (groups_in s.form)

-- and in a unit
abbrev pub all_stretches : List Statement → List Stretch
all_stretches unit = flat_map (stretches_in unit) unit

-- the element of this number of a variable is in a stretch
abbrev pub IsWithin : Stretch → Name → ℕ → Type 0
IsWithin e x n = (e.name ≡ x) × (e.first ≤ n) × (n < e.first + e.count)
