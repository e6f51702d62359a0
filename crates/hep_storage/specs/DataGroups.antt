-- Groups of DATA, by one pass: X3.9-1978, 9.2.
use Rattle.std.specs.Prelude.{◌≡◌, ℕ, Bool, false, ◌||◌, List, [], ◌∷◌, ◌++◌, Option, Some, None, option_to_list}
use Rattle.std.specs.List.{flat_map, list_any}
use Rattle.hep_machine.specs.Words.{DataGroup, DataValue, Target, Name, Statement, Value, Constants, value_among, given_by, Repeated, groups_in, Stretch, elements_named, values_given, type_of, constants_in}
use Rattle.hep_conditions.specs.Words.{is_misplaced, is_wrong_group, is_given_twice, elements_in, line_when, type_of_value}
use Rattle.hep_storage.specs.InitializedElements.{IsGiven, given_after}
use Rattle.hep_storage.specs.declared.initialized_elements.InitializedElements.{InitializedElements}
use Rattle.hep_storage.specs.declared.runs.Position.{Position}
use Rattle.hep_storage.specs.declared.runs.PositionRun.{PositionRun}

-- the position of a name in DATA, where only types are compared
abbrev pub position_of_name : List Statement → Name → Position
position_of_name unit x = record { asynchronous = false; value_type = type_of unit x }

abbrev pub position_of_value : Value → Position
position_of_value v = record { asynchronous = false; value_type = Some (type_of_value v) }

abbrev pub run_of_value : Repeated Value → PositionRun
run_of_value r = record { position = position_of_value r.item; count = r.count }

abbrev pub run_of_values : Option (Repeated Value) → Option PositionRun
run_of_values None = None
run_of_values (Some r) = Some (run_of_value r)

-- the run of a value: its type, repeated by the repeat count
abbrev pub run_given : Constants → DataValue → Option PositionRun
run_given known v = run_of_values (values_given (value_among known) v)

-- ---- lines

abbrev pub is_wrong : List Statement → Constants → Statement → Bool
is_wrong unit known s = is_misplaced unit s || list_any (is_wrong_group unit known) (groups_in s.form)

-- the lines of all statements that violate 311
abbrev pub data_lines : List Statement → Constants → List Stretch → List Statement → List ℕ
data_lines unit known given [] = []
data_lines unit known given (s ∷ ss) =
    option_to_list (line_when (is_wrong unit known s || is_given_twice given (elements_in unit known s)) s.line)
    ++ data_lines unit (given_by unit known (constants_in s.form)) (elements_in unit known s ++ given) ss

-- ---- the elements that get values

abbrev pub elements_of_target : List Statement → Constants → Target → List Stretch
elements_of_target unit known t = option_to_list (elements_named unit (value_among known) t)

abbrev pub elements_of_targets : List Statement → Constants → List Target → List Stretch
elements_of_targets unit known ts = flat_map (elements_of_target unit known) ts

abbrev pub elements_of_groups : List Statement → Constants → List DataGroup → List Stretch
elements_of_groups unit known gs = flat_map (λ (g : DataGroup). elements_of_targets unit known g.targets) gs

-- A statement gives elements values: `wrong` says whether it violates 311, and `new` are the tables after it.
abbrev pub GivesValues : List Statement → Constants → InitializedElements → InitializedElements → Statement → Bool → Type 0
GivesValues unit known old new s wrong =
    (given : List Stretch) → IsGiven unit given old
    → (wrong ≡ (is_wrong unit known s || is_given_twice given (elements_in unit known s))) × IsGiven unit (given_after given (elements_in unit known s)) new
