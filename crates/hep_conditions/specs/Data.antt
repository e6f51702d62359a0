-- Conditions of DATA: 311 (X3.9-1978, section 9).
use Rattle.std.specs.Prelude.{Bool, false, not, ◌&&◌, ◌||◌, nat_eq, List, [], ◌∷◌, ◌++◌, length, Option, Some, None, is_none, is_some, option_to_list}
use Rattle.std.specs.List.{flat_map, list_any}
use Rattle.std.specs.Option.{option_map}
use Rattle.hep_machine.specs.Words.{trees_of, DataGroup, DataValue, Target, Name, Statement, Value, integers_of, Constants, value_among, values_of, given_by, constant_shape, type_of, is_array, is_dummy, is_common, is_nonempty, constants_in, same_name, groups_in, Repeated, Stretch, elements_named, repeat_of, value_of_constant, values_given, Bounds, element_number, is_main, procedure_name}
use Rattle.hep_conditions.specs.Known.{Known, nothing_more, known_before, same_length, meet, holds_at_each_place}
use Rattle.hep_conditions.specs.Statements.{agree, type_of_value}
use Rattle.hep_conditions.specs.Violations.{Violations, at_line, when}

-- ---- what is known of the lists of a group: docs/LANGUAGE.md, 10

-- a name, repeated for each of its elements
abbrev pub name_repeated : Stretch → Repeated Name
name_repeated e = record { item = e.name; count = e.count }

abbrev pub known_targets : List Statement → Constants → List Target → Known Name
known_targets unit known [] = nothing_more
known_targets unit known (t ∷ ts) =
    known_before (option_map name_repeated (elements_named unit (value_among known) t)) (known_targets unit known ts)

abbrev pub known_values : Constants → List DataValue → Known Value
known_values known [] = nothing_more
known_values known (v ∷ vs) = known_before (values_given (value_among known) v) (known_values known vs)

-- ---- 311 in a group: 9.1 and 9.2

-- whether a value has the type of the name to which it is given (9.2)
abbrev pub has_type : List Statement → Name → Value → Bool
has_type unit x v = agree (Some (type_of unit x)) (Some (Some (type_of_value v)))

abbrev pub is_forbidden : List Statement → Name → Bool
is_forbidden unit x = x.asynchronous || (is_dummy unit x || is_common unit x)

-- whether an element is outside its bounds (5.4.2), where bounds and subscripts are known and have the same number
abbrev pub is_outside : Option Bounds → Option (List Value) → Bool
is_outside None vs = false
is_outside (Some bs) None = false
is_outside (Some bs) (Some vs) = nat_eq (length bs) (length vs) && is_none (element_number bs (integers_of vs))

abbrev pub is_target_outside : List Statement → Constants → Target → Bool
is_target_outside unit known t =
    is_nonempty t.subscripts && (is_array unit t.occurrence.name && is_outside (constant_shape unit t.occurrence.name) (values_of unit (value_among known) (trees_of t.subscripts)))

-- whether a value is allowed: a name is that of a constant given before, and a repeat count is an integer of at least 1
abbrev pub is_value : Constants → DataValue → Bool
is_value known v = is_some (repeat_of (value_among known) v.repeat) && is_some (value_of_constant (value_among known) v.constant)

-- whether a group violates 311: a target or a value isn't allowed, or the numbers of elements and values differ (9.2)
abbrev pub is_wrong_group : List Statement → Constants → DataGroup → Bool
is_wrong_group unit known g =
    list_any (λ (t : Target). is_forbidden unit t.occurrence.name || is_target_outside unit known t) g.targets
    || (list_any (λ (v : DataValue). not (is_value known v)) g.values
    || (not (same_length (known_targets unit known g.targets) (known_values known g.values))
    || not (holds_at_each_place (has_type unit) (known_targets unit known g.targets).items (known_values known g.values).items)))

-- ---- 311 over a unit: 9.2

-- whether a DATA statement is outside the main program
abbrev pub is_misplaced : List Statement → Statement → Bool
is_misplaced unit s = is_nonempty (groups_in s.form) && not (is_main (procedure_name unit))

abbrev pub wrong_groups_from : List Statement → Constants → List Statement → Violations
wrong_groups_from unit known [] = []
wrong_groups_from unit known (s ∷ ss) =
    when (is_misplaced unit s || list_any (is_wrong_group unit known) (groups_in s.form)) (at_line 311 s.line)
    ++ wrong_groups_from unit (given_by unit known (constants_in s.form)) ss

abbrev pub share_element : Stretch → Stretch → Bool
share_element a b = same_name a.name b.name && meet a.first a.count b.first b.count

-- the elements to which a statement gives values
abbrev pub elements_in : List Statement → Constants → Statement → List Stretch
elements_in unit known s =
    flat_map (λ (g : DataGroup). flat_map (λ (t : Target). option_to_list (elements_named unit (value_among known) t)) g.targets) (groups_in s.form)

-- whether an element is given a value a second time, in this statement or after an earlier one
abbrev pub is_given_twice : List Stretch → List Stretch → Bool
is_given_twice given [] = false
is_given_twice given (e ∷ es) = list_any (share_element e) given || is_given_twice (e ∷ given) es

abbrev pub given_twice_from : List Statement → Constants → List Stretch → List Statement → Violations
given_twice_from unit known given [] = []
given_twice_from unit known given (s ∷ ss) =
    when (is_given_twice given (elements_in unit known s)) (at_line 311 s.line)
    ++ given_twice_from unit (given_by unit known (constants_in s.form)) (elements_in unit known s ++ given) ss

abbrev pub data_violations : List Statement → Violations
data_violations unit = wrong_groups_from unit [] unit ++ given_twice_from unit [] [] unit
