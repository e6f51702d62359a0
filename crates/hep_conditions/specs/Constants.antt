-- Conditions of constants and bounds: 302 (X3.9-1978, 5.1.1, 6.1.3, 8.6 and 9.2).
use Rattle.std.specs.Prelude.{Bool, true, false, not, ◌&&◌, ◌||◌, if◌then◌else◌, List, [], ◌∷◌, ◌++◌, Option, Some, None, is_none, is_some, option_to_list}
use Rattle.std.specs.List.{list_all, list_any}
use Rattle.hep_machine.specs.Words.{Tree, DataGroup, Declarator, Dimension, NamedConstant, Target, UpperBound, ValueType, Integer, Logical, Name, Occurrence, Statement, Value, Constants, value_of, value_among, with_constant, bounds_of, groups_in, type_of, is_dummy, is_common, is_nonempty, constants_in, declarators_in, declarator_among, Meaning, pure, listed_meaning, is_among, Bounds, is_shape, occurrences_in, trees_in_declarator}
use Rattle.hep_source.specs.declared.declaration.UpperBound.TheVariants as bound
use Rattle.hep_conditions.specs.Counts.{is_counted}
use Rattle.hep_conditions.specs.Statements.{NameWithList, names_with_lists_in, subexpressions_of, agree, FunctionTypes, no_functions, type_of_tree, is_plain_integer_scalar, is_typed, is_typed_as, is_target_typed, is_form_typed}
use Rattle.hep_conditions.specs.Violations.{Violations, at_line, when}

-- ---- what is known: docs/LANGUAGE.md, 10

-- the constants that PARAMETER gave before a statement: the known ones, and the names of those whose value a violation leaves open
pub record Parameters : Type 0 where
  pub known : Constants
  pub doubtful : List Name

abbrev pub no_parameters : Parameters
no_parameters = record { known = []; doubtful = [] }

-- whether an expression depends on a constant that is open, or on a function with a wrong number of arguments
abbrev pub is_open : List Statement → Parameters → Tree → Bool
is_open unit ps t =
    list_any (λ (p : Occurrence). is_among p.name ps.doubtful) (occurrences_in unit t) || not (list_all (is_counted unit) (names_with_lists_in t))

-- whether a name was given a value before, known or open
abbrev pub is_given : Parameters → Name → Bool
is_given ps x = is_among x ps.doubtful || is_some (value_among ps.known x)

abbrev pub is_pure : Meaning → Bool
is_pure (pure f) = true
is_pure _ = false

-- whether an expression has only constants, names that were given a value before, and functions of integers: docs/LANGUAGE.md, 7
abbrev pub is_constant_expression : List Statement → Parameters → Tree → Bool
is_constant_expression unit ps t =
    list_all (λ (p : Occurrence). is_given ps p.name) (occurrences_in unit t)
    && list_all (λ (r : NameWithList). is_pure (listed_meaning unit r.occurrence.name)) (names_with_lists_in t)

abbrev pub value_by : List Statement → Parameters → Tree → Option Value
value_by unit ps t = value_of unit (value_among ps.known) t

abbrev pub has_value_or_is_open : List Statement → Parameters → Tree → Bool
has_value_or_is_open unit ps t = is_open unit ps t || is_some (value_by unit ps t)

-- whether each part of a constant expression has a value, or a violation leaves that part open
abbrev pub has_value : List Statement → Parameters → Tree → Bool
has_value unit ps t = is_constant_expression unit ps t && list_all (has_value_or_is_open unit ps) (subexpressions_of t)

-- ---- 302: constants (6.1.3, 6.4.4 and 8.6)

-- whether an expression has this type and a value, by the constants given before
abbrev pub is_constant_of : List Statement → Parameters → ValueType → Tree → Bool
is_constant_of unit ps t e = is_typed_as no_functions unit t e && has_value unit ps e

-- whether the expression of a named constant is constant and has the type of the name
abbrev pub is_constant_given : List Statement → Parameters → NamedConstant → Bool
is_constant_given unit ps c =
    is_typed no_functions unit c.value && (has_value unit ps c.value && agree (Some (type_of unit c.occurrence.name)) (type_of_tree no_functions unit c.value))

abbrev pub is_known : List Statement → Parameters → NamedConstant → Bool
is_known unit ps c = not (is_open unit ps c.value) && is_constant_given unit ps c

abbrev pub with_parameter : List Statement → Parameters → NamedConstant → Parameters
with_parameter unit ps c =
    if is_given ps c.occurrence.name then ps
    else if is_known unit ps c then record ps { known = with_constant ps.known c.occurrence.name (value_by unit ps c.value) }
    else record ps { doubtful = c.occurrence.name ∷ ps.doubtful }

abbrev pub with_parameters : List Statement → Parameters → List NamedConstant → Parameters
with_parameters unit ps [] = ps
with_parameters unit ps (c ∷ cs) = with_parameters unit (with_parameter unit ps c) cs

abbrev pub are_constants_given : List Statement → Parameters → List NamedConstant → Bool
are_constants_given unit ps [] = true
are_constants_given unit ps (c ∷ cs) = is_constant_given unit ps c && are_constants_given unit (with_parameter unit ps c) cs

-- ---- 302: bounds (5.1.1 and 5.1.2)

-- whether a bound may use this scalar: an integer without `$` that is a dummy argument or in COMMON
abbrev pub is_adjusting : List Statement → Name → Bool
is_adjusting unit x = is_plain_integer_scalar unit x && (is_dummy unit x || is_common unit x)

-- whether an expression has only constants and such scalars, and no function
abbrev pub is_adjustable : List Statement → Constants → Tree → Bool
is_adjustable unit known t =
    list_all (λ (p : Occurrence). is_some (value_among known p.name) || is_adjusting unit p.name) (occurrences_in unit t) && not (is_nonempty (names_with_lists_in t))

-- whether a bound isn't constant, because it has the name of such a scalar
abbrev pub is_adjusted : List Statement → Constants → Tree → Bool
is_adjusted unit known t = list_any (λ (p : Occurrence). is_none (value_among known p.name)) (occurrences_in unit t)

abbrev pub is_bound : List Statement → Parameters → Bool → Tree → Bool
is_bound unit ps is_of_dummy t =
    is_typed_as no_functions unit Integer t
    && (has_value unit ps t || (is_of_dummy && (is_adjusted unit ps.known t && is_adjustable unit ps.known t)))

abbrev pub is_upper_bound : List Statement → Parameters → Bool → UpperBound → Bool
is_upper_bound unit ps is_of_dummy bound.Open = is_of_dummy
is_upper_bound unit ps is_of_dummy (bound.Expression t) = is_bound unit ps is_of_dummy t

abbrev pub is_dimension : List Statement → Parameters → Bool → Dimension → Bool
is_dimension unit ps is_of_dummy d =
    list_all (is_bound unit ps is_of_dummy) (option_to_list d.lower) && is_upper_bound unit ps is_of_dummy d.upper

-- whether bounds make a shape, where all are constant
abbrev pub is_shape_if_known : Option Bounds → Bool
is_shape_if_known None = true
is_shape_if_known (Some bs) = is_shape bs

abbrev pub are_bounds_open : List Statement → Parameters → Declarator → Bool
are_bounds_open unit ps d = list_any (is_open unit ps) (trees_in_declarator d)

abbrev pub has_bounds : List Statement → Parameters → Declarator → Bool
has_bounds unit ps d =
    if is_nonempty d.dimensions
    then list_all (is_dimension unit ps (is_dummy unit d.occurrence.name)) d.dimensions
    && (are_bounds_open unit ps d || is_shape_if_known (bounds_of unit (value_among ps.known) d.dimensions))
    else true

-- ---- shapes that are known: docs/LANGUAGE.md, 10

abbrev pub shape_by_declarator : List Statement → Parameters → Option Declarator → Option Bounds → Option Bounds
shape_by_declarator unit ps None rest_after = rest_after
shape_by_declarator unit ps (Some d) rest_after =
    if has_bounds unit ps d && not (are_bounds_open unit ps d) then bounds_of unit (value_among ps.known) d.dimensions else None

abbrev pub known_shape_from : List Statement → Parameters → List Statement → Name → Option Bounds
known_shape_from unit ps [] x = Some []
known_shape_from unit ps (s ∷ ss) x =
    shape_by_declarator unit ps (declarator_among x (declarators_in s.form)) (known_shape_from unit (with_parameters unit ps (constants_in s.form)) ss x)

-- the shape of a name by the first bounds that it is given; none where these are refused, open or not constant; that of a scalar has no
-- dimension
abbrev pub known_shape : List Statement → Name → Option Bounds
known_shape unit x = known_shape_from unit no_parameters unit x

-- ---- 302 over a unit

-- whether the subscripts of a target in DATA are constant expressions (9.2)
abbrev pub has_constant_subscripts : List Statement → Parameters → Target → Bool
has_constant_subscripts unit ps t = is_target_typed no_functions unit t && list_all (is_constant_of unit ps Integer) t.subscripts

abbrev pub is_group_typed : List Statement → Parameters → DataGroup → Bool
is_group_typed unit ps g = list_all (has_constant_subscripts unit ps) g.targets

-- whether a statement violates none of 302, by the constants given before it
abbrev pub is_statement_typed : FunctionTypes → List Statement → Parameters → Statement → Bool
is_statement_typed functions unit ps s =
    list_all (is_typed_as functions unit Logical) s.conditions
    && (is_form_typed functions unit s.form
    && (are_constants_given unit ps (constants_in s.form)
    && (list_all (has_bounds unit ps) (declarators_in s.form) && list_all (is_group_typed unit ps) (groups_in s.form))))

abbrev pub type_violations_from : FunctionTypes → List Statement → Parameters → List Statement → Violations
type_violations_from functions unit ps [] = []
type_violations_from functions unit ps (s ∷ ss) =
    when (not (is_statement_typed functions unit ps s)) (at_line 302 s.line) ++ type_violations_from functions unit (with_parameters unit ps (constants_in s.form)) ss

abbrev pub type_violations : FunctionTypes → List Statement → Violations
type_violations functions unit = type_violations_from functions unit no_parameters unit
