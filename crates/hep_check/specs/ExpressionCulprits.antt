-- The name at fault in an expression: the first name of a part that has the wrong type, or that is an array where a scalar is needed:
-- docs/MACHINE.md, "Notes".
use Rattle.std.specs.Prelude.{if◌then◌else◌, List, Option, Some, None}
use Rattle.hep_machine.specs.Words.{Tree, Trees, constant, occurrence, with_list, parenthesized, signed, negated, binary, no_trees, trees, Occurrence, Operator, Statement, ValueType, Integer, Logical, is_array, Meaning, element, pure, state, external, listed_meaning}
use Rattle.hep_conditions.specs.Statements as types
use Rattle.hep_conditions.specs.Statements.{FunctionTypes, has_dimensions, is_of, type_of_tree}

abbrev pub Found : Type 0
Found = Option Occurrence

abbrev pub either : Found → Found → Found
either (Some p) other = Some p
either None other = other

abbrev pub type_of_operands : Operator → ValueType
type_of_operands o = types.type_of_operands o

-- ---- names

abbrev pub first_name : Tree → Found
first_name (constant v) = None
first_name (occurrence p) = Some p
first_name (with_list p ts) = Some p
first_name (parenthesized t) = first_name t
first_name (signed s t) = first_name t
first_name (negated t) = first_name t
first_name (binary o a b) = either (first_name a) (first_name b)

-- the name, where it is that of an array
abbrev pub whole_array : List Statement → Occurrence → Found
whole_array unit p = if is_array unit p.name then Some p else None

-- the name of an array, where the numbers of subscripts and dimensions differ
abbrev pub misdimensioned : List Statement → Occurrence → Trees → Found
misdimensioned unit p ts = if has_dimensions unit p.name ts then None else Some p

-- the name at fault in the list of a name, by the name at fault among subscripts and the one among actual arguments
abbrev pub wrong_in_list : List Statement → Meaning → Occurrence → Trees → Found → Found → Found
wrong_in_list unit element p ts integers actuals = either (misdimensioned unit p ts) integers
wrong_in_list unit (pure f) p ts integers actuals = integers
wrong_in_list unit (state f) p ts integers actuals = actuals
wrong_in_list unit external p ts integers actuals = actuals

-- ---- expressions

module _ (functions : FunctionTypes) where
  -- the first name of an expression, where the expression doesn't have the wanted type
  abbrev pub unlike : List Statement → ValueType → Tree → Found
  unlike unit t e = if is_of t (type_of_tree functions unit e) then None else first_name e

  abbrev mutual
    -- the name at fault in an expression by itself
    pub wrong_in : List Statement → Tree → Found
    wrong_in unit (constant v) = None
    wrong_in unit (occurrence p) = whole_array unit p
    wrong_in unit (with_list p ts) = wrong_in_list unit (listed_meaning unit p.name) p ts (wrong_among unit ts) (wrong_actual unit ts)
    wrong_in unit (parenthesized t) = wrong_in unit t
    wrong_in unit (signed s t) = either (wrong_in unit t) (unlike unit Integer t)
    wrong_in unit (negated t) = either (wrong_in unit t) (unlike unit Logical t)
    wrong_in unit (binary o a b) =
        either (either (wrong_in unit a) (unlike unit (type_of_operands o) a)) (either (wrong_in unit b) (unlike unit (type_of_operands o) b))

    -- the name at fault in subscripts, or in arguments of a function of integers
    pub wrong_among : List Statement → Trees → Found
    wrong_among unit no_trees = None
    wrong_among unit (trees t ts) = either (either (wrong_in unit t) (unlike unit Integer t)) (wrong_among unit ts)

    -- the name at fault in actual arguments; a name by itself is no operand there
    pub wrong_actual : List Statement → Trees → Found
    wrong_actual unit no_trees = None
    wrong_actual unit (trees (occurrence p) ts) = wrong_actual unit ts
    wrong_actual unit (trees t ts) = either (wrong_in unit t) (wrong_actual unit ts)

  abbrev pub wrong_in_actual : List Statement → Tree → Found
  wrong_in_actual unit (occurrence p) = None
  wrong_in_actual unit t = wrong_in unit t

  -- the name at fault in an expression that must have a type
  abbrev pub wrong_as : List Statement → ValueType → Tree → Found
  wrong_as unit t e = either (wrong_in unit e) (unlike unit t e)
