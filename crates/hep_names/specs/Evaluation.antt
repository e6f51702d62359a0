-- Values of expressions, as one walk over a tree finds them.
use Rattle.std.specs.Prelude.{Bool, not, ◌||◌, List, [], ◌∷◌, ◌++◌, Option, Some, None}
use Rattle.std.specs.List.{list_all, list_any}
use Rattle.hep_machine.specs.Words.{Tree, Trees, Name, Occurrence, Statement, Value, is_among, function_value, Constants, without_fault, Meaning, pure, occurrences_in_all}
use Rattle.hep_conditions.specs.Words.{Parameters, has_value_or_is_open, is_counted, subexpressions_of, subexpressions_of_all, names_with_lists_in_all}

abbrev pub parameters : Constants → List Name → Parameters
parameters known doubtful = record { known = known; doubtful = doubtful }

-- whether each subexpression has a value or is open
abbrev pub are_parts_known : List Statement → Parameters → Tree → Bool
are_parts_known unit ps t = list_all (has_value_or_is_open unit ps) (subexpressions_of t)

-- ---- lists of expressions

abbrev pub are_all_parts_known : List Statement → Parameters → Trees → Bool
are_all_parts_known unit ps ts = list_all (has_value_or_is_open unit ps) (subexpressions_of_all ts)

abbrev pub is_any_open : List Statement → Parameters → Trees → Bool
is_any_open unit ps ts =
    list_any (λ (p : Occurrence). is_among p.name ps.doubtful) (occurrences_in_all unit ts) || not (list_all (is_counted unit) (names_with_lists_in_all ts))

-- values with one more appended
abbrev pub with_last : Option (List Value) → Option Value → Option (List Value)
with_last None v = None
with_last (Some vs) None = None
with_last (Some vs) (Some v) = Some (vs ++ v ∷ [])

-- values with others appended
abbrev pub values_after : Option (List Value) → Option (List Value) → Option (List Value)
values_after None ws = None
values_after (Some vs) None = None
values_after (Some vs) (Some ws) = Some (vs ++ ws)

-- the value of a name with a list, by the values in the list
abbrev pub applied : Meaning → Option (List Value) → Option Value
applied (pure f) (Some vs) = without_fault (function_value f vs)
applied _ _ = None
