-- Conditions of names: 301, 309 and 310.
use Rattle.std.specs.Prelude.{ℕ, max, Bool, true, false, not, ◌&&◌, nat_le, if◌then◌else◌, List, [], ◌∷◌, ◌++◌, map, is_none, option_to_list, Option, Some, None}
use Rattle.std.specs.List.{flat_map, filter}
use Rattle.hep_machine.specs.Words.{CommonBlock, Declarator, ImplicitGroup, LetterRange, Target, Name, Occurrence, Form, Statement, type_of, is_array, is_constant_name, is_nonempty, blocks_in, constants_in, names_of_constants, declarators_in, names_declared, block_of, Meaning, is_external, function_named, listed_meaning, is_referenced, names_listed_by, same_name, Units, dummies_by_header, names_of_occurrences, subroutine_called, function_called, groups_in, occurrences_in_statement, occurrences_in_target}
use Rattle.hep_source.specs.declared.statement.Form.TheVariants as form
use Rattle.hep_conditions.specs.Statements.{NameWithList, names_with_lists, targets_assigned, targets_in_data, targets_purged, Calling, calls_in, FunctionTypes, function_types, is_function_in}
use Rattle.hep_conditions.specs.Violations.{Violations, at_line, at_occurrence, when, repeated_by}

-- ---- 301: a variable or named constant has no type (X3.9-1978, 4.1.2, 8.4 and 8.5)

abbrev pub is_untyped : FunctionTypes → List Statement → Name → Bool
is_untyped functions unit x = is_none (type_of unit x) && not (is_function_in functions unit x)

abbrev pub untyped_in : FunctionTypes → List Statement → Statement → Violations
untyped_in functions unit s =
    flat_map (λ (p : Occurrence). when (is_untyped functions unit p.name) (at_occurrence 301 s.line p)) (occurrences_in_statement unit s)

abbrev pub type_missing_violations : FunctionTypes → List Statement → Violations
type_missing_violations functions unit = flat_map (untyped_in functions unit) unit

-- ---- 309: a name denotes two things, or is declared twice in the same way (18.1 and 18.2)

-- a use of a name: the name, and the line of the statement that uses it
abbrev pub Use : Type 0
Use = Name × ℕ

abbrev pub uses_by : (Statement → List Name) → List Statement → List Use
uses_by names unit = flat_map (λ (s : Statement). map (λ (x : Name). (x, s.line)) (names s)) unit

-- the second use of a name, and each later one
abbrev pub repeated : List Use → Violations
repeated uses = repeated_by 309 same_name uses

-- the violations of names that are used in both ways, each at the later of two lines
abbrev pub both_ways : List Use → List Use → Violations
both_ways us ws = flat_map (λ (u : Use). flat_map (λ (w : Use). when (same_name u.0 w.0) (at_line 309 (max u.1 w.1))) ws) us

abbrev pub names_typed : Form → List Name
names_typed (form.Declare t ds) = names_declared ds
names_typed (form.Function (Some t) p dummies) = p.name ∷ []
names_typed _ = []

abbrev pub typed_names : Statement → List Name
typed_names s = names_typed s.form

abbrev pub bounded_names : Statement → List Name
bounded_names s = names_declared (filter (λ (d : Declarator). is_nonempty d.dimensions) (declarators_in s.form))

abbrev pub common_names : Statement → List Name
common_names s = flat_map (λ (b : CommonBlock). names_declared b.entries) (blocks_in s.form)

abbrev pub constant_names : Statement → List Name
constant_names s = names_of_constants (constants_in s.form)

abbrev pub dummy_names : Statement → List Name
dummy_names s = dummies_by_header s.form

abbrev pub names_of_targets : List Target → List Name
names_of_targets ts = map (λ (t : Target). t.occurrence.name) ts

abbrev pub assigned_names : Statement → List Name
assigned_names s = names_of_targets (targets_assigned s.form)

abbrev pub data_names : Statement → List Name
data_names s = names_of_targets (targets_in_data s.form)

abbrev pub called_names : Statement → List Name
called_names s = map (λ (c : Calling). c.occurrence.name) (calls_in s.form)

-- the occurrences of names in a statement, without those of values and repeat counts in DATA, which name no variables (311)
abbrev pub occurrences_of_variables : List Statement → Statement → List Occurrence
occurrences_of_variables unit s =
    if is_nonempty (groups_in s.form) then flat_map (occurrences_in_target unit) (targets_in_data s.form) else occurrences_in_statement unit s

-- the name of a function in its header
abbrev pub names_of_result : Form → List Name
names_of_result (form.Function t p dummies) = p.name ∷ []
names_of_result _ = []

abbrev pub result_names : Statement → List Name
result_names s = names_of_result s.form

-- the names that a statement gives a type and the unit references as functions
abbrev pub referenced_typed : List Statement → Statement → List Name
referenced_typed unit s = filter (is_referenced unit) (typed_names s)

-- the variables of a statement: its names other than those of constants and functions
abbrev pub variable_names : FunctionTypes → List Statement → Statement → List Name
variable_names functions unit s =
    filter (λ (x : Name). not (is_constant_name unit x) && not (is_function_in functions unit x)) (
    names_of_occurrences (occurrences_of_variables unit s) ++ referenced_typed unit s)

-- the functions of the program that a statement references, and those that it names without a list
abbrev pub function_names : FunctionTypes → List Statement → Statement → List Name
function_names functions unit s = filter (is_function_in functions unit) (names_listed_by s)

abbrev pub function_names_alone : FunctionTypes → List Statement → Statement → List Name
function_names_alone functions unit s = filter (is_function_in functions unit) (names_of_occurrences (occurrences_in_statement unit s))

-- the ranges of letters of an IMPLICIT statement, in order
abbrev pub letter_ranges_in : Form → List LetterRange
letter_ranges_in (form.Implicit groups) = flat_map (λ (g : ImplicitGroup). g.letters) groups
letter_ranges_in _ = []

-- whether a letter is in both ranges
abbrev pub overlap : LetterRange → LetterRange → Bool
overlap a b = nat_le a.first b.last && nat_le b.first a.last

abbrev pub letter_ranges_of : List Statement → List (LetterRange × ℕ)
letter_ranges_of unit = flat_map (λ (s : Statement). map (λ (r : LetterRange). (r, s.line)) (letter_ranges_in s.form)) unit

-- the violations of letters that the IMPLICIT statements of a unit name twice (8.5)
abbrev pub letters_repeated : List Statement → Violations
letters_repeated unit = repeated_by 309 overlap (letter_ranges_of unit)

-- the violations of two dummy arguments with one name, and of names that get a type, bounds, a position in COMMON or a value twice
abbrev pub given_twice : List Statement → Violations
given_twice unit =
    flat_map (λ names. repeated (uses_by names unit)) (dummy_names ∷ typed_names ∷ bounded_names ∷ common_names ∷ constant_names ∷ [])

abbrev pub used_both_ways : List Statement → (Statement → List Name) → (Statement → List Name) → Violations
used_both_ways unit one other = both_ways (uses_by one unit) (uses_by other unit)

-- the violations of constants that are dummy arguments, have bounds, are in COMMON, get a value by DATA, are assigned or are called
abbrev pub misused_constants : List Statement → Violations
misused_constants unit =
    flat_map (used_both_ways unit constant_names) (dummy_names ∷ bounded_names ∷ common_names ∷ data_names ∷ assigned_names ∷ called_names ∷ [])

-- the violations of functions whose name is a dummy argument, has bounds, is in COMMON or is that of a constant
abbrev pub misused_results : List Statement → Violations
misused_results unit = flat_map (used_both_ways unit result_names) (dummy_names ∷ bounded_names ∷ common_names ∷ constant_names ∷ [])

-- the violations of functions with the name of a function of the language
abbrev pub misnamed : List Statement → Violations
misnamed unit =
    flat_map (λ (s : Statement). flat_map (λ (x : Name). when (not (is_external (function_named x))) (at_line 309 s.line)) (result_names s)) unit

-- all violations of 309 in a unit; further no dummy argument is in COMMON, no called name is a variable, and no function is a variable or
-- constant
abbrev pub ambiguous_in : FunctionTypes → List Statement → Violations
ambiguous_in functions unit =
    letters_repeated unit
    ++ (given_twice unit
    ++ (used_both_ways unit dummy_names common_names
    ++ (misused_constants unit
    ++ (misused_results unit
    ++ (misnamed unit
    ++ (used_both_ways unit called_names (variable_names functions unit)
    ++ used_both_ways unit (function_names functions unit) (function_names_alone functions unit)))))))

-- the name in the header of a unit; a main program without a PROGRAM statement has none
abbrev pub header_name : Form → List Name
header_name (form.Program p) = p.name ∷ []
header_name (form.Subroutine p dummies) = p.name ∷ []
header_name (form.Function t p dummies) = p.name ∷ []
header_name _ = []

abbrev pub unit_uses : List Statement → List Use
unit_uses unit = uses_by (λ (s : Statement). header_name s.form) unit

-- the names of the common blocks of a statement; blank COMMON has none
abbrev pub block_names : Statement → List Name
block_names s = flat_map (λ (b : CommonBlock). option_to_list (block_of b)) (blocks_in s.form)

-- the violations of two units, or a unit and a common block, with one name
abbrev pub ambiguous_units : Units → Violations
ambiguous_units program =
    repeated (flat_map unit_uses program) ++ both_ways (flat_map unit_uses program) (flat_map (uses_by block_names) program)

abbrev pub name_violations : Units → Violations
name_violations program = ambiguous_units program ++ flat_map (ambiguous_in (function_types program)) program

-- ---- 310: a name that must be a subroutine, array or function is none (5.3, 15.3 and 15.6.2)

abbrev pub unknown_subroutines : Units → Statement → Violations
unknown_subroutines program s =
    flat_map (λ (c : Calling). when (is_none (subroutine_called program c.occurrence.name)) (at_occurrence 310 s.line c.occurrence)) (calls_in s.form)

abbrev pub is_unknown : Units → List Statement → Name → Bool
is_unknown program unit x = is_external (listed_meaning unit x) && is_none (function_called program x)

abbrev pub unknown_references : Units → List Statement → Statement → Violations
unknown_references program unit s =
    flat_map (λ (r : NameWithList). when (is_unknown program unit r.occurrence.name) (at_occurrence 310 s.line r.occurrence)) (names_with_lists s)

-- the violations of targets with a list whose name is no array
abbrev pub unknown_targets : List Statement → Statement → Violations
unknown_targets unit s =
    flat_map (λ (t : Target). when (is_nonempty t.subscripts && not (is_array unit t.occurrence.name)) (at_occurrence 310 s.line t.occurrence)) (
    targets_assigned s.form ++ (targets_in_data s.form ++ targets_purged s.form))

abbrev pub unknown_name_violations : Units → List Statement → Violations
unknown_name_violations program unit =
    flat_map (λ (s : Statement). unknown_subroutines program s ++ (unknown_references program unit s ++ unknown_targets unit s)) unit
