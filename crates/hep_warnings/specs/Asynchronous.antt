-- Asynchronous variables that no statement fills, or whose values no statement reads (docs/LANGUAGE.md, 9).
use Rattle.std.specs.Prelude.{Bool, true, false, not, ◌&&◌, if◌then◌else◌, List, [], ◌∷◌, ◌++◌, is_none}
use Rattle.std.specs.List.{flat_map, list_any}
use Rattle.hep_machine.specs.Words.{Form, Name, Occurrence, Statement, Target, Tree, Trees, no_trees, occurrence, trees, trees_of, with_list, dummies_of, index_among, is_common, name_eq, names_of_occurrences, occurrences_in, occurrences_in_form}
use Rattle.hep_source.specs.declared.statement.Form.TheVariants as form
use Rattle.hep_conditions.specs.Words.{NameWithList, names_with_lists}
use Rattle.hep_warnings.specs.SingleOccurrences.{refers}

-- whether a name is a local asynchronous variable: no dummy argument, and not in COMMON. Other units can only use it where it is passed.
abbrev pub is_own : List Statement → Name → Bool
is_own unit x = x.asynchronous && (is_none (index_among x (dummies_of unit)) && not (is_common unit x))

-- ---- filled: assigned, or passed to a unit, which may assign it

-- the names that an actual argument passes by reference: a variable, an array or an element (15.9.3)
abbrev pub names_passed_by : Tree → List Name
names_passed_by (occurrence p) = p.name ∷ []
names_passed_by (with_list p ts) = p.name ∷ []
names_passed_by _ = []

abbrev pub names_passed : Trees → List Name
names_passed no_trees = []
names_passed (trees t ts) = names_passed_by t ++ names_passed ts

-- the names that a reference of a function of the program passes
abbrev pub names_given : List Statement → NameWithList → List Name
names_given unit r = if refers unit r then names_passed r.arguments else []

abbrev pub names_assigned : Form → List Name
names_assigned (form.Assign x t) = x.occurrence.name ∷ []
names_assigned (form.Call p ts) = names_passed (trees_of ts)
names_assigned (form.Create p ts) = names_passed (trees_of ts)
names_assigned _ = []

abbrev pub names_filled_by : List Statement → Statement → List Name
names_filled_by unit s = names_assigned s.form ++ flat_map (names_given unit) (names_with_lists s)

-- the names that the statements of a unit may fill
abbrev pub names_filled : List Statement → List Name
names_filled unit = flat_map (names_filled_by unit) unit

-- ---- read: every occurrence that isn't declared, assigned or purged

abbrev pub reads_in_subscripts : List Statement → Target → List Occurrence
reads_in_subscripts unit x = flat_map (occurrences_in unit) x.subscripts

-- whether a statement only declares variables
abbrev pub declares : Form → Bool
declares (form.Subroutine p dummies) = true
declares (form.Function t p dummies) = true
declares (form.Declare t ds) = true
declares (form.Dimension ds) = true
declares (form.Common blocks) = true
declares _ = false

abbrev pub reads_in_form : List Statement → Form → List Occurrence
reads_in_form unit (form.Assign x t) = reads_in_subscripts unit x ++ occurrences_in unit t
reads_in_form unit (form.Purge targets) = flat_map (reads_in_subscripts unit) targets
reads_in_form unit f = if declares f then [] else occurrences_in_form unit f

abbrev pub reads_in : List Statement → Statement → List Occurrence
reads_in unit s = flat_map (occurrences_in unit) s.conditions ++ reads_in_form unit s.form

-- the names of variables that the statements of a unit may read, or whose state they may test
abbrev pub names_read : List Statement → List Name
names_read unit = names_of_occurrences (flat_map (reads_in unit) unit)

-- ---- local variables that can't ever be full, and those that are filled but never read

abbrev pub is_never_filled : List Statement → Name → Bool
is_never_filled unit x = is_own unit x && not (list_any (name_eq x) (names_filled unit))

abbrev pub is_never_read : List Statement → Name → Bool
is_never_read unit x = is_own unit x && not (list_any (name_eq x) (names_read unit))
