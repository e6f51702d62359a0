-- Names that occur once in a unit (X3.9-1978, 2.2): they may be misspelled.
use Rattle.std.specs.Prelude.{ℕ, Bool, true, false, not, ◌&&◌, ◌||◌, if◌then◌else◌, List, [], ◌∷◌, Option, Some, None}
use Rattle.std.specs.List.{flat_map, list_any}
use Rattle.hep_machine.specs.Words.{Form, Name, Occurrence, Statement, Tree, is_common, is_external, listed_meaning, name_eq}
use Rattle.hep_machine.specs.Words.{names_of_occurrences, occurrences_in, occurrences_in_statement}
use Rattle.hep_source.specs.declared.statement.Form.TheVariants as form
use Rattle.hep_conditions.specs.Words.{NameWithList, names_with_lists_in}
use Rattle.hep_warnings.specs.declared.occurrences.FirstOccurrence.{FirstOccurrence}

-- ---- the standing of a name: the line where it occurs first, and whether it occurs once

-- the standing of a name after one more occurrence at a line
abbrev pub also_at : ℕ → Option FirstOccurrence → FirstOccurrence
also_at line None = record { line = line; is_once = true }
also_at line (Some s) = record { line = s.line; is_once = false }

-- the standing of a name after these names, which occur in a statement with this line
abbrev pub after_names : Name → ℕ → Option FirstOccurrence → List Name → Option FirstOccurrence
after_names x line so_far [] = so_far
after_names x line so_far (y ∷ ys) = after_names x line (if name_eq x y then Some (also_at line so_far) else so_far) ys

-- the variables and constants of a statement, each as often as it occurs there
abbrev pub names_in : List Statement → Statement → List Name
names_in unit s = names_of_occurrences (occurrences_in_statement unit s)

-- the standing of a name after these statements of a unit
abbrev pub after_statements : List Statement → Name → Option FirstOccurrence → List Statement → Option FirstOccurrence
after_statements unit x so_far [] = so_far
after_statements unit x so_far (s ∷ ss) = after_statements unit x (after_names x s.line so_far (names_in unit s)) ss

-- the standing of a name in a unit; none where the unit doesn't have the name
abbrev pub standing : List Statement → Name → Option FirstOccurrence
standing unit x = after_statements unit x None unit

-- ---- names that may occur once without being a mistake

-- whether a name with a list is a reference of a function of the program, which may have side effects
abbrev pub refers : List Statement → NameWithList → Bool
refers unit r = is_external (listed_meaning unit r.occurrence.name)

abbrev pub is_asynchronous : Occurrence → Bool
is_asynchronous p = p.name.asynchronous

abbrev pub does_more : List Statement → Tree → Bool
does_more unit t = list_any is_asynchronous (occurrences_in unit t) || list_any (refers unit) (names_with_lists_in t)

-- the variable of a DO, and the target of an expression with a side effect, as J in `J = $DONE`
abbrev pub names_needed : List Statement → Form → List Name
names_needed unit (form.Do c) = c.variable.name ∷ []
names_needed unit (form.Assign x t) = if does_more unit t then x.occurrence.name ∷ [] else []
names_needed unit _ = []

abbrev pub names_needed_in : List Statement → List Name
names_needed_in unit = flat_map (λ (s : Statement). names_needed unit s.form) unit

-- whether a name occurs once, is not in COMMON, and is no such variable
abbrev pub is_lonely : List Statement → Name → FirstOccurrence → Bool
is_lonely unit x s = s.is_once && (not (is_common unit x) && not (list_any (name_eq x) (names_needed_in unit)))
