-- Subroutines and functions that no other unit calls, creates or references: their statements are never executed.
use Rattle.std.specs.Prelude.{ℕ, Bool, false, not, List, [], ◌∷◌, ◌++◌, map}
use Rattle.std.specs.List.{filter, flat_map, list_any}
use Rattle.std.specs.Option.{option_map_or}
use Rattle.hep_machine.specs.Words.{Form, Name, Statement, Units, is_referenced, name_eq, subroutine_name}
use Rattle.hep_source.specs.declared.statement.Form.TheVariants as form
use Rattle.hep_conditions.specs.Words.{Calling, calls_in, names_with_lists, names_of_lists}
use Rattle.hep_warnings.specs.declared.warning.WarningKind.TheVariants.{Unit}
use Rattle.hep_warnings.specs.Lines.{Warnings, when}

-- whether the unit is the subroutine with this name
abbrev pub is_own : List Statement → Name → Bool
is_own unit x = option_map_or (λ y. name_eq y x) (subroutine_name unit) false

-- the subroutine that a statement calls or creates, unless it is the unit itself
abbrev pub names_called : List Statement → Form → List Name
names_called unit f = filter (λ x. not (is_own unit x)) (map (λ (c : Calling). c.occurrence.name) (calls_in f))

-- the functions that a statement refers to; `is_referenced` leaves the unit itself out
abbrev pub names_referenced : List Statement → Statement → List Name
names_referenced unit s = filter (is_referenced unit) (names_of_lists (names_with_lists s))

abbrev pub names_used_by : List Statement → Statement → List Name
names_used_by unit s = names_called unit s.form ++ names_referenced unit s

abbrev pub names_used_in : List Statement → List Name
names_used_in unit = flat_map (names_used_by unit) unit

-- the names of all units that a statement of another unit uses
abbrev pub names_used : Units → List Name
names_used program = flat_map names_used_in program

abbrev pub name_warning : List Name → ℕ → Name → Warnings
name_warning used line x = when (not (list_any (name_eq x) used)) line (Unit x)

abbrev pub header_warning : List Name → ℕ → Form → Warnings
header_warning used line (form.Subroutine p dummies) = name_warning used line p.name
header_warning used line (form.Function t p dummies) = name_warning used line p.name
header_warning used line _ = []

abbrev pub unit_warning : List Name → List Statement → Warnings
unit_warning used [] = []
unit_warning used (s ∷ ss) = header_warning used s.line s.form

-- the warnings of units that are not among these names, each at the line of its header
abbrev pub unit_warnings : Units → Warnings
unit_warnings program = flat_map (unit_warning (names_used program)) program
