-- Unused labels (X3.9-1978, 3.4).
use Rattle.std.specs.Prelude.{ℕ, Bool, not, nat_eq, List, [], ◌++◌, Option, Some, None}
use Rattle.std.specs.List.{flat_map, list_any}
use Rattle.hep_machine.specs.Words.{Statement, Units}
use Rattle.hep_conditions.specs.Words.{targets_of_jump, terminal_labels}
use Rattle.hep_warnings.specs.declared.warning.WarningKind.TheVariants.{Label}
use Rattle.hep_warnings.specs.Lines.{Warnings, when}

-- the labels that a statement uses: those to which it may jump, and that of the terminal statement of its DO
abbrev pub labels_used : Statement → List ℕ
labels_used s = targets_of_jump s.form ++ terminal_labels s.form

-- whether a statement of the unit uses the label
abbrev pub is_used : List Statement → ℕ → Bool
is_used unit l = list_any (nat_eq l) (flat_map labels_used unit)

abbrev pub label_warning : List Statement → Option ℕ → ℕ → Warnings
label_warning unit None line = []
label_warning unit (Some l) line = when (not (is_used unit l)) line (Label l)

abbrev pub unused_at : List Statement → Statement → Warnings
unused_at unit s = label_warning unit s.label s.line

-- the labels of a unit that no statement of it uses, each at the line of its statement
abbrev pub unused_in : List Statement → Warnings
unused_in unit = flat_map (unused_at unit) unit

abbrev pub label_warnings : Units → Warnings
label_warnings program = flat_map unused_in program
