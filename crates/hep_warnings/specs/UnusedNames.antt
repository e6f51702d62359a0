-- Names of variables and constants that the rest of their unit doesn't use.
use Rattle.std.specs.Prelude.{ℕ, nat_eq, if◌then◌else◌, List, [], ◌∷◌, Option, Some, None}
use Rattle.std.specs.List.{flat_map}
use Rattle.hep_machine.specs.Words.{Name, Statement, Units, with_names}
use Rattle.hep_warnings.specs.declared.occurrences.FirstOccurrence.{FirstOccurrence}
use Rattle.hep_warnings.specs.declared.warning.WarningKind.{WarningKind}
use Rattle.hep_warnings.specs.declared.warning.WarningKind.TheVariants.{NeverFilled, NeverRead, Once}
use Rattle.hep_warnings.specs.Asynchronous.{is_never_filled, is_never_read}
use Rattle.hep_warnings.specs.Lines.{Warnings}
use Rattle.hep_warnings.specs.SingleOccurrences.{is_lonely, names_in, standing}

-- the kind of warning of a name, which has at most one
abbrev pub kind_of : List Statement → Name → FirstOccurrence → Option WarningKind
kind_of unit x s =
    if is_never_filled unit x then Some (NeverFilled x)
    else (if is_never_read unit x then Some (NeverRead x) else (if is_lonely unit x s then Some (Once x) else None))

-- the warning of this kind at a line, if there is one
abbrev pub said : ℕ → Option WarningKind → Warnings
said line None = []
said line (Some k) = record { line = line; kind = k } ∷ []

-- the warning of a name, at the line where the name occurs first
abbrev pub warning_at : List Statement → ℕ → Name → Option FirstOccurrence → Warnings
warning_at unit line x None = []
warning_at unit line x (Some s) = if nat_eq s.line line then said line (kind_of unit x s) else []

abbrev pub name_warning : List Statement → ℕ → Name → Warnings
name_warning unit line x = warning_at unit line x (standing unit x)

-- the warnings of the names in a statement, each once
abbrev pub name_warnings_by : List Statement → Statement → Warnings
name_warnings_by unit s = flat_map (name_warning unit s.line) (with_names [] (names_in unit s))

abbrev pub name_warnings_in : List Statement → Warnings
name_warnings_in unit = flat_map (name_warnings_by unit) unit

abbrev pub name_warnings : Units → Warnings
name_warnings program = flat_map name_warnings_in program
