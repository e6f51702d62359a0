-- DO variables that are passed to processes (docs/LANGUAGE.md, 9). The DO may change the variable before the process reads it.
use Rattle.std.specs.Prelude.{ℕ, Bool, not, nat_eq, List, [], ◌∷◌, ◌++◌, Option, Some, None}
use Rattle.std.specs.List.{filter, flat_map, list_any}
use Rattle.hep_machine.specs.Words.{Form, Name, Statement, Tree, Units, name_eq, occurrence}
use Rattle.hep_source.specs.declared.statement.Form.TheVariants as form
use Rattle.hep_warnings.specs.declared.created_with_loop_variable.EnclosingLoop.{EnclosingLoop}
use Rattle.hep_warnings.specs.declared.warning.WarningKind.TheVariants.{Create}
use Rattle.hep_warnings.specs.Lines.{Warnings, when}

-- the DO that a statement begins, if it is one
abbrev pub loops_begun : Form → List EnclosingLoop
loops_begun (form.Do c) = record { terminal = c.terminal; variable = c.variable.name } ∷ []
loops_begun _ = []

abbrev pub goes_on : ℕ → EnclosingLoop → Bool
goes_on label d = not (nat_eq d.terminal label)

-- those of these DOs that don't end at a statement with this label
abbrev pub loops_left : Option ℕ → List EnclosingLoop → List EnclosingLoop
loops_left None loops = loops
loops_left (Some l) loops = filter (goes_on l) loops

-- the DOs around the next statement, by the DOs around a statement
abbrev pub loops_behind : List EnclosingLoop → Statement → List EnclosingLoop
loops_behind around s = loops_left s.label (around ++ loops_begun s.form)

-- whether a name is that of the variable of one of these DOs
abbrev pub is_variable : List EnclosingLoop → Name → Bool
is_variable around x = list_any (λ (d : EnclosingLoop). name_eq d.variable x) around

-- the warning of an actual argument that is such a variable by itself
abbrev pub actual_warnings : List EnclosingLoop → ℕ → Name → Tree → Warnings
actual_warnings around line subroutine (occurrence p) = when (is_variable around p.name) line (Create subroutine p.name)
actual_warnings around line subroutine _ = []

abbrev pub create_warnings_by : List EnclosingLoop → ℕ → Form → Warnings
create_warnings_by around line (form.Create p ts) = flat_map (actual_warnings around line p.name) ts
create_warnings_by around line _ = []

-- the warnings of statements, by the DOs around the first one
abbrev pub create_warnings_from : List EnclosingLoop → List Statement → Warnings
create_warnings_from around [] = []
create_warnings_from around (s ∷ ss) = create_warnings_by around s.line s.form ++ create_warnings_from (loops_behind around s) ss

abbrev pub create_warnings_in : List Statement → Warnings
create_warnings_in unit = create_warnings_from [] unit

abbrev pub create_warnings : Units → Warnings
create_warnings program = flat_map create_warnings_in program
