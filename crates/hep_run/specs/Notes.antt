-- The notes after the line of a refusal: docs/MACHINE.md, "Notes".
use Rattle.std.specs.Prelude.{◌≡◌, ◌⊎◌, ℕ, Bool, true, false, List, [], ◌++◌, Ok, map, Option, Some}
use Rattle.std.specs.List.{flat_map}
use Rattle.std.specs.Option.{option_map_or}
use Rattle.hep_text.specs.declared.statement.Stmt.{Stmt}
use Rattle.hep_text.specs.Reading.{statements_of}
use Rattle.hep_parse.specs.Program.{IsProgram}
use Rattle.hep_machine.specs.Words.{spelling, Units}
use Rattle.hep_conditions.specs.declared.violation.Violation.{Violation}
use Rattle.hep_conditions.specs.Words.{first_violation}
use Rattle.hep_check.specs.declared.diagnostics.Diagnostic.{Diagnostic}
use Rattle.hep_check.specs.Diagnostics.{as_told, further}
use Rattle.hep_check.specs.declared.culprit.Culprit.{Culprit}
use Rattle.hep_check.specs.Culprits.{culprit_of}
use Rattle.hep_check.specs.CulpritTexts.{position_of, text_of}
use Rattle.hep_text.specs.Refusals.{also_notes, line_notes, statement_notes}
use Rattle.hep_run.specs.Sources.{IsRefusedFor, IsUnrunnableProgram}

-- notes by the line alone, and none, where they aren't asked for
abbrev pub no_notes : ℕ → ℕ → List ℕ → List ℕ
no_notes number line name = []

abbrev pub line_notes_when : Bool → List ℕ → ℕ → ℕ → List ℕ → List ℕ
line_notes_when false source number line name = []
line_notes_when true source number line name = line_notes source number line name

-- the notes about a violation after the first one
abbrev pub also_of : List ℕ → List Stmt → Diagnostic → List ℕ
also_of source statements t =
    also_notes source statements t.violation.number t.violation.line (option_map_or spelling t.violation.name []) (text_of t.culprit) (position_of t.culprit)

-- notes about the part of a statement that violates a condition, and then about further violations
abbrev pub violation_notes : List ℕ → List Stmt → Option Culprit → List Diagnostic → ℕ → ℕ → List ℕ → List ℕ
violation_notes source statements culprit others number line name =
    statement_notes source statements number line (text_of culprit) (position_of culprit) ++ flat_map (also_of source statements) others

-- notes about the first violation of the program, and about those after it
abbrev pub AreViolationNotes : List ℕ → ℕ → ℕ → List ℕ → List ℕ → Type 0
AreViolationNotes source number line name notes =
    (statements : List Stmt) × (program : Units) × (v : Violation)
    × (statements_of source ≡ Ok statements) × IsProgram statements program × (first_violation program ≡ Some v)
    × (notes ≡ violation_notes source statements (culprit_of program v) (map (as_told program) (further program v)) number line name)

-- the notes of a refusal of a source: of its text, its statements or a limit, or of its violations
abbrev pub AreNotes : Bool → List ℕ → ℕ → ℕ → List ℕ → List ℕ → Type 0
AreNotes false source number line name notes = notes ≡ []
AreNotes true source number line name notes =
    (IsRefusedFor IsUnrunnableProgram source number line name × (notes ≡ line_notes source number line name))
    ⊎ AreViolationNotes source number line name notes
