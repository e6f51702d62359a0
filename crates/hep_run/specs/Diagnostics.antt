-- The outcome of `check --format`: refusals and warnings as GNU compilers write them, for editors (GNU Coding Standards, 4.4), or as
-- objects of JSON (RFC 8259): docs/MACHINE.md, "Lines for editors".
use Rattle.std.specs.Prelude.{◌≡◌, ◌⊎◌, ℕ, Bool, true, false, nat_eq, if◌then◌else◌}
use Rattle.std.specs.Prelude.{List, [], ◌∷◌, ◌++◌, codes, map, Ok, Option, Some, None}
use Rattle.std.specs.Fmt.{decimal}
use Rattle.std.specs.List.{flat_map}
use Rattle.hep_formats.specs.Strings.{json_string}
use Rattle.hep_text.specs.Places.{place_in, place_of_line}
use Rattle.hep_text.specs.Reading.{statements_of}
use Rattle.hep_text.specs.Refusals.{words_of}
use Rattle.hep_text.specs.declared.statement.Span.{Span}
use Rattle.hep_text.specs.declared.statement.Stmt.{Stmt}
use Rattle.hep_parse.specs.Program.{IsProgram}
use Rattle.hep_machine.specs.Words.{Units}
use Rattle.hep_conditions.specs.Words.{first_violation}
use Rattle.hep_conditions.specs.declared.violation.Violation.{Violation}
use Rattle.hep_check.specs.CulpritTexts.{position_of, text_of}
use Rattle.hep_check.specs.Diagnostics.{as_told, further}
use Rattle.hep_check.specs.declared.diagnostics.Diagnostic.{Diagnostic}
use Rattle.hep_warnings.specs.Lines.{Warnings, kind_text}
use Rattle.hep_warnings.specs.Warnings.{warnings}
use Rattle.hep_warnings.specs.declared.warning.Warning.{Warning}
use Rattle.hep_outcome.specs.Outcome.{Outcome}
use Rattle.hep_outcome.specs.declared.status.Status.{Status}
use Rattle.hep_outcome.specs.declared.status.Status.TheVariants as statuses
use Rattle.hep_run.specs.declared.options.DiagnosticFormat.{DiagnosticFormat}
use Rattle.hep_run.specs.declared.options.DiagnosticFormat.TheVariants.{Gnu, Json}
use Rattle.hep_run.specs.Refusals.{Tells}
use Rattle.hep_run.specs.Sources.{IsRefusedFor, IsRefusedProgram, IsRunnable, IsSourceOf, IsUnrunnableProgram}
use Rattle.hep_run.specs.declared.refusal.SourceFault.{SourceFault}

-- ---- lines as GNU compilers write them, each with the file as it was named

-- the file and the line, each with a colon; the file alone where the line is 0, since the whole source is meant
abbrev pub line_place : List ℕ → ℕ → List ℕ
line_place file line = if nat_eq line 0 then file ++ codes ":" else file ++ codes ":" ++ decimal line ++ codes ":"

-- the same with the column, where the place is known
abbrev pub place_text : List ℕ → ℕ → Option Span → List ℕ
place_text file line None = line_place file line
place_text file line (Some span) = line_place file span.line ++ decimal span.column ++ codes ":"

-- a refusal: its place, its number, and the words of its note
abbrev pub gnu_error : List ℕ → ℕ → ℕ → List ℕ → Option Span → List ℕ
gnu_error file number line about place =
    place_text file line place ++ codes " error: " ++ decimal number ++ codes " " ++ words_of number about ++ codes "\n"

-- a warning: its line and its kind
abbrev pub gnu_warning : List ℕ → Warning → List ℕ
gnu_warning file w = line_place file w.line ++ codes " warning: " ++ kind_text w.kind ++ codes "\n"

-- ---- objects of JSON, one a line

-- the line; none where it is 0
abbrev pub line_member : ℕ → List ℕ
line_member line = if nat_eq line 0 then [] else codes ",\"line\":" ++ decimal line

-- the same with the column, where the place is known
abbrev pub place_members : ℕ → Option Span → List ℕ
place_members line None = line_member line
place_members line (Some span) = line_member span.line ++ codes ",\"column\":" ++ decimal span.column

-- the front of an object, with the file and the place
abbrev pub object_front : List ℕ → ℕ → Option Span → List ℕ
object_front file line place = codes "{\"file\":" ++ json_string file ++ place_members line place

-- and its end, with words
abbrev pub object_end : List ℕ → List ℕ
object_end message = codes ",\"message\":" ++ json_string message ++ codes "}\n"

-- the front of the object of a refusal
abbrev pub error_front : List ℕ → ℕ → ℕ → Option Span → List ℕ
error_front file number line place = object_front file line place ++ codes ",\"severity\":\"error\",\"number\":" ++ decimal number

-- a refusal
abbrev pub json_error : List ℕ → ℕ → ℕ → List ℕ → Option Span → List ℕ
json_error file number line about place = error_front file number line place ++ object_end (words_of number about)

-- a warning
abbrev pub json_warning : List ℕ → Warning → List ℕ
json_warning file w = object_front file w.line None ++ codes ",\"severity\":\"warning\"" ++ object_end (kind_text w.kind)

-- ---- by the format

abbrev pub error_text : DiagnosticFormat → List ℕ → ℕ → ℕ → List ℕ → Option Span → List ℕ
error_text Gnu = gnu_error
error_text Json = json_error

abbrev pub warning_text : DiagnosticFormat → List ℕ → Warning → List ℕ
warning_text Gnu = gnu_warning
warning_text Json = json_warning

-- ---- the lines of a source that is refused

module _ (format : DiagnosticFormat) (file : List ℕ) where
  -- the line of a refusal, by its number, its line and its name alone
  abbrev pub line_error : List ℕ → ℕ → ℕ → List ℕ → List ℕ
  line_error source number line name = error_text format file number line name (place_of_line source number line)

  -- the line of a violation, with the part of the statement that is at fault
  abbrev pub violation_error : List Stmt → Diagnostic → List ℕ
  violation_error statements d =
      error_text format file d.violation.number d.violation.line (text_of d.culprit)
      (place_in statements d.violation.line (position_of d.culprit))

  -- a line for each of these violations, whatever the refusal has besides
  abbrev pub violation_errors : List Stmt → List Diagnostic → ℕ → ℕ → List ℕ → List ℕ
  violation_errors statements ds number line name = flat_map (violation_error statements) ds

  -- the lines of the first violation of the program, and of those after it
  abbrev pub AreViolationErrors : List ℕ → List ℕ → Type 0
  AreViolationErrors source text =
      (statements : List Stmt) × (program : Units) × (v : Violation)
      × (statements_of source ≡ Ok statements) × IsProgram statements program × (first_violation program ≡ Some v)
      × (text ≡ flat_map (violation_error statements) (as_told program v ∷ map (as_told program) (further program v)))

  -- the lines of a refusal of a source: of its text, its statements or a limit, or of its violations
  abbrev pub AreErrors : List ℕ → ℕ → ℕ → List ℕ → List ℕ → Type 0
  AreErrors source number line name text =
      (IsRefusedFor IsUnrunnableProgram source number line name × (text ≡ line_error source number line name))
      ⊎ AreViolationErrors source text

  -- why a source has no program that isn't refused so, with these lines
  abbrev pub IsDiagnosedRefusal : (Units → ℕ → ℕ → List ℕ → Type 0) → List ℕ → SourceFault → Type 0
  IsDiagnosedRefusal Is source fault =
      Tells (λ number line name text. IsRefusedFor Is source number line name × AreErrors source number line name text) fault

-- ---- the outcome

-- these lines are all that is written: to standard error as compilers do, or as objects to standard output
abbrev pub outcome_of_lines : DiagnosticFormat → Status → List ℕ → Outcome
outcome_of_lines Gnu status text = record { output = []; messages = text; status = status; history = [] }
outcome_of_lines Json status text = record { output = text; messages = []; status = status; history = [] }

-- the warnings of a source and its program, where they are asked for
abbrev pub warnings_when : Bool → List ℕ → Units → Warnings
warnings_when false source program = []
warnings_when true source program = warnings source program

-- the outcome of `check --format`, with `--warn` or without, of a source in a file with this name: why the source isn't run, a line for
-- each reason; or its warnings
abbrev pub IsDiagnosticsOutcome : DiagnosticFormat → Bool → List ℕ → List ℕ → Outcome → Type 0
IsDiagnosticsOutcome format warn file source o =
    ((number : ℕ) × (line : ℕ) × (name : List ℕ) × (text : List ℕ) × IsRefusedFor IsRefusedProgram source number line name
    × AreErrors format file source number line name text × (o ≡ outcome_of_lines format statuses.Refused text))
    ⊎ ((program : Units) × IsSourceOf IsRunnable source program
    × (o ≡ outcome_of_lines format statuses.Done (flat_map (warning_text format file) (warnings_when warn source program))))
