-- The outcomes of `check`, `check --warn` and `list`, from the bytes of a source to the bytes that they write:
-- docs/MACHINE.md, "The program" and "Warnings".
use Rattle.std.specs.Prelude.{◌≡◌, ℕ, Bool, List, []}
use Rattle.hep_conditions.specs.Words.{IsAccepted}
use Rattle.hep_check.specs.Listing.{listing}
use Rattle.hep_warnings.specs.Lines.{Warnings, warning_text}
use Rattle.hep_warnings.specs.Warnings.{warnings}
use Rattle.hep_outcome.specs.declared.status.Status.TheVariants as statuses
use Rattle.hep_run.specs.Sources.{IsViolatingProgram}
use Rattle.hep_outcome.specs.Outcome.{Outcome}
use Rattle.hep_run.specs.Outcome.{ComesTo, RunsTo}

-- the outcome of a text
abbrev pub outcome_of_text : List ℕ → Outcome
outcome_of_text text = record { output = text; messages = []; status = statuses.Done; history = [] }

-- the outcome of `check`: why the source isn't run, or nothing
abbrev pub IsCheckOutcome : Bool → List ℕ → Outcome → Type 0
IsCheckOutcome long source o = RunsTo long (λ program end. end ≡ outcome_of_text []) source o

-- the outcome of `list`: why the source isn't accepted, or the lines of its units and common blocks; it may pass a
-- limit
abbrev pub IsListOutcome : Bool → List ℕ → Outcome → Type 0
IsListOutcome long source o = ComesTo long IsViolatingProgram IsAccepted (λ program end. end ≡ outcome_of_text (listing program)) source o

-- these warnings are all that is written
abbrev pub outcome_of_warnings : Warnings → Outcome
outcome_of_warnings ws = record { output = []; messages = warning_text ws; status = statuses.Done; history = [] }

-- the outcome of `check --warn`: why the source isn't run, as in `check`, or the warnings of the source and its
-- program
abbrev pub IsWarnOutcome : Bool → List ℕ → Outcome → Type 0
IsWarnOutcome long source o = RunsTo long (λ program end. end ≡ outcome_of_warnings (warnings source program)) source o
