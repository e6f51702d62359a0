-- Texts about the first entries of a history: docs/RUNS.md, "What everything holds", "What each step did", "Lanes", "A
-- timeline", "Why processes wait", "A page", "A picture" and "JSON".
use Rattle.std.specs.Prelude.{◌≡◌, ◌⊎◌, ℕ, Bool, List, length, take}
use Rattle.hep_machine.specs.declared.event.Entry.{Entry}
use Rattle.hep_machine.specs.Words.{Units}
use Rattle.hep_cover.specs.CausesReasons.{why_text}
use Rattle.hep_formats.specs.StateObjects.{state_objects}
use Rattle.hep_formats.specs.WhyObjects.{why_objects}
use Rattle.hep_state_text.specs.States.{state_text}
use Rattle.hep_state_text.specs.LineDisplay.{line_shown}
use Rattle.hep_text.specs.Line.{lines}
use Rattle.hep_diff.specs.EventTraces.{trace_text}
use Rattle.hep_page.specs.Pages.{page_text, picture_text}
use Rattle.hep_formats.specs.Lanes.{lanes_of}
use Rattle.hep_formats.specs.TraceEvents.{events_of}
use Rattle.hep_trace.specs.LineFilters.{shown_on}
use Rattle.hep_inspection.specs.Covers.{AreRefused, CanBeMade}
use Rattle.hep_inspection.specs.Origins.{HasEntries, HasNoEntries}
use Rattle.hep_inspection.specs.declared.origin.Origin.{Origin}
use Rattle.hep_inspection.specs.declared.inspection.Inspection.{Inspection}
use Rattle.hep_inspection.specs.declared.inspection.Inspection.TheVariants.{Lanes, Page, Picture, State, StateJson, Trace, TraceJson, Why, WhyJson}
use Rattle.hep_run.specs.Checks.{outcome_of_text}
use Rattle.hep_outcome.specs.Outcome.{Outcome}
use Rattle.hep_run.specs.Outcome.{RunsTo}

-- the text about entries of a source: the state after them, a line for each step, these lines as lanes or as events, a page, a picture, or
-- why processes wait; the state and why they wait also as objects
abbrev pub told : Inspection → List ℕ → Units → List Entry → List ℕ
told State source program entries = state_text (line_shown (lines source)) program (length entries) entries
told StateJson source program entries = state_objects (state_text (line_shown (lines source)) program (length entries) entries)
told (Trace page) source program entries = trace_text program (shown_on page) entries
told (Lanes page columns) source program entries = lanes_of columns (trace_text program (shown_on page) entries)
told (TraceJson page) source program entries = events_of (trace_text program (shown_on page) entries)
told (Page first) source program entries = page_text source program first entries
told Picture source program entries = picture_text program entries
told Why source program entries = why_text program entries
told WhyJson source program entries = why_objects (why_text program entries)

-- what is written about these entries: the text; or why they can't be made
abbrev pub IsToldOutcome : Inspection → Bool → List ℕ → Units → ℕ → List Entry → Outcome → Type 0
IsToldOutcome telling long source program cells entries o =
    AreRefused long cells program o entries ⊎ (CanBeMade program cells entries × (o ≡ outcome_of_text (told telling source program entries)))

-- of the first entries of the history of this origin, so many, or all where it has no more
abbrev pub IsFirstOutcome : Inspection → Bool → Origin → ℕ → ℕ → List ℕ → Units → Outcome → Type 0
IsFirstOutcome telling long origin count cells source program o =
    HasNoEntries program origin o
    ⊎ ((entries : List Entry) × HasEntries program origin entries × IsToldOutcome telling long source program cells (take count entries) o)

-- of a source
abbrev pub IsSourceTold : Inspection → Bool → Origin → ℕ → ℕ → List ℕ → Outcome → Type 0
IsSourceTold telling long origin count cells source o = RunsTo long (IsFirstOutcome telling long origin count cells source) source o
