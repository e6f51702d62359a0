-- The page of a run: docs/page/README.md; and its picture: docs/RUNS.md, "A picture".
use Rattle.std.specs.Prelude.{ℕ, ◌-◌, List, [], length, drop, take, None}
use Rattle.hep_event.specs.Traces.{LineSelection, trace_text}
use Rattle.hep_machine.specs.declared.event.Entry.{Entry}
use Rattle.hep_machine.specs.Words.{Units}
use Rattle.hep_page.specs.Changes.{changes_text}
use Rattle.hep_page.specs.Pictures.{picture_of}
use Rattle.hep_page.specs.SourceLines.{source_text}
use Rattle.hep_page.specs.Templates.{RunTexts, page_with, template_pieces}
use Rattle.hep_state_text.specs.LineDisplay.{line_shown}
use Rattle.hep_state_text.specs.States.{state_text}

-- no line of the source is shown where a process is, since the page has them all
abbrev pub unshown : ℕ → List ℕ
unshown = line_shown []

-- of a number of entries, the turns of all from the one with a number on are shown
abbrev pub shown_from : ℕ → ℕ → LineSelection
shown_from first entries = record { first = first; last = entries; process = None; cell = None }

abbrev pub all_shown : ℕ → LineSelection
all_shown entries = shown_from 1 entries

-- the entries of a history before the one with this number, and the others
abbrev pub entries_before : ℕ → List Entry → List Entry
entries_before first history = take (first - 1) history

abbrev pub entries_from : ℕ → List Entry → List Entry
entries_from first history = drop (first - 1) history

abbrev pub run_texts : List ℕ → Units → ℕ → List Entry → RunTexts
run_texts source program first history = record {
  source = source_text source;
  opening = state_text unshown program (length (entries_before first history)) (entries_before first history);
  trace = trace_text program (shown_from first (length history)) history;
  changes = changes_text program unshown (entries_before first history) (entries_from first history);
}

-- the page of the run of a program, of this source, with this history, from the entry with this number on
abbrev pub page_text : List ℕ → Units → ℕ → List Entry → List ℕ
page_text source program first history = page_with template_pieces (run_texts source program first history)

-- the picture of the run of a program with this history, by the lines of its trace
abbrev pub picture_text : Units → List Entry → List ℕ
picture_text program history = picture_of (trace_text program (all_shown (length history)) history)
