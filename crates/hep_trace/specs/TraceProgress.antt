-- Turns and entries of a history that are made again, with their lines: docs/ARCHITECTURE.md, "Forms".
use Rattle.std.specs.Prelude.{◌≡◌, ◌≤◌, ℕ, Bool, if◌then◌else◌, List, [], length, take}
use Rattle.hep_core.specs.CoreValues.{CoreValue}
use Rattle.hep_why.specs.Progress.{IsStanding}
use Rattle.hep_why.specs.Replays.{ArePossible, most_entries, replayed, single_entries}
use Rattle.hep_machine.specs.declared.event.Entry.{Entry}
use Rattle.hep_machine.specs.Words.{Progress, Units, progress_after, schedule_of}
use Rattle.hep_event.specs.Traces.{LineSelection, entry_text, is_shown}

-- what is known after a core's history
abbrev pub progress_of : CoreValue → Progress
progress_of core = progress_after core.program core.history

-- a core is the one that its history leads to; each entry is one turn at most, and there are no more than a history
-- may have
pub record IsReplaying (core : CoreValue) : Type 0 where
  pub standing : IsStanding core
  pub within : length core.history ≤ most_entries
  pub turns : length (schedule_of core.history) ≤ length core.history

-- a core has made this many of the entries, each of which was possible
pub record HasMade (core : CoreValue) (entries : List Entry) (made : ℕ) : Type 0 where
  pub is : core ≡ replayed core.program core.cells (take made entries)
  pub few : made ≤ length entries
  pub within : length (single_entries (take made entries)) ≤ most_entries
  pub possible : ArePossible core.program core.cells entries made

-- lines, where they are shown
abbrev pub shown_lines : Bool → List ℕ → List ℕ
shown_lines shown lines = if shown then lines else []

-- the lines of one entry, where they are shown
abbrev pub shown_text : Units → LineSelection → ℕ → Progress → Entry → List ℕ
shown_text program shown number x e = shown_lines (is_shown shown number e.process) (entry_text program shown.cell number x e e.steps)
