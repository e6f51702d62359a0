-- The races of a run as lines: docs/RUNS.md, "Races of a run".
use Rattle.std.specs.Prelude.{ℕ, List, length}
use Rattle.hep_accesses.specs.Accesses.{Site}
use Rattle.hep_accesses.specs.RunEvents.{races_of}
use Rattle.hep_fold.specs.Folds.{CanBeMade}
use Rattle.hep_machine.specs.declared.event.Entry.{Entry}
use Rattle.hep_machine.specs.Words.{Location, Units, schedule_of, spelling, state_after, unit_at, unit_name}
use Rattle.hep_replay.specs.HistoryPrefix.{first_of}
use Rattle.hep_replay.specs.declared.history_prefix.HistoryPrefix.{HistoryPrefix}
use Rattle.hep_state_text.specs.States.{place_text}
use Rattle.hep_races.specs.EntryNumbers.{entry_of}
use Rattle.hep_races.specs.RaceLines.{RowWords, SiteWords, ends_loop, rows_text}

abbrev pub site_words : Units → Site → SiteWords
site_words program a =
    record {
      name = spelling a.name;
      unit = unit_name (unit_at program a.unit);
      line = a.line;
      ends_loop = ends_loop (unit_at program a.unit) a.name a.line;
    }

-- after these entries, with a function for the lines of the source
abbrev pub words_after : (ℕ → List ℕ) → Units → List Entry → RowWords Location Site
words_after shown program entries =
    record {
      place = place_text program (state_after program entries);
      site = site_words program;
      entry = entry_of entries;
      source = shown;
    }

-- the races of these entries
unfoldable pub races_text : (ℕ → List ℕ) → Units → List Entry → List ℕ
races_text shown program entries = rows_text (words_after shown program entries) (races_of program (schedule_of entries))

-- the first entries of a history can be made again in an arena of this many cells
abbrev pub CanBeListed : Units → ℕ → HistoryPrefix → Type 0
CanBeListed program cells first =
    CanBeMade program cells (record { history = first.history; start = 0; end = length (first_of first) })
