-- The lines of races, by the numbers that a run has for names, storage units and sites: docs/RUNS.md, "Races of a run".
use Rattle.std.specs.Prelude.{ℕ, List, [], Option, Some, None, slice_get, option_map}
use Rattle.std.specs.Option.{unwrap_or}
use Rattle.hep_event.specs.Names.{name_found}
use Rattle.hep_image.specs.Names.{names_in_order}
use Rattle.hep_machine.specs.Words.{Units, no_name, spelling, unit_at}
use Rattle.hep_replay.specs.HistoryPrefix.{first_of}
use Rattle.hep_state_text.specs.LineDisplay.{line_shown}
use Rattle.hep_state_text.specs.WaitTexts.{place_seen}
use Rattle.hep_views.specs.declared.place.Place.{Place}
use Rattle.hep_races.specs.EntryNumbers.{entry_of}
use Rattle.hep_races.specs.RaceLines.{RowWords, SiteWords, ends_loop}
use Rattle.hep_races.specs.declared.race_lines.RaceSources.{RaceSources}
use Rattle.hep_races.specs.declared.step_access.AccessSite.{AccessSite}
use Rattle.hep_races.specs.declared.storage_unit.StorageUnit.{StorageUnit}

abbrev pub place_of_unit : StorageUnit → Place
place_of_unit u = record { owner = u.owner; name = u.name; element = u.element }

-- the site with a number; where there is none, one without a name
abbrev pub site_at : List AccessSite → ℕ → AccessSite
site_at sites n = unwrap_or (slice_get sites n) (record { unit = 0; line = 0; name = no_name })

abbrev pub site_seen : Units → AccessSite → SiteWords
site_seen program a =
    record {
      name = spelling a.name;
      unit = name_found (slice_get (names_in_order program) a.unit);
      line = a.line;
      ends_loop = ends_loop (unit_at program a.unit) a.name a.line;
    }

-- a line of the source as it is shown; nothing where there are no lines
abbrev pub source_seen : Option (List (List ℕ)) → ℕ → List ℕ
source_seen None line = []
source_seen (Some lines) line = line_shown lines line

abbrev pub words_seen : RaceSources → RowWords StorageUnit ℕ
words_seen s =
    record {
      place = λ (u : StorageUnit). place_seen (names_in_order s.image.now) (place_of_unit u);
      site = λ n. site_seen s.image.now (site_at s.sites.now n);
      entry = entry_of (first_of s.entries);
      source = source_seen (option_map (λ lines. lines.now) s.lines);
    }
