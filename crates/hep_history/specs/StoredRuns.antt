-- The parts of a history.
use Rattle.std.specs.Prelude.{◌≡◌, ◌+◌, ◌-◌, ◌^◌, ◌≤◌, ◌++◌, [], ◌∷◌, List, length, min, vec_len, vec_capacity}
use Rattle.hep_history.specs.Entries.{EntriesLeft}
use Rattle.hep_history.specs.Runs.{AreFilled, AreRising, entries_of, runs_in}
use Rattle.hep_history.specs.declared.run.Run.{Run}
use Rattle.hep_history.specs.declared.history.History.TheInside.{Inside}

-- the finished runs, and the one that entries are added to
abbrev pub runs_of : Inside → List Run
runs_of h = runs_in h.shorts.items h.longs.items ++ h.last ∷ []

abbrev pub kept_of : Inside → EntriesLeft
kept_of h = record {
  items = entries_of (runs_of h);
  room = min (vec_capacity h.shorts - vec_len h.shorts) (vec_capacity h.longs - vec_len h.longs);
}

-- each run but the last has an entry; `closed` counts the entries of all runs but the last, which is empty where
-- there is no entry
pub record IsCounted (h : Inside) : Type 0 where
  pub rising : AreRising 0 h.shorts.items
  pub filled : AreFilled h.longs.items
  pub closed : h.closed ≡ length (entries_of (runs_in h.shorts.items h.longs.items))
  pub few : h.closed + h.last.count ≤ 2 ^ 63
  pub opened : h.last.count ≡ 0 → h.closed ≡ 0
