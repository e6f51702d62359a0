-- Entries in runs of equal ones.
use Rattle.std.specs.Prelude.{ℕ, ◌-◌, ◌/◌, ◌%◌, ◌<◌, ◌++◌, List, [], ◌∷◌, Option, Some, None, replicate}
use Rattle.std.specs.List.{flat_map}
use Rattle.hep_machine.specs.declared.event.Entry.{Entry}
use Rattle.hep_history.specs.declared.run.Run.{Run}
use Rattle.hep_history.specs.declared.run.ShortRun.{ShortRun}

-- the entry that a run repeats
abbrev pub entry_of : Run → Entry
entry_of run = record { process = run.process; steps = run.steps }

-- each entry as often as it is repeated
abbrev pub entries_of : List Run → List Entry
entries_of runs = flat_map (λ (run : Run). replicate run.count (entry_of run)) runs

-- a run in eight bytes that begins after `from` entries
abbrev pub run_of_short : ℕ → ShortRun → Run
run_of_short from short = record { process = short.who / 2048; steps = short.who % 2048; count = short.end - from }

-- the first run begins after `from` entries, and each other one where the one before ends
abbrev pub runs_of_shorts : ℕ → List ShortRun → List Run
runs_of_shorts from [] = []
runs_of_shorts from (short ∷ shorts) = run_of_short from short ∷ runs_of_shorts short.end shorts

-- the end of the last one
abbrev pub end_of_shorts : ℕ → List ShortRun → ℕ
end_of_shorts from [] = from
end_of_shorts from (short ∷ shorts) = end_of_shorts short.end shorts

-- each has an entry
abbrev pub AreRising : ℕ → List ShortRun → Type 0
AreRising from [] = Unit {0}
AreRising from (short ∷ shorts) = (from < short.end) × AreRising short.end shorts

-- the same of others
abbrev pub AreFilled : List Run → Type 0
AreFilled [] = Unit {0}
AreFilled (run ∷ runs) = (0 < run.count) × AreFilled runs

-- runs in eight bytes, and then others
abbrev pub runs_in : List ShortRun → List Run → List Run
runs_in shorts longs = runs_of_shorts 0 shorts ++ longs

-- a last run, if there is one
abbrev pub last_run : Option Run → List Run
last_run None = []
last_run (Some run) = run ∷ []
