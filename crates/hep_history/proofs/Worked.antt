-- Two processes that take turns, and a third that was found waiting: runs in eight bytes and in sixteen, and where they end.
use Rattle.std.proofs.Common.{◌≡◌, [], ◌∷◌, List, Some, None, refl, slice_get}
use Rattle.hep_machine.specs.declared.event.Entry.{Entry}
use Rattle.hep_history.specs.declared.run.Run.{Run}
use Rattle.hep_history.specs.declared.run.ShortRun.{ShortRun}
use Rattle.hep_history.specs.Runs.{end_of_shorts, entries_of, run_of_short, runs_in}

abbrev first : Entry
first = record { process = 1; steps = 1 }

abbrev second : Entry
second = record { process = 2; steps = 1 }

abbrev waits : Entry
waits = record { process = 2097152; steps = 0 }

-- 2,048 times the process and its steps, and where the run ends
abbrev shorts : List ShortRun
shorts = record { who = 2049; end = 1 } ∷ record { who = 4097; end = 2 } ∷ record { who = 2049; end = 5 } ∷ []

abbrev longs : List Run
longs = record { process = 2097152; steps = 0; count = 1 } ∷ []

-- the last of them is three times process 1
third_run : run_of_short 2 (record { who = 2049; end = 5 }) ≡ record { process = 1; steps = 1; count = 3 }
third_run = refl

all_entries : entries_of (runs_in shorts longs) ≡ first ∷ second ∷ first ∷ first ∷ first ∷ waits ∷ []
all_entries = refl

fourth_entry : slice_get (entries_of (runs_in shorts longs)) 3 ≡ Some first
fourth_entry = refl

seventh_entry : slice_get (entries_of (runs_in shorts longs)) 6 ≡ None
seventh_entry = refl

end : end_of_shorts 0 shorts ≡ 5
end = refl

-- the greatest process and the most steps in eight bytes
greatest : run_of_short 0 (record { who = 4294967295; end = 4294967295 }) ≡ record { process = 2097151; steps = 2047; count = 4294967295 }
greatest = refl
