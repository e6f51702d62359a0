use Rattle.std.proofs.Common.{◌≡◌, ◌-◌, ◌≤◌, suc, take}
use Rattle.hep_history.specs.Runs.{entries_of}
use Rattle.hep_races.specs.EntryNumbers.{entry_from, entry_of}
use Rattle.hep_races.proofs.entry_number.entry_number.Given as goal

abbrev pub invariant-loop-run : goal.invariant-loop-run
invariant-loop-run l =
    record {
      is : entry_from (suc l.before) (take (l.entries - l.before) (entries_of l.run-iterator)) l.left
          ≡ entry_of (take l.fn.count l.fn.history.items) l.fn.step;
      within : l.before ≤ l.entries;
    }
