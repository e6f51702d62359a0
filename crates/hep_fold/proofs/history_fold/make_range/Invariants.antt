use Rattle.std.proofs.Common.{◌≡◌, ◌+◌, ◌-◌, ◌≤◌, drop, length, max, take}
use Rattle.hep_history.specs.Runs.{entries_of}
use Rattle.hep_fold.specs.Folds.{CanFold, Folds, entries_until, turns_within}
use Rattle.hep_fold.specs.Turns.{turns_from}
use Rattle.hep_fold.proofs.history_fold.make_range.Given as goal

abbrev pub invariant-loop-at : goal.invariant-loop-at
invariant-loop-at g l =
    record {
      there : CanFold g.O.Observer.knows g.O.Observer.see l.tabled (turns_from (l.made + 1) (drop l.made (entries_until l.range))) l.again l.observer;
      folds : Folds g.O.Observer.knows g.O.Observer.see l.tabled (turns_within l.range) l.fn.again l.fn.observer
          (turns_from (l.made + 1) (drop l.made (entries_until l.range))) l.again l.observer;
      place : drop l.at (entries_until l.range) ≡ take (l.end - l.at) (entries_of l.runs);
      passed : l.made ≡ max l.range.start l.at;
      within : l.at ≤ l.end;
    }

abbrev pub decreases-loop-at : goal.decreases-loop-at
decreases-loop-at g l = length l.runs
