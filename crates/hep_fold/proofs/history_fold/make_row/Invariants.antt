use Rattle.std.proofs.Common.{◌-◌, ◌≤◌}
use Rattle.hep_fold.specs.Folds.{CanFold, Folds}
use Rattle.hep_fold.specs.Observers.{later_row, row_turns}
use Rattle.hep_fold.proofs.history_fold.make_row.Given as goal

abbrev pub invariant-loop-made : goal.invariant-loop-made
invariant-loop-made g l =
    record {
      few : l.made ≤ l.row.count;
      there : CanFold g.O.Observer.knows g.O.Observer.see l.tabled (row_turns (later_row l.row l.made)) l.again l.observer;
      folds : Folds g.O.Observer.knows g.O.Observer.see l.tabled (row_turns l.row) l.fn.again l.fn.observer
          (row_turns (later_row l.row l.made)) l.again l.observer;
    }

abbrev pub decreases-loop-made : goal.decreases-loop-made
decreases-loop-made g l = l.row.count - l.made
