use Rattle.std.proofs.Common.{◌+◌, ◌-◌, replicate}
use Rattle.hep_history.specs.Runs.{entry_of}
use Rattle.hep_fold.specs.Folds.{CanFold, Folds}
use Rattle.hep_fold.specs.Turns.{turns_from}
use Rattle.hep_fold.proofs.history_fold.make_run.Given as goal

abbrev pub invariant-loop-before : goal.invariant-loop-before
invariant-loop-before g l =
    record {
      there : CanFold g.O.Observer.knows g.O.Observer.see l.tabled (turns_from (l.number + l.before) (replicate (l.run.count - l.before) (entry_of l.run))) l.again l.observer;
      folds : Folds g.O.Observer.knows g.O.Observer.see l.tabled (turns_from l.number (replicate l.run.count (entry_of l.run))) l.fn.again l.fn.observer
          (turns_from (l.number + l.before) (replicate (l.run.count - l.before) (entry_of l.run))) l.again l.observer;
    }
