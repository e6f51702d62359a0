use Rattle.std.proofs.Common.{◌++◌}
use Rattle.hep_history.specs.Runs.{last_run, runs_of_shorts}
use Rattle.hep_history.proofs.InRuns.{AreFilled-append, shorts_filled}
use Rattle.hep_history.proofs.runs.Runs.new.Goals as goal

pub returns-clause-filled : goal.returns-clause-filled
returns-clause-filled c =
    AreFilled-append (runs_of_shorts 0 c.args.shorts.now ++ c.args.longs.now) (last_run c.args.last)
    (AreFilled-append (runs_of_shorts 0 c.args.shorts.now) c.args.longs.now (shorts_filled 0 c.args.shorts.now c.requires.rising) c.requires.filled.0)
    c.requires.filled.1
