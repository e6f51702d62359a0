use Rattle.std.proofs.Common.{◌-◌, ◌≤◌, length}
use Rattle.hep_replay.specs.Progress.{AreMade, IsStanding}
use Rattle.hep_replay.specs.Replays.{most_entries}
use Rattle.hep_replay.proofs.history_replay.make_run.Given as goal

abbrev pub invariant-loop-made : goal.invariant-loop-made
invariant-loop-made l = record {
  few : l.made ≤ l.count;
  before : AreMade l.entry l.fn.core.core l.made l.core.core;
  standing : IsStanding l.core.core;
  within : length l.core.core.history ≤ most_entries;
}

abbrev pub decreases-loop-made : goal.decreases-loop-made
decreases-loop-made l = l.count - l.made
