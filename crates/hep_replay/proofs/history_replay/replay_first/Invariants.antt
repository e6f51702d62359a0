use Rattle.std.proofs.Common.{◌≡◌, ℕ, ◌<◌, ◌≤◌, length, drop}
use Rattle.hep_history.specs.Runs.{entries_of}
use Rattle.hep_replay.specs.Replays.{most_entries}
use Rattle.hep_replay.proofs.ReplayTurns.{HaveReplayed}
use Rattle.hep_replay.proofs.history_replay.replay_first.Given as goal

abbrev pub invariant-loop-at : goal.invariant-loop-at
invariant-loop-at l = record {
  so_far : HaveReplayed l.fn.image l.cells l.entries.history.now.items l.at l.core.core;
  place : l.at < l.count → drop l.at l.entries.history.now.items ≡ entries_of l.runs;
  within : l.at ≤ l.count;
  few : l.at ≤ most_entries;
}

abbrev pub decreases-loop-at : goal.decreases-loop-at
decreases-loop-at l = length l.runs
