use Rattle.std.proofs.Common.{◌-◌, ◌<◌, ◌≤◌, length, take, get_or}
use Rattle.hep_history.specs.Runs.{end_of_shorts}
use Rattle.hep_history.proofs.InRuns.{no_short}
use Rattle.hep_history.proofs.entry_lookup.short_at.Given as goal

abbrev pub invariant-loop-low : goal.invariant-loop-low
invariant-loop-low l = record {
  ordered : l.low ≤ l.high;
  within : l.high ≤ length l.shorts;
  before : end_of_shorts 0 (take l.low l.shorts) ≤ l.index;
  here : l.high < length l.shorts → l.index < (get_or l.shorts l.high no_short).end;
}

abbrev pub decreases-loop-low : goal.decreases-loop-low
decreases-loop-low l = l.high - l.low
