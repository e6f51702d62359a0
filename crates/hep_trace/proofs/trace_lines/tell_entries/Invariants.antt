use Rattle.std.proofs.Common.{◌≡◌, ◌+◌, ◌++◌, ◌<◌, ◌≤◌, drop, length, max, take}
use Rattle.hep_history.specs.Runs.{entries_of}
use Rattle.hep_replay.specs.HistoryPrefix.{first_of}
use Rattle.hep_machine.specs.Words.{progress_after}
use Rattle.hep_event.specs.Traces.{trace_from}
use Rattle.hep_trace.specs.TraceProgress.{HasMade}
use Rattle.hep_trace.specs.LineFilters.{shown_on}
use Rattle.hep_trace.proofs.trace_lines.tell_entries.Given as goal

abbrev pub invariant-loop-at : goal.invariant-loop-at
invariant-loop-at l = record {
  same : l.core.core.program ≡ l.fn.core.core.program;
  arena : l.core.core.cells ≡ l.fn.core.core.cells;
  made : HasMade l.core.core (first_of l.entries) (max l.at l.made);
  place : l.at < l.count → drop l.at l.entries.history.now.items ≡ entries_of l.runs;
  within : l.at ≤ l.count;
  told : l.text.items ++ trace_from l.fn.core.core.program (shown_on l.teller.page.now) (max l.at l.made + 1) (progress_after l.fn.core.core.program (take (max l.at l.made) (first_of l.entries))) (drop (max l.at l.made) (first_of l.entries))
      ≡ l.fn.text.items ++ trace_from l.fn.core.core.program (shown_on l.teller.page.now) (l.made + 1) (progress_after l.fn.core.core.program (take l.made (first_of l.entries))) (drop l.made (first_of l.entries));
}

abbrev pub decreases-loop-at : goal.decreases-loop-at
decreases-loop-at l = length l.runs
