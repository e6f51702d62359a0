use Rattle.std.proofs.Common.{◌≡◌, ◌+◌, ◌-◌, ◌++◌, ◌≤◌, replicate}
use Rattle.hep_history.specs.Runs.{entry_of}
use Rattle.hep_why.specs.Progress.{AreMade}
use Rattle.hep_event.specs.Traces.{trace_from}
use Rattle.hep_trace.specs.TraceProgress.{IsReplaying, progress_of}
use Rattle.hep_trace.specs.LineFilters.{shown_on}
use Rattle.hep_trace.proofs.trace_lines.tell_run.Given as goal

abbrev pub invariant-loop-made : goal.invariant-loop-made
invariant-loop-made l = record {
  few : l.made ≤ l.run.count;
  so_far : AreMade (entry_of l.run) l.fn.core.core l.made l.core.core;
  replaying : IsReplaying l.core.core;
  told : l.text.items ≡ l.fn.text.items
      ++ trace_from l.fn.core.core.program (shown_on l.teller.page.now) (l.before + 1) (progress_of l.fn.core.core) (replicate l.made (entry_of l.run));
}

abbrev pub decreases-loop-made : goal.decreases-loop-made
decreases-loop-made l = l.run.count - l.made
