use Rattle.std.proofs.Common.{◌≡◌, ◌≤◌, ◌+◌, ◌-◌, ◌++◌, length, replicate}
use Rattle.hep_core.specs.CoreValues.{state_of}
use Rattle.hep_why.specs.Progress.{longer}
use Rattle.hep_why.specs.Replays.{most_entries}
use Rattle.hep_machine.specs.Words.{AreSteps}
use Rattle.hep_event.specs.Traces.{steps_text}
use Rattle.hep_trace.specs.TraceProgress.{progress_of, shown_lines}
use Rattle.hep_trace.specs.LineFilters.{shown_on}
use Rattle.hep_trace.proofs.trace_lines.tell_steps.Given as goal

abbrev pub invariant-loop : goal.invariant-loop
invariant-loop l = record {
  within : length l.fn.core.core.history + l.counter ≤ most_entries;
  there : AreSteps l.fn.core.core.program (state_of l.fn.core.core) (replicate l.counter l.line.process);
  made : l.core.core ≡ longer l.fn.core.core (replicate l.counter (record { process = l.line.process; steps = 1 }));
  told : l.text.items ++ shown_lines l.line.shown (steps_text l.core.core.program (shown_on l.teller.page.now).cell l.line.number l.line.process (progress_of l.core.core) (l.steps - l.counter))
      ≡ l.fn.text.items ++ shown_lines l.line.shown (steps_text l.fn.core.core.program (shown_on l.teller.page.now).cell l.line.number l.line.process (progress_of l.fn.core.core) l.steps);
}
