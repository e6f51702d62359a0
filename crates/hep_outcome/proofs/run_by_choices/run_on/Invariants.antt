use Rattle.std.proofs.Common.{◌≡◌, ◌-◌, ◌≤◌, None, length}
use Rattle.hep_outcome.specs.RunProgress.{IsRunning}
use Rattle.hep_outcome.proofs.run_by_choices.run_on.Given as goal

abbrev pub invariant-loop-process : goal.invariant-loop-process
invariant-loop-process l = record {
  program : l.core.core.program ≡ l.fn.core.core.program;
  running : IsRunning l.fn.options l.core.core;
  made : l.core.core.stop ≡ None → length l.fn.options.choices ≤ length l.core.core.history;
}

abbrev pub decreases-loop-process : goal.decreases-loop-process
decreases-loop-process l = l.core.core.limit - length l.core.core.history
