use Rattle.std.proofs.Common.{◌≡◌, ◌-◌, ◌≤◌, None, length}
use Rattle.hep_outcome.specs.RunProgress.{IsRunning}
use Rattle.hep_outcome.proofs.run_by_choices.make_choices.Given as goal

abbrev pub invariant-loop-first : goal.invariant-loop-first
invariant-loop-first l = record {
  program : l.core.core.program ≡ l.fn.core.core.program;
  running : IsRunning l.fn.options l.core.core;
  within : l.first ≤ length l.choices;
  made : l.core.core.stop ≡ None → length l.core.core.history ≡ l.first;
}

abbrev pub decreases-loop-first : goal.decreases-loop-first
decreases-loop-first l = length l.choices - l.first
