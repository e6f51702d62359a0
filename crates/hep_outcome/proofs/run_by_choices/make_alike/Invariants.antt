use Rattle.std.proofs.Common.{◌≡◌, ◌-◌, ◌≤◌, None, length}
use Rattle.hep_outcome.specs.RunProgress.{IsRunning}
use Rattle.hep_outcome.proofs.run_by_choices.make_alike.Given as goal

abbrev pub invariant-loop-index : goal.invariant-loop-index
invariant-loop-index l = record {
  program : l.core.core.program ≡ l.fn.core.core.program;
  running : IsRunning l.fn.options l.core.core;
  from : l.first ≤ l.index;
  to : l.index ≤ l.end;
  made : l.core.core.stop ≡ None → length l.core.core.history ≡ l.index;
}

abbrev pub decreases-loop-index : goal.decreases-loop-index
decreases-loop-index l = l.end - l.index
