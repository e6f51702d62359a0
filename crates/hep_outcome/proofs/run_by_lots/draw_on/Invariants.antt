use Rattle.std.proofs.Common.{◌≡◌, ◌-◌, [], length}
use Rattle.hep_outcome.specs.KeptLots.{lots_after}
use Rattle.hep_outcome.specs.RunsByLots.{IsDrawing}
use Rattle.hep_outcome.proofs.run_by_lots.draw_on.Given as goal

abbrev pub invariant-loop-process : goal.invariant-loop-process
invariant-loop-process l = record {
  program : l.core.core.program ≡ l.fn.core.core.program;
  drawing : IsDrawing l.fn.options l.core.core;
  lots : l.lots ≡ lots_after l.fn.options.seed (length l.core.core.history);
  out : l.core.core.out ≡ [];
}

abbrev pub decreases-loop-process : goal.decreases-loop-process
decreases-loop-process l = l.core.core.limit - length l.core.core.history
