use Rattle.std.proofs.Common.{◌≡◌, drop, length}
use Rattle.hep_step.specs.PurgeEffects.{purged}
use Rattle.hep_step.specs.PurgeReady.{AreReached}
use Rattle.hep_step.proofs.purging.purge.Given as goal

abbrev pub invariant-loop-range : goal.invariant-loop-range
invariant-loop-range l = record {
  contents : purged (drop l.range-index l.ranges) l.arena.contents ≡ purged l.ranges l.fn.arena.contents;
  reached : AreReached l.fn.arena (drop l.range-index l.ranges);
  holes : l.arena.holes ≡ l.fn.arena.holes;
  cells : length l.arena.contents ≡ length l.fn.arena.contents;
}
