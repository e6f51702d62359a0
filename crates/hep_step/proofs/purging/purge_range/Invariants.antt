use Rattle.std.proofs.Common.{◌≡◌, ◌+◌, ◌-◌, length}
use Rattle.hep_step.specs.PurgeEffects.{purged_from}
use Rattle.hep_step.proofs.purging.purge_range.Given as goal

abbrev pub invariant-loop-cell : goal.invariant-loop-cell
invariant-loop-cell l = record {
  contents : purged_from (l.range.cells - l.cell) (l.range.first + l.cell) l.arena.contents ≡ purged_from l.range.cells l.range.first l.fn.arena.contents;
  holes : l.arena.holes ≡ l.fn.arena.holes;
  cells : length l.arena.contents ≡ length l.fn.arena.contents;
}
