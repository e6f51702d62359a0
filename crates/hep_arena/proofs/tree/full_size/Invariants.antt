use Rattle.std.proofs.Common.{◌≡◌, ◌-◌, ◌<◌, ◌^◌}
use Rattle.hep_arena.specs.Trees.{leftmost}
use Rattle.hep_arena.proofs.tree.full_size.Given as goal

abbrev pub invariant-loop-size : goal.invariant-loop-size
invariant-loop-size l = record {
  size : l.size ≡ leftmost l.levels 1;
  few : l.size < 2 ^ 62;
  levels : l.levels < l.size;
}

abbrev pub decreases-loop-size : goal.decreases-loop-size
decreases-loop-size l = l.leaves - l.size
