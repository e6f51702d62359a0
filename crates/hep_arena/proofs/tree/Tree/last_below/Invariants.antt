use Rattle.std.proofs.Common.{◌-◌, ◌+◌}
use Rattle.hep_arena.specs.Trees.{leftmost}
use Rattle.hep_arena.proofs.Nodes.{IsLastDescent}
use Rattle.hep_arena.proofs.tree.Tree.last_below.Given as goal

abbrev pub invariant-loop : goal.invariant-loop
invariant-loop l = IsLastDescent l.self.greatest.items 1 (leftmost l.levels l.top) (leftmost l.levels (l.top + 1)) (l.levels - l.counter) l.node
