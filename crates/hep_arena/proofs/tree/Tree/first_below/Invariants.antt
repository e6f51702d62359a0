use Rattle.std.proofs.Common.{◌-◌, ◌+◌}
use Rattle.hep_arena.specs.Trees.{leftmost}
use Rattle.hep_arena.proofs.Nodes.{IsDescent}
use Rattle.hep_arena.proofs.tree.Tree.first_below.Given as goal

abbrev pub invariant-loop : goal.invariant-loop
invariant-loop l = IsDescent l.self.greatest.items l.least (leftmost l.levels l.top) (leftmost l.levels (l.top + 1)) (l.levels - l.counter) l.node
