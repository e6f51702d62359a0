use Rattle.std.proofs.Common.{◌+◌, ◌-◌}
use Rattle.hep_arena.proofs.Nodes.{IsAscent}
use Rattle.hep_arena.proofs.tree.Tree.last_before.Given as goal

abbrev pub invariant-loop-level : goal.invariant-loop-level
invariant-loop-level l = IsAscent l.self.greatest.items 1 l.self.size (l.self.size + l.at) l.level (l.self.levels - l.level) l.node
