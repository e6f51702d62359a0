use Rattle.std.proofs.Common.{◌+◌, ◌-◌}
use Rattle.hep_arena.proofs.Climbing.{IsRise}
use Rattle.hep_arena.proofs.tree.Tree.first_after.Given as goal

abbrev pub invariant-loop-level : goal.invariant-loop-level
invariant-loop-level l = IsRise l.self.greatest.items l.self.size (l.self.size + l.at) l.level (l.self.levels - l.level) l.node
