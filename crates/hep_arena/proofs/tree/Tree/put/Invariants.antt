use Rattle.std.proofs.Common.{◌≡◌, slice_set}
use Rattle.hep_arena.specs.Trees.{leaves_of, number}
use Rattle.hep_arena.proofs.Numbering.{IsMended}
use Rattle.hep_arena.proofs.tree.Tree.put.Given as goal

abbrev pub invariant-loop-node : goal.invariant-loop-node
invariant-loop-node l = record {
  mended : IsMended l.self.greatest.items l.self.size l.node;
  top : number l.self.greatest.items l.node ≡ l.top;
  leaves : leaves_of l.self ≡ slice_set (leaves_of l.fn.self) l.at l.number;
  size : l.self.size ≡ l.fn.self.size;
  levels : l.self.levels ≡ l.fn.self.levels;
}

abbrev pub decreases-loop-node : goal.decreases-loop-node
decreases-loop-node l = l.node
