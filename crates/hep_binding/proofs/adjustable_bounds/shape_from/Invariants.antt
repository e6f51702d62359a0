use Rattle.std.proofs.Common.{◌≡◌, ◌+◌, length, drop, ◌≤◌}
use Rattle.hep_proc.specs.Nodes.{nodes_of}
use Rattle.hep_binding.specs.AdjustableBounds.{cells_of_shapes}
use Rattle.hep_binding.proofs.ShapedDummies.{AreAllShaped}
use Rattle.hep_binding.proofs.adjustable_bounds.shape_from.Given as goal

abbrev pub invariant-loop-one : goal.invariant-loop-one
invariant-loop-one l = record {
  left : l.next + cells_of_shapes (drop l.one-index l.shapes) ≡ l.at + cells_of_shapes l.shapes;
  behind : l.at ≤ l.next;
  cells : length l.frames.arena.contents ≡ length l.fn.frames.arena.contents;
  holes : l.frames.arena.holes ≡ l.fn.frames.arena.holes;
  nodes : nodes_of l.frames.nodes ≡ nodes_of l.fn.frames.nodes;
  shaped : AreAllShaped l.at l.shapes l.fn.frames.arena (nodes_of l.fn.frames.nodes) l.one-index l.next l.frames.arena (nodes_of l.frames.nodes);
}
