use Rattle.std.proofs.Common.{◌≡◌, ◌+◌, ◌*◌, length}
use Rattle.hep_proc.specs.Nodes.{nodes_of}
use Rattle.hep_binding.proofs.ShapedDummies.{AreShaped}
use Rattle.hep_binding.proofs.adjustable_bounds.shape.Given as goal

abbrev pub invariant-loop-bound : goal.invariant-loop-bound
invariant-loop-bound l = record {
  at : l.next ≡ l.at + 2 * l.bound-index;
  cells : length l.frames.arena.contents ≡ length l.fn.frames.arena.contents;
  holes : l.frames.arena.holes ≡ l.fn.frames.arena.holes;
  nodes : nodes_of l.frames.nodes ≡ nodes_of l.fn.frames.nodes;
  shaped : AreShaped l.at l.bounds l.fn.frames.arena (nodes_of l.fn.frames.nodes) l.bound-index l.frames.arena (nodes_of l.frames.nodes);
}
