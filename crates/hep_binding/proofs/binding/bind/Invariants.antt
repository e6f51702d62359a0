use Rattle.std.proofs.Common.{◌≡◌, ◌+◌, ◌*◌, length}
use Rattle.hep_proc.specs.Nodes.{nodes_of}
use Rattle.hep_binding.proofs.Dummies.{AreBound}
use Rattle.hep_binding.proofs.binding.bind.Given as goal

abbrev pub invariant-loop-one : goal.invariant-loop-one
invariant-loop-one l = record {
  at : l.at ≡ l.first + 1 + 2 * l.one-index;
  cells : length l.frames.arena.contents ≡ length l.fn.frames.arena.contents;
  holes : l.frames.arena.holes ≡ l.fn.frames.arena.holes;
  nodes : nodes_of l.frames.nodes ≡ nodes_of l.fn.frames.nodes;
  bound : AreBound l.first l.given l.fn.frames.arena (nodes_of l.fn.frames.nodes) l.one-index l.frames.arena (nodes_of l.frames.nodes);
}
