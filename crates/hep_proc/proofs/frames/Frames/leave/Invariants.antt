use Rattle.std.proofs.Common.{◌≡◌, Some, length}
use Rattle.slab.specs.Slab.{slab_len}
use Rattle.hep_proc.specs.Nodes.{nodes_of}
use Rattle.hep_proc.specs.FrameTable.{FramesOf, Keeps}
use Rattle.hep_proc.proofs.ReturnedFrames.{IsGiving, off_stack}
use Rattle.hep_proc.proofs.frames.Frames.leave.Given as goal
use Rattle.hep_layout.specs.Words.{FrameNode}

abbrev pub invariant-loop-next : goal.invariant-loop-next
invariant-loop-next l =
    ((f : FramesOf) (n : FrameNode) → Keeps f l.fn.self.arena (nodes_of l.fn.self.nodes) → nodes_of l.fn.self.nodes l.key ≡ Some n
    → IsGiving (off_stack f n.activation) l.fn.self.arena (nodes_of l.fn.self.nodes) l.self.arena (nodes_of l.self.nodes) l.next)
    × (length l.self.arena.contents ≡ length l.fn.self.arena.contents)

abbrev pub decreases-loop-next : goal.decreases-loop-next
decreases-loop-next l = slab_len l.self.nodes
