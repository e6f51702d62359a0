use Rattle.std.proofs.Common.{◌≡◌, ℕ, List, drop, length}
use Rattle.hep_proc.specs.Nodes.{nodes_of}
use Rattle.hep_proc.specs.FrameTable.{as_wanted, CanLeave, FramesOf, Keeps, LeadUpwards}
use Rattle.hep_proc.proofs.SeveralFrames.{AreLeaving}
use Rattle.hep_proc.proofs.frames.Frames.leave_all.Given as goal

abbrev pub invariant-loop-key : goal.invariant-loop-key
invariant-loop-key l =
    ((f : FramesOf) (ends : List ℕ) → Keeps (as_wanted f) l.fn.self.arena (nodes_of l.fn.self.nodes) → CanLeave (nodes_of l.fn.self.nodes) f.on l.keys ends → LeadUpwards f.state
    → AreLeaving f ends l.fn.self.arena (nodes_of l.fn.self.nodes) l.self.arena (nodes_of l.self.nodes) (drop l.key-index l.keys))
    × (length l.self.arena.contents ≡ length l.fn.self.arena.contents)
