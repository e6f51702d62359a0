use Rattle.std.proofs.Common.{◌≡◌, ℕ, List, length, reverse, vec_len}
use Rattle.hep_proc.specs.Nodes.{nodes_of}
use Rattle.hep_proc.specs.FrameTable.{CanLeave, FramesOf, Keeps, LeadUpwards, as_wanted}
use Rattle.hep_proc.proofs.SeveralFrames.{AreLeaving}
use Rattle.hep_proc.specs.Stacks.{keys_of}
use Rattle.hep_state.proofs.turn.leave_all.Given as goal

abbrev pub invariant-loop-level : goal.invariant-loop-level
invariant-loop-level l =
    ((f : FramesOf) (ends : List ℕ) → Keeps (as_wanted f) l.fn.frames.arena (nodes_of l.fn.frames.nodes) → CanLeave (nodes_of l.fn.frames.nodes) f.on (keys_of (reverse l.fn.levels.items)) ends → LeadUpwards f.state
    → AreLeaving f ends l.fn.frames.arena (nodes_of l.fn.frames.nodes) l.frames.arena (nodes_of l.frames.nodes) (keys_of (reverse l.levels.items)))
    × (length l.frames.arena.contents ≡ length l.fn.frames.arena.contents)

abbrev pub decreases-loop-level : goal.decreases-loop-level
decreases-loop-level l = vec_len l.levels
