-- An activation leaves the stack of its process, and its frame may be given back: docs/MACHINE.md, "Steps".
use Rattle.std.specs.Prelude.{◌≡◌, ◌≤◌, ◌+◌, ℕ, Bool, List, ◌∷◌, Some, length, vec_capacity}
use Rattle.slab.specs.Slab.{ContainsKey}
use Rattle.hep_machine.specs.Words.{Layout, State, Units, Value}
use Rattle.hep_layout.specs.Words.{FrameNode, but, is_stacked}
use Rattle.hep_proc.specs.declared.frames.Frames.{Frames}
use Rattle.hep_proc.specs.declared.process.Local.{Local}
use Rattle.hep_proc.specs.declared.process.Process.{Process}
use Rattle.hep_proc.specs.FrameTable.{AreOfSomeState, HasLeft, IsEnded, Keeps, LeadUpwards, frames_in}
use Rattle.hep_proc.specs.Nodes.{nodes_of}
use Rattle.hep_proc.specs.Stacks.{EndsTop, HoldsOfTop, operands_answered, pending_answered, stack_of, stack_with}
use Rattle.hep_proc.specs.declared.stack_exit.ExitReason.{ExitReason}
use Rattle.hep_proc.specs.declared.stack_exit.ExitReason.TheVariants.{Answered, Resumed, Returned}

-- ---- the conditions

-- the frame of the top activation is in the arena, among those of a state
pub record IsOut (q : Process) (frames : Frames) : Type 0 where
  pub level : Local
  pub below : List Local
  pub operands : List Value
  pub pending : List Value
  pub stack : stack_of q ≡ stack_with level below operands pending
  pub there : ContainsKey frames.nodes level.key
  pub kept : AreOfSomeState frames.arena (nodes_of frames.nodes)

-- and the activation below has room for the operands that it keeps, and one more value
pub record CanAnswer (q : Process) (frames : Frames) : Type 0 where
  pub out : IsOut q frames
  pub room : (l : Local) (ls : List Local) → out.below ≡ l ∷ ls → l.kept + 1 ≤ vec_capacity q.operands

abbrev pub CanLeave : ExitReason → Process → Frames → Type 0
CanLeave Returned q frames = IsOut q frames
CanLeave (Answered v) q frames = CanAnswer q frames
CanLeave Resumed q frames = Unit {0}

-- ---- the results

-- its level was taken off the stack; for a function, the activation below has its operands back, and the value after
-- them
abbrev pub LeavesStack : ExitReason → Process → Process → Type 0
LeavesStack Returned old new = EndsTop old new
LeavesStack (Answered v) old new =
    HoldsOfTop old (λ _ ls _ pending.
    stack_of new ≡ record { levels = ls; operands = operands_answered pending ls v; pending = pending_answered pending ls })
LeavesStack Resumed old new = EndsTop old new

-- the frames from this key upwards that aren't needed any more are given back, from the state before the step to the
-- one after it
pub record GoesBack (key : ℕ) (old new : Frames) : Type 0 where
  pub ended :
      (program : Units) (s t : State) (out : ℕ → Bool) (layout : Layout) (n : FrameNode)
      → Keeps (frames_in program s out layout) old.arena (nodes_of old.nodes) → nodes_of old.nodes key ≡ Some n
      → IsEnded program layout (but n.activation (is_stacked s)) s t → LeadUpwards t
      → HasLeft (frames_in program t out layout) old.arena new.arena (nodes_of old.nodes) (nodes_of new.nodes)
  pub cells : length new.arena.contents ≡ length old.arena.contents

-- the frame of an activation that goes on stays
abbrev pub LeavesFrames : ExitReason → ℕ → Frames → Frames → Type 0
LeavesFrames Returned key old new = GoesBack key old new
LeavesFrames (Answered v) key old new = GoesBack key old new
LeavesFrames Resumed key old new = new ≡ old
