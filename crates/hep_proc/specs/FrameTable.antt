-- The frames of a state, in the arena and in the tree: docs/MACHINE.md, "Layout" and "Variables and frames".
use Rattle.std.specs.Prelude.{◌≡◌, ℕ, ◌+◌, ◌<◌, ◌≤◌, Bool, true, nat_eq, if◌then◌else◌, List, [], ◌∷◌, ◌++◌, length, Some, None, is_some, slice_get}
use Rattle.std.specs.List.{filter}
use Rattle.hep_machine.specs.Words.{Name, Units, unset_cell, Frame, Layout, dummy_at, activation_of, run, with_frame, Activation, Location, State, local}
use Rattle.hep_machine.specs.declared.slot.Slot.{Slot}
use Rattle.hep_arena.specs.Gaps.{frame_among, gaps}
use Rattle.hep_arena.specs.Holes.{IsOut, taken}
use Rattle.hep_arena.specs.Space.{Space}
use Rattle.hep_layout.specs.Words.{IsMemory, Describes, DescriptorSlots, descriptor_slots, FramePart, IsOwnedAbove, also, AreFramed, AreNeededBut, but, frame_from, is_stacked, IsFrameTree, FrameNode, Nodes}

-- ---- the frames of a state

-- a set of frames and their places: a program, a state of it, which activations are on stacks and which have frames,
-- the layout of these, and the values required in the cells that keep no storage unit
pub record FramesOf : Type 0 where
  pub program : Units
  pub state : State
  pub on : ℕ → Bool
  pub out : ℕ → Bool
  pub layout : Layout
  pub wanted : DescriptorSlots

-- the values required in those cells are those of the state
abbrev pub as_wanted : FramesOf → FramesOf
as_wanted f = record f { wanted = descriptor_slots f.program f.state f.layout }

-- the frames of a state with its stacks
abbrev pub frames_in : Units → State → (ℕ → Bool) → Layout → FramesOf
frames_in program s out layout =
    record { program = program; state = s; on = is_stacked s; out = out; layout = layout; wanted = descriptor_slots program s layout }

-- the arena and the nodes have these frames, and no others: what is stored is at its address, the nodes are the tree
-- of the frames, no frame can be given back, and the other cells have the required values
pub record Keeps (f : FramesOf) (arena : Space) (nodes : Nodes) : Type 0 where
  pub memory : IsMemory f.program f.state f.layout arena.contents arena.holes
  pub tree : IsFrameTree f.state f.on f.out nodes
  pub rest : AreNeededBut None f.state f.on f.out
  pub framed : AreFramed f.layout nodes
  pub frames_are : (a : ℕ) → is_some (frame_among a f.layout) ≡ f.out a
  pub described : Describes f.program f.state f.layout f.wanted arena.contents

-- they are those of some state
abbrev pub AreOfSomeState : Space → Nodes → Type 0
AreOfSomeState arena nodes = (f : FramesOf) × Keeps f arena nodes

-- before the main program begins: COMMON has the first cells of the arena, all unset, and there is no frame
pub record IsUnused (common : ℕ) (arena : Space) (nodes : Nodes) : Type 0 where
  pub fits : common ≤ length arena.contents
  pub unset : (p : ℕ) → p < common → slice_get arena.contents p ≡ Some unset_cell
  pub holes_are : arena.holes ≡ gaps (length arena.contents) common []
  pub none : (key : ℕ) → nodes key ≡ None

-- ---- an activation begins

-- the lowest gap with enough cells is taken from `first` on, and those cells are unset
pub record IsTaken (cells first : ℕ) (before after : Space) : Type 0 where
  pub holes_are : after.holes ≡ taken cells before.holes
  pub cleared : (p : ℕ) → first ≤ p → p < first + cells → slice_get after.contents p ≡ Some unset_cell
  pub kept : (p : ℕ) → IsOut p before.holes → slice_get after.contents p ≡ slice_get before.contents p
  pub size : length after.contents ≡ length before.contents

-- the opening of a program's run, with nothing stored yet
pub record IsOpening (program : Units) (s : State) : Type 0 where
  pub activations_are : s.activations ≡ (run program []).activations
  pub processes_are : s.processes ≡ (run program []).processes
  pub unset : (at : Location) → s.store at ≡ unset_cell

-- from a state to another there is one activation more, in which nothing is stored
pub record IsBegun (s t : State) (x : Activation) : Type 0 where
  pub activations_are : t.activations ≡ s.activations ++ x ∷ []
  pub store_is : t.store ≡ s.store
  pub unset : (y : Name) (i : ℕ) → s.store (local (length t.activations) y i) ≡ unset_cell

-- the cells of a new activation have to be unset; the others as before
abbrev pub with_unset : ℕ → DescriptorSlots → DescriptorSlots
with_unset a wanted b c = if nat_eq b a then Some unset_cell else wanted b c

-- and its frame begins at a cell; it is the last activation of a state
abbrev pub frames_begun : FramesOf → State → ℕ → FramesOf
frames_begun f t first =
    record {
      program = f.program;
      state = t;
      on = also (length t.activations) f.on;
      out = also (length t.activations) f.out;
      layout = with_frame f.layout (frame_from f.program t (length t.activations) first);
      wanted = with_unset (length t.activations) f.wanted;
    }

-- ---- an activation ends

-- the frames of these activations
abbrev pub frames_of : (ℕ → Bool) → Layout → Layout
frames_of out layout = filter (λ (f : Frame). out f.activation) layout

-- each dummy argument is associated with COMMON, or with storage of its activation or one above it (X3.9-1978,
-- 15.9.3)
abbrev pub LeadUpwards : State → Type 0
LeadUpwards s = (a k : ℕ) → IsOwnedAbove s a (dummy_at (activation_of s a).dummies k).start

-- each frame that is left has the key, the cells and the parent that it had
abbrev pub KeysStay : (ℕ → Bool) → Nodes → Nodes → Type 0
KeysStay still old new =
    (key : ℕ) (n : FrameNode) → old key ≡ Some n → still n.activation ≡ true
    → (m : FrameNode) × (new key ≡ Some m) × (m.activation ≡ n.activation) × (m.first ≡ n.first) × (m.cells ≡ n.cells) × (m.parent ≡ n.parent)

-- the frames that are left
abbrev pub frames_left : FramesOf → (ℕ → Bool) → FramesOf
frames_left f still = as_wanted (record f { out = still; layout = frames_of still f.layout })

-- the frames that aren't needed any more were given back
pub record HasLeft (f : FramesOf) (before after : Space) (old new : Nodes) : Type 0 where
  pub still : ℕ → Bool
  pub keeps : Keeps (frames_left f still) after new
  pub fewer : (a : ℕ) → still a ≡ true → f.out a ≡ true
  pub were_out : (p : ℕ) → IsOut p after.holes → IsOut p before.holes
  pub kept : (p : ℕ) → IsOut p after.holes → slice_get after.contents p ≡ slice_get before.contents p
  pub keys_stay : KeysStay still old new

-- activations have left their stacks between two states, so that these are on stacks then; nothing is stored, and no
-- more is required of the cells that keep no storage unit
pub record IsEnded (program : Units) (layout : Layout) (on : ℕ → Bool) (s t : State) : Type 0 where
  pub activations_are : t.activations ≡ s.activations
  pub store_is : t.store ≡ s.store
  pub stacks_are : (a : ℕ) → is_stacked t a ≡ on a
  pub no_more : (a : ℕ) (c : FramePart × ℕ) (v : Slot) → descriptor_slots program t layout a c ≡ Some v → descriptor_slots program s layout a c ≡ Some v

-- ---- several end, one after the other

-- all of these but some
abbrev pub all_but : List ℕ → (ℕ → Bool) → ℕ → Bool
all_but [] test = test
all_but (a ∷ ends) test = all_but ends (but a test)

-- the keys are those of these activations, each of which is on a stack when it ends
abbrev pub CanLeave : Nodes → (ℕ → Bool) → List ℕ → List ℕ → Type 0
CanLeave nodes on [] [] = Unit {0}
CanLeave nodes on [] (a ∷ ends) = ⊥
CanLeave nodes on (key ∷ keys) [] = ⊥
CanLeave nodes on (key ∷ keys) (a ∷ ends) = (n : FrameNode) × (nodes key ≡ Some n) × (n.activation ≡ a) × (on a ≡ true) × CanLeave nodes (but a on) keys ends

-- they can leave the frames of a state
abbrev pub CanAllLeave : Space → Nodes → List ℕ → Type 0
CanAllLeave arena nodes keys = (f : FramesOf) × (ends : List ℕ) × Keeps (as_wanted f) arena nodes × CanLeave nodes f.on keys ends × LeadUpwards f.state
