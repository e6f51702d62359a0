-- The frames of activations, by the keys of their nodes: docs/MACHINE.md, "Layout".
use Rattle.std.specs.Prelude.{◌≡◌, ◌<◌, ◌++◌, ℕ, Bool, List, length, Option, Some, None}
use Rattle.hep_machine.specs.Words.{Layout, State, run, unit_of}
use Rattle.hep_layout.specs.Words.{FrameNode, is_stacked}
use Rattle.hep_state_text.specs.declared.activation_lines.HeldFrame.{HeldFrame}
use Rattle.hep_proc.specs.Nodes.{nodes_of}
use Rattle.hep_state.specs.Words.{IsMachineAfter}
use Rattle.hep_state.specs.declared.core_state.CoreState.{CoreState}
use Rattle.hep_state_text.specs.States.{activation_text}
use Rattle.hep_state_text.specs.StoredVariables.{IsFrameOf}
use Rattle.hep_state_text.specs.declared.storage.StateStorage.{StateStorage}

-- the node of an activation is under a key, and has the place of its frame
pub record IsFrameUnder (storage : StateStorage) (s : State) (layout : Layout) (a key : ℕ) : Type 0 where
  pub symbols : storage.symbols.now ≡ storage.image.now
  pub node : FrameNode
  pub there : nodes_of storage.frames.now.nodes key ≡ Some node
  pub activation : node.activation ≡ a
  pub unit : node.unit ≡ unit_of s a
  pub inside : unit_of s a < length storage.image.now
  pub frame : IsFrameOf storage.image.now s layout a node.first storage.frames.now.arena

-- after these turns the machine keeps activation a, which is on a stack or not, and whose node is under a key
pub record IsHeldUnder (storage : StateStorage) (m : CoreState) (held : HeldFrame) (cells : ℕ) (choices : List ℕ) (a : ℕ) : Type 0 where
  pub after : IsMachineAfter storage.image.now cells choices m
  pub same : storage.frames.now ≡ m.frames
  pub stacked : held.is_stacked ≡ is_stacked (run storage.image.now choices) a
  pub under : IsFrameUnder storage (run storage.image.now choices) after.after.layout a held.key

-- the frame under a key, if there is one
abbrev pub held_frame : Option ℕ → Bool → Option HeldFrame
held_frame None stacked = None
held_frame (Some key) stacked = Some (record { key = key; is_stacked = stacked })

abbrev pub IsHeldSomewhere : StateStorage → CoreState → HeldFrame → Type 0
IsHeldSomewhere storage m held = (cells : ℕ) × (choices : List ℕ) × (a : ℕ) × IsHeldUnder storage m held cells choices a

-- the same, if there is a frame
abbrev pub IsHeldIfAny : StateStorage → CoreState → Option HeldFrame → Type 0
IsHeldIfAny storage m None = Prim.Unit {0}
IsHeldIfAny storage m (Some held) = IsHeldSomewhere storage m held

-- from a text to another one the lines of the activation were added, if there is a frame
abbrev pub IsTextOfHeld : StateStorage → CoreState → Option HeldFrame → List ℕ → List ℕ → Type 0
IsTextOfHeld storage m None old new = new ≡ old
IsTextOfHeld storage m (Some held) old new =
    (cells : ℕ) (choices : List ℕ) (a : ℕ) → IsHeldUnder storage m held cells choices a
    → new ≡ old ++ activation_text storage.image.now (run storage.image.now choices) a
