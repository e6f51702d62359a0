-- When the parts of a machine's key can be read: docs/MACHINE.md, "Layout".
use Rattle.std.specs.Prelude.{◌≡◌, ◌+◌, ◌<◌, ◌≤◌, ℕ, List, Option, Some, length}
use Rattle.hep_arena.specs.Holes.{IsOut}
use Rattle.hep_arena.specs.Space.{Space}
use Rattle.hep_layout.specs.Words.{FrameNode}
use Rattle.hep_proc.specs.Nodes.{nodes_of}
use Rattle.hep_proc.specs.declared.frames.Frames.{Frames}
use Rattle.hep_state.specs.declared.core_state.CoreState.{CoreState}
use Rattle.hep_state.specs.Words.{snapshot_of}
use Rattle.hep_state_text.specs.NodeKeys.{AreHeldKeys}
use Rattle.hep_explore.specs.Contents.{keys_among}

-- these cells are allocated, in an arena that isn't too large
pub record AreCellsOut (arena : Space) (first count : ℕ) : Type 0 where
  pub few : length arena.contents ≤ 16777216
  pub inside : first + count ≤ length arena.contents
  pub out : (i : ℕ) → i < count → IsOut (first + i) arena.holes

-- there is a node under the key, its frame is allocated, and its parent's node is there too
pub record IsFrameThere (frames : Frames) (key : ℕ) : Type 0 where
  pub node : FrameNode
  pub there : nodes_of frames.nodes key ≡ Some node
  pub cells : AreCellsOut frames.arena node.first node.cells
  pub above : (parent : ℕ) → node.parent ≡ Some parent → (n : FrameNode) × (nodes_of frames.nodes parent ≡ Some n)

-- these are the keys of the nodes of all held activations, by the numbers of these
abbrev pub AreHeldNodes : CoreState → List ℕ → Type 0
AreHeldNodes m nodes = (keys : List (Option ℕ)) × AreHeldKeys (snapshot_of m) keys × (nodes ≡ keys_among keys)
