-- The keys under which the nodes of activations are: docs/ARCHITECTURE.md, "Forms".
use Rattle.std.specs.Prelude.{◌≡◌, ◌⊎◌, ◌≤◌, ◌<◌, ◌-◌, ℕ, suc, List, length, Option, Some, None, slice_get}
use Rattle.hep_layout.specs.Words.{FrameNode, Nodes}
use Rattle.hep_proc.specs.Nodes.{nodes_of}
use Rattle.hep_proc.specs.declared.process.Local.{Local}
use Rattle.hep_proc.specs.declared.process.Process.{Process}
use Rattle.hep_state.specs.Words.{Snapshot}
use Rattle.hep_state.specs.declared.core_state.CoreState.{CoreState}
use Rattle.hep_views.specs.Nodes.{node_of}

-- each node is of one of `count` activations, and the node of its parent, if it has one, of an activation with a
-- lower number
pub record IsForest (nodes : Nodes) (count : ℕ) : Type 0 where
  pub made : (key : ℕ) (n : FrameNode) → nodes key ≡ Some n → (1 ≤ n.activation) × (n.activation ≤ count)
  pub older : (key above : ℕ) (n : FrameNode) → nodes key ≡ Some n → n.parent ≡ Some above
      → (m : FrameNode) × (nodes above ≡ Some m) × (m.activation < n.activation)

-- the activation of each level has a node
abbrev pub HaveNodes : Nodes → List Local → Type 0
HaveNodes nodes levels = (i : ℕ) (l : Local) → slice_get levels i ≡ Some l → (n : FrameNode) × (nodes l.key ≡ Some n)

-- ---- keys by the numbers of activations, that of activation 1 first

-- each is the key of its activation's node
abbrev pub AreKeys : Nodes → List (Option ℕ) → Type 0
AreKeys nodes keys = (i key : ℕ) → slice_get keys i ≡ Some (Some key) → (n : FrameNode) × (nodes key ≡ Some n) × (n.activation ≡ suc i)

abbrev pub IsNoted : List (Option ℕ) → ℕ → Type 0
IsNoted keys i = (key : ℕ) × (slice_get keys i ≡ Some (Some key))

-- each key that was noted is still noted
pub record StayNoted (old new : List (Option ℕ)) : Type 0 where
  pub count : length new ≡ length old
  pub still : (i : ℕ) → IsNoted old i → IsNoted new i

-- the activations of these levels are noted
abbrev pub AreNoted : Nodes → List Local → List (Option ℕ) → Type 0
AreNoted nodes levels keys = (i : ℕ) (l : Local) (n : FrameNode) → slice_get levels i ≡ Some l → nodes l.key ≡ Some n → IsNoted keys (n.activation - 1)

-- the parent of the activation at an index is noted, if that is and has one
abbrev pub IsClosedAt : Nodes → List (Option ℕ) → ℕ → Type 0
IsClosedAt nodes keys i =
    (key above : ℕ) (n m : FrameNode) → slice_get keys i ≡ Some (Some key) → nodes key ≡ Some n → n.parent ≡ Some above → nodes above ≡ Some m
    → IsNoted keys (m.activation - 1)

-- all keys of a machine: those of the activations that have nodes
pub record AreHeldKeys (m : Snapshot) (keys : List (Option ℕ)) : Type 0 where
  pub count : length keys ≡ m.activations
  pub noted : AreKeys m.nodes keys
  pub others : (i : ℕ) → slice_get keys i ≡ Some None → node_of m (suc i) ≡ None

-- ---- stacks

-- one of these levels has this key
abbrev pub HasKey : List Local → ℕ → Type 0
HasKey levels key = (j : ℕ) × (l : Local) × (slice_get levels j ≡ Some l) × (l.key ≡ key)

-- each key that is noted was noted there, or is that of one of these levels
abbrev pub AreFrom : List (Option ℕ) → List Local → List (Option ℕ) → Type 0
AreFrom old levels new = (i key : ℕ) → slice_get new i ≡ Some (Some key) → (slice_get old i ≡ Some (Some key)) ⊎ HasKey levels key

-- one of the first n processes has a level with this key
abbrev pub IsOnFirst : List Process → ℕ → ℕ → Type 0
IsOnFirst processes n key = (j : ℕ) × (q : Process) × (j < n) × (slice_get processes j ≡ Some q) × HasKey q.levels.items key

-- the keys of the activations on stacks, and no others
pub record AreStackedKeys (m : CoreState) (keys : List (Option ℕ)) : Type 0 where
  pub count : length keys ≡ m.activations
  pub noted : AreKeys (nodes_of m.frames.nodes) keys
  pub all : (i : ℕ) (q : Process) → slice_get m.processes.items i ≡ Some q → AreNoted (nodes_of m.frames.nodes) q.levels.items keys
  pub only : (i key : ℕ) → slice_get keys i ≡ Some (Some key) → IsOnFirst m.processes.items (length m.processes.items) key
