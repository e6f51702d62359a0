-- The nodes of the frames in the arena, in the terms of the definitions: docs/MACHINE.md, "Layout".
use Rattle.std.specs.Prelude.{◌≡◌, ℕ, ◌≤◌, ◌+◌, ◌<◌, ◌^◌, false, nat_eq, if◌then◌else◌, Some}
use Rattle.std.specs.Option.{option_map}
use Rattle.slab.specs.Slab.{Slab, get}
use Rattle.hep_layout.specs.Words.{Nodes, with_one_less, with_one_more, FrameNode}
use Rattle.hep_proc.specs.declared.nodes.Node.{Node}

abbrev pub shown : Node → FrameNode
shown n = record { activation = n.activation; unit = n.unit; first = n.block.at; cells = n.block.len; parent = n.parent; children = n.children; finished = n.finished }

abbrev pub nodes_of : Slab Node → Nodes
nodes_of slab key = option_map shown (get slab key)

-- ---- children

-- the node under a key, if there is one, has one child less
abbrev pub with_fewer : Nodes → ℕ → Nodes
with_fewer nodes key k = if nat_eq k key then option_map with_one_less (nodes k) else nodes k

-- it has one child more
abbrev pub with_more : Nodes → ℕ → Nodes
with_more nodes key k = if nat_eq k key then option_map with_one_more (nodes k) else nodes k

-- it has one at least
abbrev pub HasChildren : Nodes → ℕ → Type 0
HasChildren nodes key = (n : FrameNode) → nodes key ≡ Some n → 1 ≤ n.children

-- one more child can be counted
abbrev pub CanCount : Nodes → ℕ → Type 0
CanCount nodes key = (n : FrameNode) → nodes key ≡ Some n → n.children + 1 < 2 ^ 64

-- the parent of the node under a key is under another key, and has counted it
abbrev pub IsCountedAbove : Nodes → ℕ → Type 0
IsCountedAbove nodes key = (n : FrameNode) (above : ℕ) → nodes key ≡ Some n → n.parent ≡ Some above → (nat_eq above key ≡ false) × HasChildren nodes above
