-- The allocated frames as a tree, and which of them are still needed: docs/MACHINE.md, "Layout".
use Rattle.std.specs.Prelude.{◌≡◌, ◌⊎◌, ℕ, zero, suc, ◌+◌, ◌-◌, ◌≤◌, Bool, true, false, not, ◌&&◌, nat_eq, if◌then◌else◌, length, Option, Some, None}
use Rattle.std.specs.List.{flat_map}
use Rattle.std.specs.Option.{option_map}
use Rattle.hep_machine.specs.Words.{Layout, activations_on, activation_of, is_number_among, parent_of, State}
use Rattle.hep_arena.specs.Gaps.{frame_among}

-- ---- nodes

-- a node, which is an allocated frame: its activation, the unit of that, its first cell, the number of its cells, the key of its parent's
-- node, the number of its children in the tree, and whether its activation has ended
pub record FrameNode : Type 0 where
  pub activation : ℕ
  pub unit : ℕ
  pub first : ℕ
  pub cells : ℕ
  pub parent : Option ℕ
  pub children : ℕ
  pub finished : Bool

-- the node under each key
abbrev pub Nodes : Type 0
Nodes = ℕ → Option FrameNode

abbrev pub is_just : ℕ → Option ℕ → Bool
is_just a None = false
is_just a (Some b) = nat_eq b a

-- the activation of the node under an optional key; none where the key has no node
abbrev pub activation_under : Nodes → Option ℕ → Option (Option ℕ)
activation_under nodes None = Some None
activation_under nodes (Some k) = option_map (λ (n : FrameNode). Some n.activation) (nodes k)

-- ---- activations: those on stacks, and those with allocated frames (`out`)

-- the number of numbers from 1 up to n that pass a test
abbrev pub count_up_to : (ℕ → Bool) → ℕ → ℕ
count_up_to test zero = 0
count_up_to test (suc n) = count_up_to test n + (if test (suc n) then 1 else 0)

-- the number of children of an activation whose frames are allocated
abbrev pub children_out : State → (ℕ → Bool) → ℕ → ℕ
children_out s out a = count_up_to (λ c. out c && is_just a (parent_of s c)) (length s.activations)

-- the test that fails for one more number
abbrev pub but : ℕ → (ℕ → Bool) → ℕ → Bool
but a test b = if nat_eq b a then false else test b

-- the test that passes for one more number
abbrev pub also : ℕ → (ℕ → Bool) → ℕ → Bool
also a test b = if nat_eq b a then true else test b

abbrev pub is_stacked : State → ℕ → Bool
is_stacked s a = is_number_among a (flat_map activations_on s.processes)

-- ---- the tree

-- A node agrees with the state of its activation.
pub record IsFrameNode (s : State) (on out : ℕ → Bool) (nodes : Nodes) (n : FrameNode) : Type 0 where
  pub out_is : out n.activation ≡ true
  pub unit_is : n.unit ≡ (activation_of s n.activation).unit
  pub parent_is : activation_under nodes n.parent ≡ Some (parent_of s n.activation)
  pub children_are : n.children ≡ children_out s out n.activation
  pub finished_is : n.finished ≡ not (on n.activation)

-- Each activation with an allocated frame has exactly one node, and each activation on a stack has an allocated frame.
pub record IsFrameTree (s : State) (on out : ℕ → Bool) (nodes : Nodes) : Type 0 where
  pub shown : (k : ℕ) (n : FrameNode) → nodes k ≡ Some n → IsFrameNode s on out nodes n
  pub found : (a : ℕ) → out a ≡ true → (k : ℕ) × (n : FrameNode) × (nodes k ≡ Some n) × (n.activation ≡ a)
  pub single : (k l : ℕ) (m n : FrameNode) → nodes k ≡ Some m → nodes l ≡ Some n → m.activation ≡ n.activation → k ≡ l
  pub stacked : (a : ℕ) → on a ≡ true → out a ≡ true
  pub made : (a : ℕ) → out a ≡ true → (1 ≤ a) × (a ≤ length s.activations)

-- Each node has the frame of its activation in a layout.
abbrev pub AreFramed : Layout → Nodes → Type 0
AreFramed layout nodes = (k : ℕ) (n : FrameNode) → nodes k ≡ Some n → frame_among n.activation layout ≡ Some (record { activation = n.activation; first = n.first; cells = n.cells })

-- The frame of an activation is needed: the activation is on a stack, or is the parent of one whose frame is allocated.
abbrev pub IsNeeded : State → (ℕ → Bool) → (ℕ → Bool) → ℕ → Type 0
IsNeeded s on out a = (on a ≡ true) ⊎ (1 ≤ children_out s out a)

-- All allocated frames are needed, with at most one exception.
abbrev pub AreNeededBut : Option ℕ → State → (ℕ → Bool) → (ℕ → Bool) → Type 0
AreNeededBut exception s on out = (a : ℕ) → out a ≡ true → is_just a exception ≡ false → IsNeeded s on out a

-- No frame is left to be freed.
pub record IsAtRest (s : State) (out : ℕ → Bool) (nodes : Nodes) : Type 0 where
  pub tree : IsFrameTree s (is_stacked s) out nodes
  pub needed : AreNeededBut None s (is_stacked s) out

-- ---- changes of the tree

-- the nodes at the opening: the frame of the main program's activation, under key v
abbrev pub first_nodes : ℕ → ℕ → ℕ → ℕ → Nodes
first_nodes v unit first cells k = if nat_eq k v then Some (record { activation = 1; unit = unit; first = first; cells = cells; parent = None; children = 0; finished = false }) else None

-- a node with one child less
abbrev pub with_one_less : FrameNode → FrameNode
with_one_less n = record n { children = n.children - 1 }

abbrev pub with_one_more : FrameNode → FrameNode
with_one_more n = record n { children = n.children + 1 }

abbrev pub with_end : FrameNode → FrameNode
with_end n = record n { finished = true }

-- the nodes without node n under key k
abbrev pub without_node : Nodes → ℕ → FrameNode → Nodes
without_node nodes k n l = if nat_eq l k then None else (if is_just l n.parent then option_map with_one_less (nodes l) else nodes l)

-- the nodes after the activation under key k ends
abbrev pub with_ended : Nodes → ℕ → Nodes
with_ended nodes k l = if nat_eq l k then option_map with_end (nodes l) else nodes l

-- the node of a new activation, whose parent's node is under key k
abbrev pub new_node : ℕ → ℕ → ℕ → ℕ → ℕ → FrameNode
new_node a unit first cells k = record { activation = a; unit = unit; first = first; cells = cells; parent = Some k; children = 0; finished = false }

-- the nodes with node n under key v, as a child of the node under key k
abbrev pub with_node : Nodes → ℕ → FrameNode → ℕ → Nodes
with_node nodes v n k l = if nat_eq l v then Some n else (if nat_eq l k then option_map with_one_more (nodes l) else nodes l)
