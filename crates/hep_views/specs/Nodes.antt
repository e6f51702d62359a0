-- The node of an activation among those that a machine keeps: docs/ARCHITECTURE.md, "Forms".
use Rattle.std.specs.Prelude.{ℕ, zero, suc, Bool, false, nat_eq, if◌then◌else◌, List, [], ◌∷◌, Option, Some, None}
use Rattle.std.specs.List.{flat_map}
use Rattle.std.specs.Option.{option_map_or, option_or}
use Rattle.hep_layout.specs.Words.{FrameNode, Nodes}
use Rattle.hep_proc.specs.Stacks.{keys_of, Stack}
use Rattle.hep_state.specs.Words.{Snapshot}

abbrev pub is_of : ℕ → Option FrameNode → Bool
is_of a None = false
is_of a (Some n) = nat_eq n.activation a

abbrev pub parent_in : Option FrameNode → Option ℕ
parent_in None = None
parent_in (Some n) = n.parent

-- the node of activation a, if it is among that under a key, its parent's, and so on, a number of nodes at most
abbrev pub node_above : Nodes → ℕ → ℕ → ℕ → Option FrameNode
node_above nodes a zero key = None
node_above nodes a (suc n) key = if is_of a (nodes key) then nodes key else option_map_or (node_above nodes a n) (parent_in (nodes key)) None

abbrev pub node_among : Nodes → ℕ → ℕ → List ℕ → Option FrameNode
node_among nodes a n [] = None
node_among nodes a n (key ∷ keys) = option_or (node_above nodes a n key) (node_among nodes a n keys)

-- an activation that is held is on a stack, or above one that is
abbrev pub node_of : Snapshot → ℕ → Option FrameNode
node_of m a = node_among m.nodes a (suc m.activations) (flat_map (λ (k : Stack). keys_of k.levels) m.processes)
