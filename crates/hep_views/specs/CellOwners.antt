-- The search for the storage unit in a cell: in COMMON, and in the frames from an activation upwards.
use Rattle.std.specs.Prelude.{◌≡◌, ◌+◌, ◌≤◌, ℕ, zero, suc, ◌&&◌, Bool, false, nat_le, nat_lt, if◌then◌else◌, List, Option, Some, None}
use Rattle.std.specs.Option.{option_map_or}
use Rattle.hep_machine.specs.Words.{Units, run, Location}
use Rattle.hep_layout.specs.Words.{address, IsOwnedAbove, FrameNode, Nodes}
use Rattle.hep_image.specs.Image.{most_cells}
use Rattle.hep_proc.specs.Nodes.{nodes_of}
use Rattle.hep_state.specs.declared.core_state.CoreState.{CoreState}
use Rattle.hep_blocked.specs.RosterUpdates.{IsBlocked}
use Rattle.hep_cells.specs.declared.want.Want.{Want}
use Rattle.hep_state.specs.Words.{snapshot_of, IsAfter, IsMachineAfter}
use Rattle.hep_views.specs.declared.listed.Listed.{Listed}
use Rattle.hep_views.specs.declared.place.Place.{Place}
use Rattle.hep_views.specs.ListedProcesses.{listed_by, place_of}
use Rattle.hep_views.specs.Nodes.{parent_in}

-- the frame of a node has a cell
abbrev pub has_cell : FrameNode → ℕ → Bool
has_cell n cell = nat_le n.first cell && nat_lt cell (n.first + n.cells)

abbrev pub has_among : ℕ → Option FrameNode → Bool
has_among cell None = false
has_among cell (Some n) = has_cell n cell

-- the key of the first node whose frame has a cell, of that under a key, its parent's, and so on, a number of nodes
-- at most
abbrev pub holder_above : Nodes → ℕ → ℕ → ℕ → Option ℕ
holder_above nodes cell zero key = None
holder_above nodes cell (suc n) key = if has_among cell (nodes key) then Some key else option_map_or (holder_above nodes cell n) (parent_in (nodes key)) None

-- after these turns a machine keeps a storage unit in a cell; it is of COMMON, of the activation whose node is under
-- a key, or of one above that
pub record IsSought (program : Units) (cells : ℕ) (choices : List ℕ) (m : CoreState) (key cell : ℕ) (at : Location) : Type 0 where
  pub after : IsAfter program cells choices (snapshot_of m)
  pub few : cells ≤ most_cells
  pub kept : address program (run program choices) after.layout at ≡ Some cell
  pub node : FrameNode
  pub there : nodes_of m.frames.nodes key ≡ Some node
  pub owned : IsOwnedAbove (run program choices) node.activation at

-- it is so after some turns
abbrev pub CanBeSought : Units → CoreState → ℕ → ℕ → Type 0
CanBeSought program m key cell =
    (cells : ℕ) × (choices : List ℕ) × (at : Location) × IsSought program cells choices m key cell at

-- after any turns after which it is so, the place has the names of the storage unit
abbrev pub IsPlaceSought : Units → CoreState → ℕ → ℕ → Place → Type 0
IsPlaceSought program m key cell place =
    (cells : ℕ) (choices : List ℕ) (at : Location) → IsSought program cells choices m key cell at
    → place ≡ place_of program (run program choices) at

-- ---- the process that waits

-- after some turns a machine keeps the state, and process p waits for a cell
abbrev pub CanBeListed : Units → CoreState → ℕ → Want → Type 0
CanBeListed program m p want =
    (cells : ℕ) × (choices : List ℕ) × IsMachineAfter program cells choices m × IsBlocked program cells choices p want

-- after any turns after which it waits so, these are the words for it
abbrev pub IsListedAs : Units → CoreState → ℕ → Want → Listed → Type 0
IsListedAs program m p want listed =
    (cells : ℕ) (choices : List ℕ) → IsMachineAfter program cells choices m → IsBlocked program cells choices p want
    → listed_by program p (run program choices) ≡ Some listed
