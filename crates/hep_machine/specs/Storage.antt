-- Storage units and the store: docs/MACHINE.md, "Storage".
use Rattle.std.specs.Prelude.{ℕ, zero, suc, ◌+◌, ◌-◌, Bool, false, ◌&&◌, nat_eq, nat_le, if◌then◌else◌, Option, Some, None}
use Rattle.hep_source.specs.declared.value.Value.{Value}
use Rattle.hep_machine.specs.Access.{purged_cell}
use Rattle.hep_machine.specs.Declarations.{same_block}
use Rattle.hep_source.specs.Names.{same_name}
use Rattle.hep_machine.specs.State.{Location, local, common, Cell, Store}

abbrev pub same_location : Location → Location → Bool
same_location (local a x i) (local b y j) = nat_eq a b && (same_name x y && nat_eq i j)
same_location (local a x i) (common n k) = false
same_location (common m j) (local b y i) = false
same_location (common m j) (common n k) = same_block m n && nat_eq j k

-- the location n elements further in the same sequence of storage units
abbrev pub further : Location → ℕ → Location
further (local a x i) n = local a x (i + n)
further (common b k) n = common b (k + n)

-- the distance in elements from the first location to the second; none where the second is before the first or in another sequence
abbrev pub distance : Location → Location → Option ℕ
distance (local a x i) (local b y j) = if nat_eq a b && (same_name x y && nat_le i j) then Some (j - i) else None
distance (local a x i) (common n k) = None
distance (common m j) (local b y i) = None
distance (common m j) (common n k) = if same_block m n && nat_le j k then Some (k - j) else None

-- the store with this cell at a location
abbrev pub with_cell : Store → Location → Cell → Store
with_cell store at cell location = if same_location location at then cell else store location

-- the store with this value at a location, which stays full or empty
abbrev pub with_value : Store → Location → Option Value → Store
with_value store at value = with_cell store at (record { value = value; full = (store at).full })

-- the store with the cell at a location empty; its value stays
abbrev pub with_empty : Store → Location → Store
with_empty store at = with_cell store at (purged_cell (store at))

-- the store with a number of consecutive storage units empty, from a location on
abbrev pub emptied_from : ℕ → Location → Store → Store
emptied_from zero at store = store
emptied_from (suc n) at store = emptied_from n (further at 1) (with_empty store at)
