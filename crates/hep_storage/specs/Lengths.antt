-- The lengths of common blocks, as one pass over the units finds them: X3.9-1978, 8.3.3.
use Rattle.std.specs.Prelude.{◌≡◌, ℕ, ◌+◌, ◌≤◌, true, nat_eq, max, if◌then◌else◌, List, [], ◌∷◌, ◌++◌, map, Option, Some, None, is_some}
use Rattle.std.specs.List.{flat_map}
use Rattle.std.specs.Option.{option_map_or}
use Rattle.hep_machine.specs.Words.{CommonBlock, Declarator, Statement, Units, cells_of, BlockName, same_block, block_of, blocks_of_unit, is_block_among}
use Rattle.hep_storage.specs.declared.common.CommonItem.{CommonItem}
use Rattle.hep_storage.specs.declared.common.Length.{Length}

-- ---- the entries of the COMMON statements of a unit, in order

abbrev pub entry_of : BlockName → Declarator → CommonItem
entry_of b d = record { block = b; name = Some d.occurrence.name }

-- the entries of a list: its names, or only its block where there are none
abbrev pub entries_listed : BlockName → List Declarator → List CommonItem
entries_listed b [] = record { block = b; name = None } ∷ []
entries_listed b (d ∷ ds) = map (entry_of b) (d ∷ ds)

abbrev pub entries_in_list : CommonBlock → List CommonItem
entries_in_list c = entries_listed (block_of c) c.entries

abbrev pub entries_in_lists : List CommonBlock → List CommonItem
entries_in_lists cs = flat_map entries_in_list cs

abbrev pub entries_of : List Statement → List CommonItem
entries_of unit = entries_in_lists (blocks_of_unit unit)

-- the entries of all units
abbrev pub entries_of_program : Units → List CommonItem
entries_of_program program = flat_map entries_of program

abbrev pub cells_of_entry : List Statement → CommonItem → ℕ
cells_of_entry unit e = option_map_or (cells_of unit) e.name 0

-- the cells that entries add to a block
abbrev pub cells_in_block : List Statement → BlockName → List CommonItem → ℕ
cells_in_block unit b [] = 0
cells_in_block unit b (e ∷ es) = (if same_block e.block b then cells_of_entry unit e else 0) + cells_in_block unit b es

-- ---- blocks, in order of first appearance

abbrev pub with_block : List BlockName → BlockName → List BlockName
with_block bs b = if is_block_among b bs then bs else bs ++ b ∷ []

abbrev pub with_blocks_of : List BlockName → List CommonItem → List BlockName
with_blocks_of bs [] = bs
with_blocks_of bs (e ∷ es) = with_blocks_of (with_block bs e.block) es

-- ---- lengths

-- the number of cells of a block in the unit with this index, as far as it was read
abbrev pub cells_so_far : ℕ → Option Length → ℕ
cells_so_far number None = 0
cells_so_far number (Some l) = if nat_eq l.unit number then l.cells else 0

-- the greatest length of a block in the units read so far
abbrev pub greatest_length : Option Length → ℕ
greatest_length None = 0
greatest_length (Some l) = l.greatest

-- the length of a block with n more cells in a unit
abbrev pub lengthened : Option Length → ℕ → ℕ → Length
lengthened before number n =
    record { greatest = max (greatest_length before) (cells_so_far number before + n); unit = number; cells = cells_so_far number before + n }

-- Each block with a length is one of these.
abbrev pub AreKept : List BlockName → (BlockName → Option Length) → Type 0
AreKept bs lengths = (b : BlockName) → is_some (lengths b) ≡ true → is_block_among b bs ≡ true

-- No entry of this unit or a later one was read.
abbrev pub IsUnread : ℕ → (BlockName → Option Length) → Type 0
IsUnread number lengths = (b : BlockName) (v : ℕ) → number ≤ v → cells_so_far v (lengths b) ≡ 0
