-- The purpose of each cell of a frame and of COMMON: docs/MACHINE.md, "Variables and frames" and "Layout".
use Rattle.std.specs.Prelude.{ℕ, suc, ◌+◌, ◌-◌, ◌*◌, Bool, true, false, nat_eq, nat_lt, if◌then◌else◌, List, [], ◌∷◌, ◌++◌, map, Option, Some, None}
use Rattle.std.specs.Option.{option_map}
use Rattle.hep_machine.specs.Words.{Name, Statement, same_name, Units, dummies_of, cells_of, adjustable_dimensions, BlockName, same_block, names_in_block, blocks_of, block_cells, is_do, locals_of}

-- ---- rows

-- a row: consecutive keys, each with its number of cells
abbrev pub Row : Type 0 → Type 0
Row K = List (K × ℕ)

abbrev pub cells_in : {K : Type 0} → Row K → ℕ
cells_in [] = 0
cells_in (e ∷ es) = e.1 + cells_in es

-- the index of the first cell of the first key that passes a test
abbrev pub first_in : {K : Type 0} → (K → Bool) → Row K → ℕ
first_in test [] = 0
first_in test (e ∷ es) = if test e.0 then 0 else e.1 + first_in test es

-- the number of cells of the first key that passes a test; 0 where no key passes
abbrev pub size_in : {K : Type 0} → (K → Bool) → Row K → ℕ
size_in test [] = 0
size_in test (e ∷ es) = if test e.0 then e.1 else size_in test es

-- the cell at an index of the cells of the first key that passes a test; none where it has fewer; indices and cells are counted from 0
abbrev pub place_in : {K : Type 0} → (K → Bool) → ℕ → Row K → Option ℕ
place_in test i [] = None
place_in test i (e ∷ es) = if test e.0 then (if nat_lt i e.1 then Some i else None) else option_map (λ n. e.1 + n) (place_in test i es)

-- the key to which a cell belongs, and the index of the cell among the key's cells
abbrev pub owner_in : {K : Type 0} → Row K → ℕ → Option (K × ℕ)
owner_in [] n = None
owner_in (e ∷ es) n = if nat_lt n e.1 then Some (e.0, n) else owner_in es (n - e.1)

-- ---- frames: "Variables and frames"

-- the parts of a frame: the header; a dummy argument; a local variable; the count and increment of the DO at an index;
-- the bounds of an adjustable dummy array
pub data FramePart : Type 0 where
  header : FramePart
  argument : (name : Name) → FramePart
  variable : (name : Name) → FramePart
  iteration : (index : ℕ) → FramePart
  bounds : (name : Name) → FramePart

abbrev pub same_part : FramePart → FramePart → Bool
same_part header header = true
same_part (argument x) (argument y) = same_name x y
same_part (variable x) (variable y) = same_name x y
same_part (iteration d) (iteration e) = nat_eq d e
same_part (bounds x) (bounds y) = same_name x y
same_part _ _ = false

abbrev pub arguments_row : List Name → Row FramePart
arguments_row xs = map (λ (x : Name). (argument x, 2)) xs

abbrev pub variables_row : List Statement → List Name → Row FramePart
variables_row unit xs = map (λ (x : Name). (variable x, cells_of unit x)) xs

-- the row of the DOs among these statements, the first of which has index k
abbrev pub iterations_row : ℕ → List Statement → Row FramePart
iterations_row k [] = []
iterations_row k (s ∷ ss) = if is_do s.form then (iteration k, 2) ∷ iterations_row (suc k) ss else iterations_row (suc k) ss

abbrev pub bounds_row : List Statement → List Name → Row FramePart
bounds_row unit xs = map (λ (x : Name). (bounds x, 2 * adjustable_dimensions unit x)) xs

abbrev pub frame_row : List Statement → Row FramePart
frame_row unit =
    (header, 1) ∷ (arguments_row (dummies_of unit) ++ (variables_row unit (locals_of unit) ++ (iterations_row 0 unit ++ bounds_row unit (dummies_of unit))))

-- the first cell of a part in a frame, counted from 0
abbrev pub first_of_part : List Statement → FramePart → ℕ
first_of_part unit part = first_in (same_part part) (frame_row unit)

-- the cell of a frame at an index of a part's cells
abbrev pub place_of_part : List Statement → FramePart → ℕ → Option ℕ
place_of_part unit part i = place_in (same_part part) i (frame_row unit)

-- ---- COMMON: "Layout"

-- the row of COMMON: the blocks, each with its greatest length
abbrev pub common_row : Units → Row BlockName
common_row program = map (λ (b : BlockName). (b, block_cells program b)) (blocks_of program)

-- the row of a block in a unit: the names in it
abbrev pub block_row : List Statement → BlockName → Row Name
block_row unit b = map (λ (x : Name). (x, cells_of unit x)) (names_in_block unit b)

-- the first cell of a block in the arena, counted from 0
abbrev pub first_of_block : Units → BlockName → ℕ
first_of_block program b = first_in (same_block b) (common_row program)

-- the cell of COMMON at an index of a block's cells
abbrev pub place_of_block : Units → BlockName → ℕ → Option ℕ
place_of_block program b i = place_in (same_block b) i (common_row program)

-- the first cell in the arena of a name in a block of a unit, counted from 0
abbrev pub first_in_common : Units → List Statement → BlockName → Name → ℕ
first_in_common program unit b x = first_of_block program b + first_in (same_name x) (block_row unit b)
