-- The rows of COMMON: their cells, and where a name begins.
use Rattle.std.proofs.Common.{◌≡◌, ℕ, zero, suc, ◌+◌, ◌≤◌, true, List, [], ◌∷◌, Some, refl, ap, subst, arith, if◌then◌else◌, map, max, slice_get}
use Rattle.std.proofs.lemmas.Option.{same_Some, none-some}
use Rattle.hep_machine.specs.Words.{Name, Statement, same_name, is_among, Units, cells_of, cells_of_all, cells_before, BlockName, names_in_block, blocks_of, block_cells, cells_of_blocks, common_cells}
use Rattle.hep_source.proofs.NameTests.{equal_names}
use Rattle.hep_layout.specs.Words.{cells_in, first_in, size_in, block_row, common_row, first_of_block, first_in_common}

blocks-cells : (program : Units) (bs : List BlockName) → cells_in (map (λ (b : BlockName). (b, block_cells program b)) bs) ≡ cells_of_blocks program bs
blocks-cells program [] = refl
blocks-cells program (b ∷ bs) = ap (λ n. block_cells program b + n) (blocks-cells program bs)

pub common_row-cells : (program : Units) → cells_in (common_row program) ≡ common_cells program
common_row-cells program = blocks-cells program (blocks_of program)

names-cells : (unit : List Statement) (xs : List Name) → cells_in (map (λ (x : Name). (x, cells_of unit x)) xs) ≡ cells_of_all unit xs
names-cells unit [] = refl
names-cells unit (x ∷ xs) = ap (λ n. cells_of unit x + n) (names-cells unit xs)

pub block_row-cells : (unit : List Statement) (b : BlockName) → cells_in (block_row unit b) ≡ cells_of_all unit (names_in_block unit b)
block_row-cells unit b = names-cells unit (names_in_block unit b)

-- a block is as long as in any unit
pub unit-cells : (program : Units) (u : ℕ) (unit : List Statement) (b : BlockName) → slice_get program u ≡ Some unit → cells_of_all unit (names_in_block unit b) ≤ block_cells program b
unit-cells [] u unit b e = absurd (none-some unit e)
unit-cells (v ∷ vs) zero unit b e =
    subst (λ w. cells_of_all w (names_in_block w b) ≤ max (cells_of_all v (names_in_block v b)) (block_cells vs b)) (same_Some v unit e) (omega arith)
unit-cells (v ∷ vs) (suc u) unit b e = omega (arith, unit-cells vs u unit b e)

pub block_row-below : (program : Units) (u : ℕ) (unit : List Statement) (b : BlockName) → slice_get program u ≡ Some unit → cells_in (block_row unit b) ≤ block_cells program b
block_row-below program u unit b e = omega (arith, block_row-cells unit b, unit-cells program u unit b e)

-- ---- the names in a block

names-first : (unit : List Statement) (x : Name) (xs : List Name) → first_in (same_name x) (map (λ (y : Name). (y, cells_of unit y)) xs) ≡ cells_before unit x xs
names-first unit x [] = refl
names-first unit x (y ∷ ys) = ap (λ n. if same_name x y then 0 else cells_of unit y + n) (names-first unit x ys)

pub name-first : (program : Units) (unit : List Statement) (b : BlockName) (x : Name) → first_in_common program unit b x ≡ first_of_block program b + cells_before unit x (names_in_block unit b)
name-first program unit b x = ap (λ n. first_of_block program b + n) (names-first unit x (names_in_block unit b))

names-size : (unit : List Statement) (x : Name) (xs : List Name) → is_among x xs ≡ true → size_in (same_name x) (map (λ (y : Name). (y, cells_of unit y)) xs) ≡ cells_of unit x
names-size unit x [] h = absurd cc
names-size unit x (y ∷ ys) h = grind (arith, names-size unit x ys, equal_names x y)

pub name-size : (unit : List Statement) (b : BlockName) (x : Name) → is_among x (names_in_block unit b) ≡ true → size_in (same_name x) (block_row unit b) ≡ cells_of unit x
name-size unit b x = names-size unit x (names_in_block unit b)
