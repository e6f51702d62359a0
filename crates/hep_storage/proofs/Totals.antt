-- The cells of all common blocks together: no more than all entries of COMMON have.
use Rattle.std.proofs.Common.{◌≡◌, ℕ, ◌+◌, ◌*◌, ◌^◌, ◌<◌, ◌≤◌, max, Bool, true, false, ◌&&◌, Option, Some, None, List, [], ◌∷◌, length, unwrap_or, nat_le, refl, arith, if◌then◌else◌, length-append}
use Rattle.std.proofs.lemmas.Bool.Decides.{nat_tests}
use Rattle.std.specs.Option.{option_map_or}
use Rattle.hep_machine.specs.Words.{Units, Name, Statement, constant_value, bounds_of, cells_of, cells_of_all, cells_of_shape, if_shape, BlockName, same_block, blocks_of, dimensions_of, is_array, names_in_block, block_cells, cells_of_blocks, common_cells, Bounds, are_dimensions, elements, is_most, is_shape}
use Rattle.hep_storage.specs.declared.common.CommonItem.{CommonItem}
use Rattle.hep_storage.specs.Lengths.{entries_of, entries_of_program, cells_of_entry, cells_in_block}
use Rattle.hep_storage.proofs.Entries.{unit-cells}
use Rattle.hep_layout.proofs.Singles.{AreOnce, occurrences, program-single}

-- ---- one entry

most : (o : Option ℕ) → is_most o ≡ true → unwrap_or o 0 ≤ 2 ^ 20
most None h = omega arith
most (Some n) h = grind (arith, nat_tests)

-- the last of four conditions
last : (a b c d : Bool) → (a && (b && (c && d))) ≡ true → d ≡ true
last true true true d h = h
last true true false d h = absurd cc
last true false c d h = absurd cc
last false b c d h = absurd cc

shape-few : (o : Option Bounds) → cells_of_shape (if_shape o) ≤ 2 ^ 20
shape-few None = omega arith
shape-few (Some bs) = by (is_shape bs) refl
  where
    by : (t : Bool) → is_shape bs ≡ t → cells_of_shape (if t then Some bs else None) ≤ 2 ^ 20
    by true e = most (elements bs) (last (nat_le 1 (length bs)) (nat_le (length bs) 7) (are_dimensions bs) (is_most (elements bs)) e)
    by false e = omega arith

cells-few : (unit : List Statement) (x : Name) → cells_of unit x ≤ 2 ^ 20
cells-few unit x = by (is_array unit x)
  where
    by : (t : Bool) → cells_of_shape (if t then if_shape (bounds_of unit (constant_value unit) (dimensions_of unit x)) else Some []) ≤ 2 ^ 20
    by true = shape-few (bounds_of unit (constant_value unit) (dimensions_of unit x))
    by false = omega arith

entry-few : (unit : List Statement) (e : CommonItem) → cells_of_entry unit e ≤ 2 ^ 20
entry-few unit e = by e.name
  where
    by : (o : Option Name) → option_map_or (cells_of unit) o 0 ≤ 2 ^ 20
    by None = omega arith
    by (Some x) = cells-few unit x

-- ---- one entry, in whichever of some blocks it is

abbrev cells_added : List Statement → CommonItem → List BlockName → ℕ
cells_added unit e [] = 0
cells_added unit e (b ∷ bs) = (if same_block e.block b then cells_of_entry unit e else 0) + cells_added unit e bs

added-none : (unit : List Statement) (e : CommonItem) (bs : List BlockName) → occurrences e.block bs ≡ 0 → cells_added unit e bs ≡ 0
added-none unit e [] h = refl
added-none unit e (b ∷ bs) h = by (same_block e.block b) h (added-none unit e bs)
  where
    by : (t : Bool) → (if t then 1 else 0) + occurrences e.block bs ≡ 0 → (occurrences e.block bs ≡ 0 → cells_added unit e bs ≡ 0) → (if t then cells_of_entry unit e else 0) + cells_added unit e bs ≡ 0
    by true g rest = absurd (omega (arith, g))
    by false g rest = omega (arith, rest (omega (arith, g)))

added-few : (unit : List Statement) (e : CommonItem) (bs : List BlockName) → occurrences e.block bs ≤ 1 → cells_added unit e bs ≤ 2 ^ 20
added-few unit e [] h = omega arith
added-few unit e (b ∷ bs) h = by (same_block e.block b) h (added-few unit e bs)
  where
    by : (t : Bool) → (if t then 1 else 0) + occurrences e.block bs ≤ 1 → (occurrences e.block bs ≤ 1 → cells_added unit e bs ≤ 2 ^ 20) → (if t then cells_of_entry unit e else 0) + cells_added unit e bs ≤ 2 ^ 20
    by true g rest = omega (arith, entry-few unit e, added-none unit e bs (omega (arith, g)))
    by false g rest = omega (arith, rest (omega (arith, g)))

-- ---- one unit

abbrev cells_in_blocks : List Statement → List BlockName → List CommonItem → ℕ
cells_in_blocks unit [] es = 0
cells_in_blocks unit (b ∷ bs) es = cells_in_block unit b es + cells_in_blocks unit bs es

regrouped : (a c r s all : ℕ) → all ≡ s + r → (a + c) + all ≡ (a + s) + (c + r)
regrouped a c r s all e = omega (arith, e)

blocks-split : (unit : List Statement) (e : CommonItem) (es : List CommonItem) (bs : List BlockName) → cells_in_blocks unit bs (e ∷ es) ≡ cells_added unit e bs + cells_in_blocks unit bs es
blocks-split unit e es [] = omega arith
blocks-split unit e es (b ∷ bs) =
    regrouped (if same_block e.block b then cells_of_entry unit e else 0) (cells_in_block unit b es) (cells_in_blocks unit bs es) (cells_added unit e bs) (cells_in_blocks unit bs (e ∷ es)) (blocks-split unit e es bs)

blocks-empty : (unit : List Statement) (bs : List BlockName) → cells_in_blocks unit bs [] ≡ 0
blocks-empty unit [] = refl
blocks-empty unit (b ∷ bs) = omega (arith, blocks-empty unit bs)

blocks-few : (unit : List Statement) (bs : List BlockName) (es : List CommonItem) → AreOnce bs → cells_in_blocks unit bs es ≤ 2 ^ 20 * length es
blocks-few unit bs [] h = omega (arith, blocks-empty unit bs)
blocks-few unit bs (e ∷ es) h = omega (arith, blocks-split unit e es bs, added-few unit e bs (h e.block), blocks-few unit bs es h)

-- ---- all units

no-units : (bs : List BlockName) → cells_of_blocks [] bs ≡ 0
no-units [] = refl
no-units (b ∷ bs) = omega (arith, no-units bs)

longer : (a d c n r s : ℕ) → d ≡ a → n ≤ r + s → max a c + n ≤ (d + r) + (c + s)
longer a d c n r s e h = omega (arith, e, h)

unit-ahead : (unit : List Statement) (us : Units) (bs : List BlockName) → cells_of_blocks (unit ∷ us) bs ≤ cells_in_blocks unit bs (entries_of unit) + cells_of_blocks us bs
unit-ahead unit us [] = omega arith
unit-ahead unit us (b ∷ bs) =
    longer (cells_of_all unit (names_in_block unit b)) (cells_in_block unit b (entries_of unit)) (block_cells us b) (cells_of_blocks (unit ∷ us) bs) (cells_in_blocks unit bs (entries_of unit)) (cells_of_blocks us bs)
    (unit-cells unit b) (unit-ahead unit us bs)

units-few : (us : Units) (bs : List BlockName) → AreOnce bs → cells_of_blocks us bs ≤ 2 ^ 20 * length (entries_of_program us)
units-few [] bs h = omega (arith, no-units bs)
units-few (unit ∷ us) bs h =
    omega (arith, unit-ahead unit us bs, blocks-few unit bs (entries_of unit) h, units-few us bs h, length-append (entries_of unit) (entries_of_program us))

-- all entries are as many as memory holds
pub common-few : (program : Units) (n : ℕ) → length (entries_of_program program) ≤ n → n < 2 ^ 64 → common_cells program < 2 ^ 96
common-few program n h k = omega (arith, units-few program (blocks_of program) (program-single program), h, k)
