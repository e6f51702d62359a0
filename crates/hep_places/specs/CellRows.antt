-- Cells of the arena in a row, and the values that DATA gives them: X3.9-1978, 9.2.
use Rattle.std.specs.Prelude.{◌≡◌, ◌+◌, ◌-◌, ◌<◌, ◌≤◌, ℕ, Bool, ◌&&◌, nat_le, nat_lt, if◌then◌else◌, List, [], ◌∷◌, Option, Some, None, option_and_then}
use Rattle.std.specs.Option.{option_map, option_or}
use Rattle.hep_machine.specs.Words.{Value, Repeated, item_at}
use Rattle.hep_image.specs.declared.data.DataRow.{DataRow}
use Rattle.hep_image.specs.Data.{value_in_rows}
use Rattle.hep_places.specs.declared.data_cells.CellRange.{CellRange}

abbrev pub is_among_cells : CellRange → ℕ → Bool
is_among_cells c p = nat_le c.first p && nat_lt p (c.first + c.count)

-- the number of cells before one, of cells in a row
abbrev pub index_of_cell : List CellRange → ℕ → Option ℕ
index_of_cell [] p = None
index_of_cell (c ∷ cs) p = if is_among_cells c p then Some (p - c.first) else option_map (λ n. c.count + n) (index_of_cell cs p)

abbrev pub count_of_cells : List CellRange → ℕ
count_of_cells [] = 0
count_of_cells (c ∷ cs) = c.count + count_of_cells cs

-- the value that a cell gets, where the first value is given to the first cell, and so on
abbrev pub value_of_cell : List CellRange → List (Repeated Value) → ℕ → Option Value
value_of_cell cs values p = option_and_then (item_at values) (index_of_cell cs p)

-- rows after cells were given values: the values of the rows before, otherwise those that these cells got; and the
-- values that are left
pub record Gives (cs : List CellRange) (before : List DataRow) (old : List (Repeated Value)) (after : List DataRow) (new : List (Repeated Value)) : Type 0 where
  pub given : (p : ℕ) → value_in_rows after p ≡ option_or (value_in_rows before p) (value_of_cell cs old p)
  pub left : (i : ℕ) → item_at new i ≡ item_at old (count_of_cells cs + i)

-- the same, where some of the cells are still to get values
pub record GivesSome (cells : CellRange) (before : List DataRow) (old : List (Repeated Value)) (rest : CellRange) (after : List DataRow) (new : List (Repeated Value)) : Type 0 where
  pub given : (p : ℕ) → option_or (value_in_rows after p) (value_of_cell (rest ∷ []) new p) ≡ option_or (value_in_rows before p) (value_of_cell (cells ∷ []) old p)
  pub left : (i : ℕ) → item_at new (rest.count + i) ≡ item_at old (cells.count + i)
  pub within : rest.first + rest.count ≤ cells.first + cells.count

-- the next value, as often as it is repeated or as asked for, and the values after it; none where no value is left
abbrev pub Takes : List (Repeated Value) → ℕ → Option (Value × ℕ) → List (Repeated Value) → Type 0
Takes old most None new = ((i : ℕ) → item_at old i ≡ None) × ((i : ℕ) → item_at new i ≡ None)
Takes old most (Some v) new = (1 ≤ v.1) × (v.1 ≤ most) × ((i : ℕ) → i < v.1 → item_at old i ≡ Some v.0) × ((i : ℕ) → item_at new i ≡ item_at old (v.1 + i))
