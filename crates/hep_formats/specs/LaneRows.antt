-- Rows of cells of one width: docs/RUNS.md, "Lanes".
use Rattle.std.specs.Prelude.{ℕ, ◌+◌, ◌-◌, nat_eq, nat_lt, if◌then◌else◌, List, [], ◌∷◌, ◌++◌, codes, length, replicate, take}

-- a text with blanks after it, up to a column
abbrev pub padded : ℕ → List ℕ → List ℕ
padded column row = row ++ replicate (column - length row) 32

-- a text with blanks before it, at the right of six columns
abbrev pub right : List ℕ → List ℕ
right entry = padded (6 - length entry) [] ++ entry

-- what doesn't fit in a cell, with a blank after it, ends with ~
abbrev pub cut : ℕ → List ℕ → List ℕ
cut width text = if nat_lt (length text) width then text else take (width - 2) text ++ codes "~"

-- one cell more, from a column on, after one blank at least; an empty one has no blanks
abbrev pub with_cell : ℕ → List ℕ → List ℕ → List ℕ
with_cell column row cell = if nat_eq (length cell) 0 then row else padded column (row ++ codes " ") ++ cell

abbrev pub cells_after : ℕ → ℕ → List ℕ → List (List ℕ) → List ℕ
cells_after width column row [] = row
cells_after width column row (cell ∷ cells) = cells_after width (column + width) (with_cell column row cell) cells

-- an entry and its cells
abbrev pub row_text : ℕ → List ℕ → List (List ℕ) → List ℕ
row_text width entry cells = cells_after width 7 (right entry) cells ++ codes "\n"
