-- The holes of an arena as a list, and the effects of taking and freeing blocks.
use Rattle.std.specs.Prelude.{◌⊎◌, ℕ, ◌+◌, ◌-◌, ◌<◌, ◌≤◌, nat_eq, nat_le, nat_lt, if◌then◌else◌, List, [], ◌∷◌, Option, Some, None}

-- a hole: the index of its first cell, and the number of its cells
abbrev pub Hole : Type 0
Hole = ℕ × ℕ

-- These are holes from one index up to another, in rising order: none is empty, and none overlaps or touches the next one.
abbrev pub AreHoles : ℕ → ℕ → List Hole → Type 0
AreHoles from to [] = Unit {0}
AreHoles from to (h ∷ hs) = (from ≤ h.0) × (0 < h.1) × (h.0 + h.1 ≤ to) × AreHoles (h.0 + h.1 + 1) to hs

-- The cell is allocated: it is in none of these holes.
abbrev pub IsOut : ℕ → List Hole → Type 0
IsOut cell [] = Unit {0}
IsOut cell (h ∷ hs) = ((cell < h.0) ⊎ (h.0 + h.1 ≤ cell)) × IsOut cell hs

abbrev pub free_cells : List Hole → ℕ
free_cells [] = 0
free_cells (h ∷ hs) = h.1 + free_cells hs

-- ---- taking

-- the first cell of the lowest hole of at least n cells
abbrev pub first_fit : ℕ → List Hole → Option ℕ
first_fit n [] = None
first_fit n (h ∷ hs) = if nat_le n h.1 then Some h.0 else first_fit n hs

-- the holes from h on, where h loses its first n cells
abbrev pub shortened : ℕ → Hole → List Hole → List Hole
shortened n h hs = if nat_eq h.1 n then hs else (h.0 + n, h.1 - n) ∷ hs

-- the holes without the n cells at the front of the lowest hole that has n cells
abbrev pub taken : ℕ → List Hole → List Hole
taken n [] = []
taken n (h ∷ hs) = if nat_le n h.1 then shortened n h hs else h ∷ taken n hs

-- ---- freeing

-- a hole before others; it and the first of them become one hole where they touch
abbrev pub joined : Hole → List Hole → List Hole
joined b [] = b ∷ []
joined b (h ∷ hs) = if nat_eq (b.0 + b.1) h.0 then (b.0, b.1 + h.1) ∷ hs else b ∷ h ∷ hs

-- the holes and the cells of block b; the cells and the adjacent holes become one hole
abbrev pub given : Hole → List Hole → List Hole
given b [] = b ∷ []
given b (h ∷ hs) =
    if nat_lt b.0 h.0 then joined b (h ∷ hs) else (if nat_eq (h.0 + h.1) b.0 then joined (h.0, h.1 + b.1) hs else h ∷ given b hs)
