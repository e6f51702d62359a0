-- The representation of holes: a number for each cell, which is the length of the hole that begins there or 0, and the first cell of the
-- last hole.
use Rattle.std.specs.Prelude.{◌≡◌, ℕ, suc, ◌+◌, ◌-◌, ◌≤◌, nat_eq, nat_lt, if◌then◌else◌, List, [], ◌∷◌, ◌++◌, length}
use Rattle.hep_machine.specs.declared.slot.Slot.{Slot}
use Rattle.hep_arena.specs.declared.holes.Holes.{Holes}
use Rattle.hep_arena.specs.Holes.{Hole, AreHoles, free_cells}
use Rattle.hep_arena.specs.Space.{Space}

-- the holes that these numbers represent, where the first number is that of cell n
abbrev pub holes_from : ℕ → List ℕ → List Hole
holes_from n [] = []
holes_from n (x ∷ xs) = if nat_lt 0 x then (n, x) ∷ holes_from (suc n) xs else holes_from (suc n) xs

-- the hole of all cells from an index on, if there are any
abbrev pub hole_from : ℕ → ℕ → List Hole
hole_from at cells = if nat_lt at cells then (at, cells - at) ∷ [] else []

abbrev pub lower_holes : Holes → List Hole
lower_holes holes = holes_from 0 holes.lengths

abbrev pub holes_of : Holes → List Hole
holes_of holes = lower_holes holes ++ hole_from holes.limit (length holes.lengths)

-- The limit is within the arena, and the holes below it don't touch it.
pub record IsLimited (holes : Holes) : Type 0 where
  pub inside : holes.limit ≤ length holes.lengths
  pub lower : AreHoles 0 (holes.limit - 1) (lower_holes holes)

-- the first cell of the hole that ends at an index; the index itself where no hole ends there
abbrev pub start_at : ℕ → List Hole → ℕ
start_at at [] = at
start_at at (h ∷ hs) = if nat_eq (h.0 + h.1) at then h.0 else start_at at hs

abbrev pub space_of : List Slot → Holes → Space
space_of slots holes = record { contents = slots; holes = holes_of holes }

-- the invariant of an arena
pub record IsArena (slots : List Slot) (holes : Holes) (used : ℕ) : Type 0 where
  pub cells : length holes.lengths ≡ length slots
  pub few : length slots ≤ 16777216
  pub limited : IsLimited holes
  pub counted : used + free_cells (holes_of holes) ≡ length slots
