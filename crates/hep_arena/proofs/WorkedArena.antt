-- Worked rows: an arena of 10 cells.
use Rattle.std.specs.Prelude.{◌≡◌, ◌+◌, [], ◌∷◌, Some, None, refl}
use Rattle.hep_arena.specs.Holes.{first_fit, free_cells, given, taken}

-- three blocks are taken, of 3, 4 and 2 cells: where they are, what is left, and how many cells are in use then
three_taken : (first_fit 3 ((0, 10) ∷ []) ≡ Some 0) × (taken 3 ((0, 10) ∷ []) ≡ (3, 7) ∷ [])
three_taken = (refl, refl)

four_taken : (first_fit 4 ((3, 7) ∷ []) ≡ Some 3) × (taken 4 ((3, 7) ∷ []) ≡ (7, 3) ∷ [])
four_taken = (refl, refl)

two_taken : (first_fit 2 ((7, 3) ∷ []) ≡ Some 7) × (taken 2 ((7, 3) ∷ []) ≡ (9, 1) ∷ []) × (9 + free_cells ((9, 1) ∷ []) ≡ 10)
two_taken = (refl, refl, refl)

-- the second is given back
four_given : (given (3, 4) ((9, 1) ∷ []) ≡ (3, 4) ∷ (9, 1) ∷ []) × (5 + free_cells ((3, 4) ∷ (9, 1) ∷ []) ≡ 10)
four_given = (refl, refl)

-- there is no hole of 5 cells yet, and then the first is given back, which touches the hole after it
no_five : (first_fit 5 ((3, 4) ∷ (9, 1) ∷ []) ≡ None) × (taken 5 ((3, 4) ∷ (9, 1) ∷ []) ≡ (3, 4) ∷ (9, 1) ∷ [])
no_five = (refl, refl)

three_given : (given (0, 3) ((3, 4) ∷ (9, 1) ∷ []) ≡ (0, 7) ∷ (9, 1) ∷ []) × (2 + free_cells ((0, 7) ∷ (9, 1) ∷ []) ≡ 10)
three_given = (refl, refl)

five_taken : (first_fit 5 ((0, 7) ∷ (9, 1) ∷ []) ≡ Some 0) × (taken 5 ((0, 7) ∷ (9, 1) ∷ []) ≡ (5, 2) ∷ (9, 1) ∷ []) × (7 + free_cells ((5, 2) ∷ (9, 1) ∷ []) ≡ 10)
five_taken = (refl, refl, refl)

-- both are given back, in either order: the one touches the holes on both sides
all_given : (given (7, 2) ((5, 2) ∷ (9, 1) ∷ []) ≡ (5, 5) ∷ []) × (given (0, 5) ((5, 5) ∷ []) ≡ (0, 10) ∷ []) × (given (7, 2) (given (0, 5) ((5, 2) ∷ (9, 1) ∷ [])) ≡ (0, 10) ∷ []) × (0 + free_cells ((0, 10) ∷ []) ≡ 10)
all_given = (refl, refl, refl, refl)
