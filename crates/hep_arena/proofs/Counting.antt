-- How many cells are free.
use Rattle.std.proofs.Common.{◌≡◌, ℕ, ◌+◌, ◌≤◌, List, [], ◌∷◌, Some, refl, arith}
use Rattle.std.proofs.lemmas.Bool.Decides.{nat_tests}
use Rattle.std.proofs.lemmas.Option.{none-some}
use Rattle.hep_arena.specs.Holes.{Hole, AreHoles, first_fit, free_cells, given, joined, taken}

joined-cells : (b : Hole) (hs : List Hole) → free_cells (joined b hs) ≡ b.1 + free_cells hs
joined-cells b [] = refl
joined-cells b (h ∷ hs) = grind arith

pub given-cells : (at n : ℕ) (hs : List Hole) → free_cells (given (at, n) hs) ≡ n + free_cells hs
given-cells at n [] = refl
given-cells at n (h ∷ hs) = grind (arith, given-cells at n hs, joined-cells (at, n) (h ∷ hs), joined-cells (h.0, h.1 + n) hs)

pub taken-cells : (n at : ℕ) (hs : List Hole) → first_fit n hs ≡ Some at → free_cells (taken n hs) + n ≡ free_cells hs
taken-cells n at [] e = absurd (none-some at e)
taken-cells n at (h ∷ hs) e = grind (arith, nat_tests, taken-cells n at hs)

free-up_to : (low high : ℕ) (hs : List Hole) → low ≤ high + 1 → AreHoles low high hs → low + free_cells hs ≤ high + 1
free-up_to low high [] le t = omega arith
free-up_to low high (h ∷ hs) le t = omega (arith, t.0, t.2, free-up_to (h.0 + h.1 + 1) high hs (omega (arith, t.2)) t.3)

-- no more cells are free than there are
pub free-few : (high : ℕ) (hs : List Hole) → AreHoles 0 high hs → free_cells hs ≤ high
free-few high [] t = omega arith
free-few high (h ∷ hs) t = omega (arith, t.0, t.2, free-up_to (h.0 + h.1 + 1) high hs (omega (arith, t.2)) t.3)
