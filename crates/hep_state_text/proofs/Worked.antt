-- Worked lines of variables.
use Rattle.std.proofs.Common.{◌≡◌, ℕ, pos, negsuc, true, false, [], ◌∷◌, Some, None, refl, codes, replicate, ◌++◌}
use Rattle.std.specs.Fmt.{digits}
use Rattle.hep_machine.specs.Words.{Bounds, Int, Truth}
use Rattle.hep_machine.specs.declared.slot.Slot.{Slot}
use Rattle.hep_state_text.specs.Contents.{variable_text}

-- cells of a plain variable, and of an asynchronous one
plain : ℕ → Slot
plain n = record { value = Some (Int (pos n)); full = false }

full : ℕ → Slot
full n = record { value = Some (Int (pos n)); full = true }

unset : Slot
unset = record { value = None; full = false }

-- A(3), and B(-1:0,2)
row : Bounds
row = record { lower = pos 1; upper = Some (pos 3) } ∷ []

table : Bounds
table = record { lower = negsuc 0; upper = Some (pos 0) } ∷ record { lower = pos 1; upper = Some (pos 2) } ∷ []

-- ---- scalars

scalar : variable_text (codes "N") false [] (plain 5 ∷ []) ≡ codes "  N = 5\n"
unfolding digits plain
scalar = refl

nothing_stored : variable_text (codes "N") false [] (unset ∷ []) ≡ codes "  N = UNDEFINED\n"
unfolding unset
nothing_stored = refl

filled : variable_text (codes "$N") true [] (full 5 ∷ []) ≡ codes "  $N = 5 FULL\n"
unfolding digits full
filled = refl

-- a read leaves the value
emptied : variable_text (codes "$N") true [] (plain 5 ∷ []) ≡ codes "  $N = 5 EMPTY\n"
unfolding digits plain
emptied = refl

truth : variable_text (codes "L") false [] (record { value = Some (Truth true); full = false } ∷ []) ≡ codes "  L = T\n"
truth = refl

-- ---- arrays

all_alike : variable_text (codes "A") false row (replicate 3 (plain 0)) ≡ codes "  A(1..3) = 0\n"
unfolding digits plain row
all_alike = refl

one_apart : variable_text (codes "A") false row (plain 0 ∷ plain 7 ∷ unset ∷ []) ≡ codes "  A(1) = 0\n  A(2) = 7\n  A(3) = UNDEFINED\n"
unfolding digits plain unset row
one_apart = refl

-- by columns: the first subscript goes fastest
by_columns : variable_text (codes "B") false table (plain 1 ∷ replicate 2 (plain 0) ++ plain 9 ∷ []) ≡ codes "  B(-1,1) = 1\n  B(0,1)..(-1,2) = 0\n  B(0,2) = 9\n"
unfolding digits plain table
by_columns = refl

-- cells that hold the same value, and aren't as full, are no run
as_full : variable_text (codes "$A") true row (full 1 ∷ plain 1 ∷ plain 1 ∷ []) ≡ codes "  $A(1) = 1 FULL\n  $A(2..3) = 1 EMPTY\n"
unfolding digits plain full row
as_full = refl
