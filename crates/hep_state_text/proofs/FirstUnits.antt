-- The unit in which a block is longest.
use Rattle.std.proofs.Common.{◌≡◌, ℕ, List, [], ◌∷◌, nat_eq, Bool, true, if◌then◌else◌, ap, slice_get, Some, Option}
use Rattle.std.specs.Option.{unwrap_or}
use Rattle.hep_machine.specs.Words.{BlockName, Statement, Units, cells_of_all, names_in_block, unit_at}
use Rattle.hep_state_text.specs.States.{first_with}

pub unit-is : (program : Units) (u : ℕ) (unit : List Statement) → slice_get program u ≡ Some unit → unit_at program u ≡ unit
unit-is program u unit e = ap (λ (o : Option (List Statement)). unwrap_or o []) e

abbrev length_in : BlockName → List Statement → ℕ
length_in b unit = cells_of_all unit (names_in_block unit b)

-- one that is as long as asked for is the first one
pub longest-here : (b : BlockName) (n : ℕ) (unit : List Statement) (units : Units) → nat_eq (length_in b unit) n ≡ true → first_with n b (unit ∷ units) ≡ unit
longest-here b n unit units t = ap (λ (z : Bool). if z then unit else first_with n b units) t
