-- The units of a program, as they are read.
use Rattle.std.proofs.Common.{◌≡◌, ℕ, zero, suc, ◌<◌, List, [], ◌∷◌, length, get_or, refl, arith}
use Rattle.hep_machine.specs.Words.{Units, unit_at, Statement}

-- the unit that is read at an index
pub unit-read : (program : Units) (u : ℕ) (d : List Statement) → u < length program → get_or program u d ≡ unit_at program u
unit-read [] u d h = absurd (omega (arith, h))
unit-read (v ∷ us) zero d h = refl
unit-read (v ∷ us) (suc u) d h = unit-read us u d (omega (arith, h))
