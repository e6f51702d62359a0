-- The common beginning of the lists of a common block in several units: X3.9-1978, 8.3.
use Rattle.std.specs.Prelude.{◌≡◌, Bool, true, false, not, ◌&&◌, ◌||◌, if◌then◌else◌, List, [], ◌∷◌}
use Rattle.hep_machine.specs.Words.{is_nonempty}
use Rattle.hep_storage.specs.Runs.{alike, positions_in, IsPlace, front, rest}
use Rattle.hep_storage.specs.declared.shared_prefix.Comparison.{Comparison}
use Rattle.hep_storage.specs.declared.shared_prefix.Comparison.TheVariants.{Parted, Within, Beyond}
use Rattle.hep_storage.specs.declared.runs.Position.{Position}
use Rattle.hep_storage.specs.declared.runs.PositionRun.{PositionRun}

-- the positions up to which several lists agree; where these are cut, two of the lists differ after them
pub record InCommon : Type 0 where
  pub positions : List Position
  pub is_cut : Bool

-- whether a list differs from one of the lists at a position that both have
abbrev pub departs : Bool → List Position → List Position → Bool
departs cut [] [] = false
departs cut [] (q ∷ qs) = cut
departs cut (p ∷ ps) [] = false
departs cut (p ∷ ps) (q ∷ qs) = not (alike p q) || departs cut ps qs

abbrev pub with_position : Position → InCommon → InCommon
with_position p c = record { positions = p ∷ c.positions; is_cut = c.is_cut }

-- the common beginning with one more list
abbrev pub in_common : Bool → List Position → List Position → InCommon
in_common cut [] qs = if cut then record { positions = []; is_cut = true } else record { positions = qs; is_cut = false }
in_common cut (p ∷ ps) [] = record { positions = p ∷ ps; is_cut = cut }
in_common cut (p ∷ ps) (q ∷ qs) = if alike p q then with_position p (in_common cut ps qs) else record { positions = []; is_cut = true }

-- The result is the comparison of a list with the common beginning of several lists. It determines whether the list differs, and the
-- common beginning with it.
abbrev pub Compares : List PositionRun → List PositionRun → Comparison → Type 0
Compares rs qs (Parted p) =
    IsPlace p rs
    × ((cut : Bool) → departs cut (positions_in rs) (positions_in qs) ≡ true)
    × ((cut : Bool) → in_common cut (positions_in rs) (positions_in qs) ≡ record { positions = front p rs; is_cut = true })
Compares rs qs Within =
    ((cut : Bool) → departs cut (positions_in rs) (positions_in qs) ≡ false)
    × ((cut : Bool) → in_common cut (positions_in rs) (positions_in qs) ≡ record { positions = positions_in rs; is_cut = cut })
Compares rs qs (Beyond q) =
    IsPlace q qs
    × ((cut : Bool) → departs cut (positions_in rs) (positions_in qs) ≡ (cut && is_nonempty (rest q qs)))
    × ((cut : Bool) → in_common cut (positions_in rs) (positions_in qs)
    ≡ (if cut then record { positions = positions_in rs; is_cut = true } else record { positions = positions_in qs; is_cut = false }))
