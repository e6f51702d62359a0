-- How many cells the frame of each unit of a program has, in a list.
use Rattle.std.proofs.Common.{◌≡◌, ℕ, zero, suc, ◌<◌, List, [], ◌∷◌, map, length, get_or, refl, ap, ◌∙◌, arith, slice_get}
use Rattle.std.specs.Option.{unwrap_or}
use Rattle.hep_machine.specs.Words.{Units, unit_at, frame_cells}

pub frames-length : (frames : List ℕ) (program : Units) → frames ≡ map frame_cells program → length frames ≡ length program
frames-length frames program e = ap length e ∙ mapped program
  where
    mapped : (us : Units) → length (map frame_cells us) ≡ length us
    mapped [] = refl
    mapped (u ∷ us) = ap suc (mapped us)

pub frame-at : (frames : List ℕ) (program : Units) (u : ℕ) → frames ≡ map frame_cells program → u < length program → get_or frames u 0 ≡ frame_cells (unit_at program u)
frame-at frames program u e lt = ap (λ ns. get_or ns u 0) e ∙ mapped program u lt
  where
    mapped : (us : Units) (k : ℕ) → k < length us → get_or (map frame_cells us) k 0 ≡ frame_cells (unwrap_or (slice_get us k) [])
    mapped [] k h = absurd (omega (arith, h))
    mapped (v ∷ us) zero h = refl
    mapped (v ∷ us) (suc k) h = mapped us k (omega (arith, h))
