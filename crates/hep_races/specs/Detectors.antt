-- What a detector has observed: docs/MACHINE.md, "The order of steps".
use Rattle.std.specs.Prelude.{◌≡◌, ◌<◌, ℕ, Bool, nat_eq, List, [], ◌∷◌}
use Rattle.std.specs.List.{AllByRecursion}
use Rattle.hep_accesses.specs.Clocks.{zero_clocks}
use Rattle.hep_accesses.specs.Detector.{Detector as ADetector, detector_after}
use Rattle.hep_accesses.specs.Events.{Event as AnEvent}
use Rattle.hep_accesses.specs.Races.{Row as ARow}
use Rattle.hep_races.specs.declared.detector.Detector.{Detector}
use Rattle.hep_races.specs.declared.storage_unit.StorageUnit.{StorageUnit}
use Rattle.hep_races.specs.Observed.{unit_eq}
use Rattle.hep_races.specs.Tables.{detector_with}
use Rattle.hep_races.specs.Vectors.{clocks_in}

abbrev pub empty_detector : {L S : Type 0} → ADetector L S
empty_detector = record { clocks = zero_clocks; table = λ at. []; rows = [] }

module _ {L S : Type 0} (same : L → L → Bool) (alike : S → S → Bool) where
  -- after some steps of a run, each with its number
  unfoldable pub detector_along : ADetector L S → List (ℕ × AnEvent L S) → ADetector L S
  detector_along x [] = x
  detector_along x (e ∷ es) = detector_along (detector_after same alike e.0 x e.1) es

  -- the rows of these steps alone
  abbrev pub rows_along : List (ℕ × AnEvent L S) → List (ARow L S)
  rows_along es = (detector_along empty_detector es).rows

abbrev pub NumberedEvents : Type 0
NumberedEvents = List (ℕ × AnEvent StorageUnit ℕ)

-- of the first n steps of a run it has observed just these, and passed over the others
pub record IsDetectorOf (n : ℕ) (es : NumberedEvents) (d : Detector) : Type 0 where
  pub steps : d.steps ≡ n
  pub same : detector_with (clocks_in d.clocks) d.table ≡ detector_along unit_eq nat_eq empty_detector es
  pub earlier : AllByRecursion (λ (e : ℕ × AnEvent StorageUnit ℕ). e.0 < n) es
