-- The races of one access with the latest ones at its storage unit: docs/MACHINE.md, "The order of steps".
use Rattle.std.specs.Prelude.{ℕ, Bool, ◌&&◌, not, nat_eq, List, map}
use Rattle.std.specs.List.{list_any}
use Rattle.hep_accesses.specs.Clocks.{Clock}
use Rattle.hep_accesses.specs.Detector.{is_racing_by_clock, racing_by_clock}
use Rattle.hep_accesses.specs.Races.{Row as ARow, from_same_site, with_pairs}
use Rattle.hep_races.specs.declared.event.StepAccess.{StepAccess}
use Rattle.hep_races.specs.declared.storage_unit.StorageUnit.{StorageUnit}
use Rattle.hep_races.specs.Observed.{step_access_in, unit_eq}

-- they are from the same site
abbrev pub share_site : StepAccess → StepAccess → Bool
share_site d f = from_same_site nat_eq (step_access_in d) (step_access_in f)

module _ (clock : Clock) (y : StepAccess) where
  -- an earlier access races with y, by the clock before the step of y
  abbrev pub is_race : StepAccess → Bool
  is_race d = is_racing_by_clock unit_eq nat_eq clock (step_access_in y) (step_access_in d)

  -- one of these accesses is from the site of d and races with y
  abbrev pub has_race_from : StepAccess → List StepAccess → Bool
  has_race_from d later = list_any (λ (w : StepAccess). is_race w && share_site w d) later

  -- an earlier access races with y, and none of these later ones that do is from its site
  abbrev pub is_latest_race : List StepAccess → StepAccess → Bool
  is_latest_race later d = is_race d && not (has_race_from d later)

  -- the rows with the races of y among these accesses
  abbrev pub rows_with_races : List StepAccess → List (ARow StorageUnit ℕ) → List (ARow StorageUnit ℕ)
  rows_with_races ds rows =
      with_pairs nat_eq (step_access_in y) (racing_by_clock unit_eq nat_eq clock (step_access_in y) (map step_access_in ds)) rows
