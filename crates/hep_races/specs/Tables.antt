-- The tables of the detector: docs/MACHINE.md, "The order of steps".
use Rattle.std.specs.Prelude.{ℕ, List, [], map, Option, Some, None}
use Rattle.std.specs.Global.{Vec}
use Rattle.indexmap.specs.IndexMap.{IndexMap, get}
use Rattle.hep_accesses.specs.Clocks.{Clocks as AllClocks}
use Rattle.hep_accesses.specs.Detector.{Detector as ADetector}
use Rattle.hep_accesses.specs.Races.{StepAccess as AStepAccess}
use Rattle.hep_races.specs.declared.event.StepAccess.{StepAccess}
use Rattle.hep_races.specs.declared.storage_unit.StorageUnit.{StorageUnit}
use Rattle.hep_races.specs.declared.table.RaceTable.{RaceTable}
use Rattle.hep_races.specs.Observed.{row_in, step_access_in, unit_eq}

-- the accesses in a list, if there is one
abbrev pub accesses_from : Option (Vec StepAccess) → List (AStepAccess StorageUnit ℕ)
accesses_from None = []
accesses_from (Some v) = map step_access_in v.items

-- the latest accesses at a storage unit
abbrev pub accesses_at : {H : Type 0} → IndexMap StorageUnit (Vec StepAccess) H → StorageUnit → List (AStepAccess StorageUnit ℕ)
accesses_at table at = accesses_from (get unit_eq table at)

-- with these clocks
abbrev pub detector_with : AllClocks StorageUnit → RaceTable → ADetector StorageUnit ℕ
detector_with x t = record { clocks = x; table = accesses_at t.latest; rows = map row_in t.rows }
