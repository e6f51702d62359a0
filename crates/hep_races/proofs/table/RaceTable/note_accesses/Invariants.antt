use Rattle.std.proofs.Common.{◌≡◌, drop, map, nat_eq}
use Rattle.hep_accesses.specs.Clocks.{Clocks as AllClocks}
use Rattle.hep_accesses.specs.Detector.{detector_after_accesses}
use Rattle.hep_races.specs.declared.storage_unit.StorageUnit.{StorageUnit}
use Rattle.hep_races.specs.Observed.{access_in, unit_eq}
use Rattle.hep_races.specs.Tables.{detector_with}
use Rattle.hep_races.specs.Vectors.{clock_in}
use Rattle.hep_races.proofs.table.RaceTable.note_accesses.Given as goal

abbrev pub invariant-loop-access : goal.invariant-loop-access
invariant-loop-access l =
    (x : AllClocks StorageUnit) → detector_after_accesses unit_eq nat_eq (clock_in l.clock) l.step l.process
    (map access_in (drop l.access-index l.accesses)) (detector_with x l.self)
    ≡ detector_after_accesses unit_eq nat_eq (clock_in l.clock) l.step l.process (map access_in l.accesses) (detector_with x l.fn.self)
