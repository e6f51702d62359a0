use Rattle.std.proofs.Common.{◌≡◌, ℕ, if◌then◌else◌, take}
use Rattle.std.specs.List.{list_any}
use Rattle.hep_races.specs.declared.storage_unit.StorageUnit.{StorageUnit}
use Rattle.hep_races.specs.Observed.{unit_eq}
use Rattle.hep_races.specs.Vectors.{clock_in, clock_of_unit}
use Rattle.hep_races.proofs.clocks.leave_all.Given as goal

abbrev pub invariant-loop-unit : goal.invariant-loop-unit
invariant-loop-unit l =
    (at : StorageUnit) (q : ℕ) → clock_of_unit l.units at q
    ≡ (if list_any (λ (u : StorageUnit). unit_eq u at) (take l.unit-index l.changes)
    then clock_in l.clock q
    else clock_of_unit l.fn.units at q)
