-- Vector clocks in vectors: docs/MACHINE.md, "The order of steps".
use Rattle.std.specs.Prelude.{ℕ, List, get_or, Option, Some, None, slice_get}
use Rattle.std.specs.Global.{Vec}
use Rattle.indexmap.specs.IndexMap.{IndexMap, get}
use Rattle.hep_accesses.specs.Clocks.{Clock, Clocks as AllClocks, zero_clock}
use Rattle.hep_races.specs.declared.clocks.Clocks.{Clocks}
use Rattle.hep_races.specs.declared.storage_unit.StorageUnit.{StorageUnit}
use Rattle.hep_races.specs.Observed.{unit_eq}

-- by the number of a process; one beyond the end has 0
abbrev pub clock_in : List ℕ → Clock
clock_in xs p = get_or xs p 0

-- the clock in a vector; where there is none, it knows no step
abbrev pub clock_from : Option (Vec ℕ) → Clock
clock_from None = zero_clock
clock_from (Some v) = clock_in v.items

-- that of process p is at p
abbrev pub clock_of_process : List (Vec ℕ) → ℕ → Clock
clock_of_process vs p = clock_from (slice_get vs p)

-- that of a full/empty storage unit is under it
abbrev pub clock_of_unit : {H : Type 0} → IndexMap StorageUnit (Vec ℕ) H → StorageUnit → Clock
clock_of_unit table at = clock_from (get unit_eq table at)

abbrev pub clocks_in : Clocks → AllClocks StorageUnit
clocks_in x = record { of_process = clock_of_process x.processes.items; of_location = clock_of_unit x.units }
