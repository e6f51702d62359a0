-- The names that a run has for storage units and sites: docs/MACHINE.md, "The order of steps".
use Rattle.std.specs.Prelude.{◌≡◌, ℕ, ◌<◌, List, length, Some, slice_get}
use Rattle.hep_accesses.specs.Accesses.{Site}
use Rattle.hep_machine.specs.Words.{Location, State, Units}
use Rattle.hep_views.specs.ListedProcesses.{place_of}
use Rattle.hep_views.specs.declared.place.Place.{Place}
use Rattle.hep_races.specs.Renamings.{Renaming}
use Rattle.hep_races.specs.StoragePlaces.{IsThere}
use Rattle.hep_races.specs.declared.step_access.AccessSite.{AccessSite}
use Rattle.hep_races.specs.declared.storage_unit.StorageUnit.{StorageUnit}

abbrev pub unit_of_place : Place → StorageUnit
unit_of_place p = record { owner = p.owner; name = p.name; element = p.element }

abbrev pub site_in : Site → AccessSite
site_in a = record { unit = a.unit; line = a.line; name = a.name }

-- the numbers of its place in a state
abbrev pub IsNameOf : Units → State → Location → StorageUnit → Type 0
IsNameOf program s at u = IsThere program s at × (u ≡ unit_of_place (place_of program s at))

-- a run to this state has the numbers of places as names of storage units, and the indexes of these sites as names of sites
abbrev pub run_names : Units → State → List AccessSite → Renaming Location StorageUnit Site ℕ
run_names program s sites =
    record {
      needed = IsNameOf program s;
      unit = IsNameOf program s;
      site = λ a n. (slice_get sites n ≡ Some (site_in a)) × (a.unit < length program);
    }

-- no site has two numbers
abbrev pub AreUnique : List AccessSite → Type 0
AreUnique sites = (n m : ℕ) (x : AccessSite) → slice_get sites n ≡ Some x → slice_get sites m ≡ Some x → n ≡ m
