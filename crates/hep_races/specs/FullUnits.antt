-- The full storage units that a PURGE names, by their cells: docs/LANGUAGE.md, 9, and docs/MACHINE.md, "The order of steps".
use Rattle.std.specs.Prelude.{◌≡◌, ℕ, ◌+◌, ◌<◌, List, map}
use Rattle.std.specs.List.{filter}
use Rattle.hep_accesses.specs.Accesses.{locations_from}
use Rattle.hep_machine.specs.Words.{Location, State, Units, further}
use Rattle.hep_state.specs.declared.core_state.CoreState.{CoreState}
use Rattle.hep_step.specs.declared.closed_range.ClosedRange.{ClosedRange}
use Rattle.hep_views.specs.CellOwners.{IsSought}
use Rattle.hep_views.specs.ListedProcesses.{place_of}
use Rattle.hep_views.specs.declared.place.Place.{Place}

-- storage units that follow one another are in the cells of a range, each of COMMON, of the activation whose node is under a key, or of
-- one above that
pub record AreUnitsAt (program : Units) (cells : ℕ) (choices : List ℕ) (m : CoreState) (key : ℕ) (range : ClosedRange)
    (units : List Location) : Type 0 where
  pub start : Location
  pub listed : units ≡ locations_from range.cells start
  pub sought : (k : ℕ) → k < range.cells → IsSought program cells choices m key (range.first + k) (further start k)

-- the places of those that are full
abbrev pub full_places : Units → State → List Location → List Place
full_places program s units = map (place_of program s) (filter (λ at. (s.store at).full) units)
