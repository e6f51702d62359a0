-- The steps of a run, as the detector reads them, as events: docs/MACHINE.md, "The order of steps".
use Rattle.std.specs.Prelude.{ℕ, Bool, ◌&&◌, nat_eq, map}
use Rattle.std.specs.List.{list_any}
use Rattle.hep_accesses.specs.Events.{Access as AnAccess, Event as AnEvent}
use Rattle.hep_accesses.specs.Races.{Row as ARow, StepAccess as AStepAccess}
use Rattle.hep_races.specs.declared.event.Access.{Access}
use Rattle.hep_races.specs.declared.event.StepAccess.{StepAccess}
use Rattle.hep_races.specs.declared.event.StepEvent.{StepEvent}
use Rattle.hep_races.specs.declared.rows.Row.{Row}
use Rattle.hep_races.specs.declared.storage_unit.StorageUnit.{StorageUnit}

-- the test of `==`, by which tables look storage units up
abbrev pub unit_eq : StorageUnit → StorageUnit → Bool
unit_eq v w = nat_eq v.owner w.owner && (nat_eq v.name w.name && nat_eq v.element w.element)

abbrev pub access_in : Access → AnAccess StorageUnit ℕ
access_in a = record { at = a.at; stores = a.stores; site = a.site }

abbrev pub step_access_in : StepAccess → AStepAccess StorageUnit ℕ
step_access_in d = record { step = d.step; process = d.process; access = access_in d.access }

abbrev pub row_in : Row → ARow StorageUnit ℕ
row_in r = record { first = step_access_in r.first; second = step_access_in r.second; times = r.times }

-- the event that a step is
abbrev pub event_in : StepEvent → AnEvent StorageUnit ℕ
event_in e =
    record {
      process = e.process;
      makes = e.makes;
      needs = e.needs;
      changes = λ at. list_any (λ (u : StorageUnit). unit_eq u at) e.changes.now;
      accesses = map access_in e.accesses.now;
    }
