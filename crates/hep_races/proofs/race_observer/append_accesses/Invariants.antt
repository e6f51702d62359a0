use Rattle.std.proofs.Common.{◌≡◌, ◌++◌, List, take}
use Rattle.hep_races.specs.ObservedRuns.{AreNumbered}
use Rattle.hep_races.specs.declared.step_access.AccessSite.{AccessSite}
use Rattle.hep_races.specs.declared.step_access.SitedAccess.{SitedAccess}
use Rattle.hep_races.proofs.race_observer.append_accesses.Given as goal

abbrev pub invariant-loop-access : goal.invariant-loop-access
invariant-loop-access l =
    record {
      numbered : (xs : List SitedAccess) → AreNumbered l.initial.sites xs l.initial.numbered.items
          → AreNumbered l.sites (xs ++ take l.access-index l.accesses) l.numbered.items;
      kept : (more : List AccessSite) × (l.sites ≡ l.initial.sites ++ more);
    }
