use Rattle.std.proofs.Common.{◌++◌, ◌∷◌, [], List, refl, subst, sym}
use Rattle.hep_races.proofs.RenamedSteps.{numbered-later, zipped-last}
use Rattle.hep_races.proofs.race_observer.append_access.Goals as goal
use Rattle.hep_races.specs.ObservedRuns.{AreNumbered, IsNumbered}
use Rattle.hep_races.specs.declared.event.Access.{Access}
use Rattle.hep_races.specs.declared.step_access.AccessSite.{AccessSite}

pub returns-clause-numbered : goal.returns-clause-numbered
returns-clause-numbered c xs h =
    let a = c.args.access.now in
    let old = c.args.numbered.now.items in
    let kept = c.in_ok-site.ensures.kept in
    subst (λ (ns : List Access). AreNumbered c.number.new.self (xs ++ a ∷ []) ns) (sym c.in_ok-push.ensures.items) (
    zipped-last (IsNumbered c.number.new.self) xs old a (record { at = c.unit_of.result; stores = a.stores; site = c.in_ok-site.site }) (
    subst (λ (s : List AccessSite). AreNumbered s xs old) (sym kept.1) (numbered-later c.args.sites.now kept.0 xs old h)) (
    record { at = c.unit_of.ensures; stores = refl; site = c.in_ok-site.ensures.numbered }))
