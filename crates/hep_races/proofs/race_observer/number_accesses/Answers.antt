use Rattle.std.proofs.Common.{◌++◌, [], List, subst, sym}
use Rattle.std.specs.Option.{option_to_list}
use Rattle.hep_races.proofs.race_observer.number_accesses.Goals as goal
use Rattle.hep_races.specs.ObservedRuns.{AreNumbered}
use Rattle.hep_races.specs.declared.event.Access.{Access}
use Rattle.hep_races.specs.declared.step_access.SitedAccess.{SitedAccess}

pub returns-clause-numbered : goal.returns-clause-numbered
returns-clause-numbered c =
    let named = option_to_list c.args.step.now.access in
    let start = subst (λ (ns : List Access). AreNumbered c.args.sites.now [] ns) (sym c.clear.ensures.items) tt in
    subst (λ (xs : List SitedAccess). AreNumbered c.append_accesses.new.sites (named ++ xs) c.append_accesses.new.numbered.items)
    c.deref.ensures.value (
    c.in_ok-append_accesses.ensures.numbered named (c.in_ok-append_named.ensures.numbered [] start))
