use Rattle.std.proofs.Common.{subst}
use Rattle.hep_event.specs.Sites.{IsSiteAfter}
use Rattle.hep_event.proofs.FoundVariables.{site-out}
use Rattle.hep_races.proofs.step_event.is_full.Goals as goal

pub get-requires-clause-inside : goal.get-requires-clause-inside
get-requires-clause-inside c =
    (site-out c.requires.0 c.requires.1 c.requires.2 c.args.machine.now c.in-Some.site c.requires.3 (
    subst (λ o. IsSiteAfter c.requires.0 c.requires.1 c.requires.2 c.args.machine.now o c.requires.3) c.in-Some.is c.requires.4)).0

pub get-requires-clause-out : goal.get-requires-clause-out
get-requires-clause-out c =
    (site-out c.requires.0 c.requires.1 c.requires.2 c.args.machine.now c.in-Some.site c.requires.3 (
    subst (λ o. IsSiteAfter c.requires.0 c.requires.1 c.requires.2 c.args.machine.now o c.requires.3) c.in-Some.is c.requires.4)).1
