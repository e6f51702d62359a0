use Rattle.std.proofs.Common.{subst}
use Rattle.hep_event.specs.Sites.{IsSiteAfter}
use Rattle.hep_diff.proofs.SiteValues.{found-there}
use Rattle.hep_diff.proofs.cell_reading.found_at.Goals as goal
use Rattle.hep_event.proofs.FoundVariables.{site-out}

pub get-requires-clause-inside : goal.get-requires-clause-inside
get-requires-clause-inside c =
    (site-out c.requires.0 c.requires.1 c.requires.2 c.args.machine.now c.in-Some.site c.requires.3 (subst (λ o. IsSiteAfter c.requires.0 c.requires.1 c.requires.2 c.args.machine.now o c.requires.3) c.in-Some.is c.requires.4)).0

pub get-requires-clause-out : goal.get-requires-clause-out
get-requires-clause-out c =
    (site-out c.requires.0 c.requires.1 c.requires.2 c.args.machine.now c.in-Some.site c.requires.3 (subst (λ o. IsSiteAfter c.requires.0 c.requires.1 c.requires.2 c.args.machine.now o c.requires.3) c.in-Some.is c.requires.4)).1

pub returns-in-Some : goal.returns-in-Some
returns-in-Some c program cells choices at h =
    found-there program cells choices c.args.machine.now c.in-Some.site c.args.function at (subst (λ o. IsSiteAfter program cells choices c.args.machine.now o at) c.in-Some.is h)
    c.get.result c.answer_of.result c.get.ensures.unit c.answer_of.ensures
