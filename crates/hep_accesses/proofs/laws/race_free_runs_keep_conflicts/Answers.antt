use Rattle.std.proofs.Common.{◌≡◌, true}
use Rattle.hep_machine.specs.Words.{same_location}
use Rattle.hep_accesses.proofs.Reordered.{conflicts-kept}
use Rattle.hep_accesses.specs.Accesses.{same_site}
use Rattle.hep_accesses.specs.RunEvents.{events_of}
use Rattle.hep_accesses.proofs.SiteTests.{site-equivalence}
use Rattle.hep_accesses.proofs.laws.race_free_runs_keep_conflicts.Goals as goal

pub returns : goal.returns
returns c program processes keeps ys none edges r =
    conflicts-kept same_location same_site site-equivalence (events_of program processes) none (λ i j. keeps i j ≡ true) ys edges r
