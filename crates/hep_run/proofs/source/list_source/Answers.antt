use Rattle.std.proofs.Common.{◌≡◌, ap, false}
use Rattle.hep_outcome.specs.Outcome.{Outcome}
use Rattle.hep_check.specs.Listing.{listing}
use Rattle.hep_conditions.specs.Words.{IsAccepted}
use Rattle.hep_run.specs.Checks.{IsListOutcome, outcome_of_text}
use Rattle.hep_run.specs.Sources.{IsViolatingProgram}
use Rattle.hep_run.proofs.NoHistory.{command-none, large_alone, source_alone}
use Rattle.hep_run.proofs.source.list_source.Goals as goal

pub returns-clause-left : goal.returns-clause-left
returns-clause-left g c =
    let none =
    command-none IsViolatingProgram IsAccepted (λ long source program o. o ≡ outcome_of_text (listing program))
    (λ long source program o. ap (λ (x : Outcome). x.history)) in
    source_alone c.deliver_source.result _ _ _ _ _ _ (IsListOutcome false) (none false) c.deliver_source.ensures.left

pub returns-clause-large : goal.returns-clause-large
returns-clause-large g c = large_alone c.deliver_source.result _ _ _ _ _ _ false c.deliver_source.ensures.large
