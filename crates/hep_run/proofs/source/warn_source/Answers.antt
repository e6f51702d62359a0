use Rattle.std.proofs.Common.{◌≡◌, ap, false}
use Rattle.hep_outcome.specs.Outcome.{Outcome}
use Rattle.hep_warnings.specs.Warnings.{warnings}
use Rattle.hep_run.specs.Checks.{IsWarnOutcome, outcome_of_warnings}
use Rattle.hep_run.specs.Sources.{IsRefusedProgram, IsRunnable}
use Rattle.hep_run.proofs.NoHistory.{command-none, large_alone, source_alone}
use Rattle.hep_run.proofs.source.warn_source.Goals as goal

pub returns-clause-left : goal.returns-clause-left
returns-clause-left g c =
    let none =
    command-none IsRefusedProgram IsRunnable (λ long source program o. o ≡ outcome_of_warnings (warnings source program))
    (λ long source program o. ap (λ (x : Outcome). x.history)) in
    source_alone c.deliver_source.result _ _ _ _ _ _ (IsWarnOutcome false) (none false) c.deliver_source.ensures.left

pub returns-clause-large : goal.returns-clause-large
returns-clause-large g c = large_alone c.deliver_source.result _ _ _ _ _ _ false c.deliver_source.ensures.large
