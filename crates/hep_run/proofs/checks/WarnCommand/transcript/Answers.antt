use Rattle.std.proofs.Common.{ap, ◌∙◌}
use Rattle.std.proofs.lemmas.Result.{IfOk-weaker}
use Rattle.hep_warnings.specs.Warnings.{warnings}
use Rattle.hep_run.specs.Checks.{outcome_of_warnings}
use Rattle.hep_run.proofs.checks.WarnCommand.transcript.Goals as goal

pub returns : goal.returns
returns c =
    IfOk-weaker c.warned_transcript.result _ _ (λ r is. is ∙ ap (λ p. outcome_of_warnings (warnings c.args.source.now p)) c.program.ensures)
    c.warned_transcript.ensures
