use Rattle.std.proofs.Common.{ap, inr, ◌∙◌}
use Rattle.hep_outcome.specs.Replay.{outcome_of_core}
use Rattle.hep_outcome.proofs.run_by_history.image_transcript.Goals as goal
use Rattle.std.proofs.lemmas.Result.{IfOk-weaker}

pub returns-in-Ok-replay : goal.returns-in-Ok-replay
returns-in-Ok-replay c =
    IfOk-weaker c.core_transcript.result _ _ (λ r is. inr (c.in-Ok.entries.items, c.in-Ok.ensures.read, inr (c.in-Ok-replay.ensures.fits, inr (c.in-Ok-replay.ensures.possible, is ∙ ap (outcome_of_core c.args.long) c.in-Ok-replay.ensures.made)))) c.core_transcript.ensures
