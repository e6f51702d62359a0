use Rattle.std.proofs.Common.{ap, inr, subst, sym}
use Rattle.hep_replay.specs.CoreValues.{CoreValue}
use Rattle.hep_outcome.specs.RunsByLots.{IsDrawing}
use Rattle.hep_outcome.specs.Transcripts.{outcome_of}
use Rattle.hep_outcome.proofs.LotDraws.{drawing-opening, drawn-outcome}
use Rattle.hep_outcome.proofs.run_by_lots.drawn_transcript.Goals as goal
use Rattle.std.proofs.lemmas.Result.{IfOk-weaker}

pub draw_on-requires-clause-drawing : goal.draw_on-requires-clause-drawing
draw_on-requires-clause-drawing c = subst (λ (v : CoreValue). IsDrawing c.args.options.now v) (sym c.requires) (drawing-opening c.args.options.now c.args.core.core.program)

pub draw_on-requires-clause-out : goal.draw_on-requires-clause-out
draw_on-requires-clause-out c = ap (λ (v : CoreValue). v.out) c.requires

pub returns : goal.returns
returns c =
    let (choices, out) = c.in_ok-draw_on.ensures.drawn in
    IfOk-weaker c.ended_transcript.result _ _ (λ r is. inr (choices, drawn-outcome c.args.long c.args.options.now c.args.core.core.program c.draw_on.new.core.core choices (outcome_of r) c.draw_on.ensures.program out c.headline.ensures.legal c.headline.ensures.named is)) c.ended_transcript.ensures
