use Rattle.std.proofs.Common.{◌≡◌, ◌∙◌, ap, inl, inr, subst, sym}
use Rattle.hep_outcome.proofs.Wanted.{noted-full, on-err-anyway, on-err-so}
use Rattle.hep_machine.specs.Words.{Units}
use Rattle.hep_replay.specs.CoreValues.{CoreValue, IsNewFault, opening_of}
use Rattle.hep_outcome.specs.RunsByLots.{IsDrawnOutcome}
use Rattle.hep_outcome.specs.Outcome.{full_with}
use Rattle.hep_outcome.specs.Transcripts.{outcome_of}
use Rattle.hep_outcome.proofs.run_by_lots.image_transcript.Goals as goal
use Rattle.std.proofs.lemmas.Result.{IfOk-weaker}

pub drawn_transcript-requires : goal.drawn_transcript-requires
drawn_transcript-requires c =
    let same : c.in-Ok.core.core.program ≡ c.args.image = ap (λ (v : CoreValue). v.program) c.in-Ok.ensures.made in
    c.in-Ok.ensures.made ∙ ap (λ (u : Units). opening_of u c.args.options.now.arena c.args.options.now.steps) (sym same)

pub returns-in-Ok-clause-made : goal.returns-in-Ok-clause-made
returns-in-Ok-clause-made c =
    let same : c.in-Ok.core.core.program ≡ c.args.image = ap (λ (v : CoreValue). v.program) c.in-Ok.ensures.made in
    IfOk-weaker c.drawn_transcript.result _ _ (λ r is. subst (λ (u : Units). IsDrawnOutcome c.args.long u c.args.options.now (outcome_of r)) same is) c.drawn_transcript.ensures

pub returns-in-Err-ArenaFull-clause-made : goal.returns-in-Err-ArenaFull-clause-made
returns-in-Err-ArenaFull-clause-made c =
    let none = subst (λ fault. IsNewFault fault c.args.image c.args.options.now.arena) c.in-Err-ArenaFull.field-0-is c.in-Err-ArenaFull.ensures.unmade in
    IfOk-weaker c.full_transcript.result _ _ (λ r is. inl (none, is ∙ ap full_with c.in_ok-notes.ensures.made)) c.full_transcript.ensures.made

pub returns-in-Ok-clause-unmade : goal.returns-in-Ok-clause-unmade
returns-in-Ok-clause-unmade c = on-err-anyway c.drawn_transcript.result (inr c.in-Ok.ensures.fits)

pub returns-in-Err-ArenaFull-clause-unmade : goal.returns-in-Err-ArenaFull-clause-unmade
returns-in-Err-ArenaFull-clause-unmade c =
    on-err-so c.full_transcript.result (noted-full c.args.long c.args.image c.args.options.now.arena c.in_ok-notes.notes c.in_ok-notes.ensures.made) c.full_transcript.ensures.unmade
