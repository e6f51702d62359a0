use Rattle.std.proofs.Common.{◌∙◌, ap, subst, inl, inr}
use Rattle.hep_outcome.proofs.Wanted.{noted-full, on-err-anyway, on-err-so}
use Rattle.hep_machine.specs.Words.{Units}
use Rattle.hep_replay.specs.CoreValues.{CoreValue, IsNewFault}
use Rattle.hep_outcome.specs.Outcome.{IsRunOutcome, full_with}
use Rattle.hep_outcome.specs.Transcripts.{outcome_of}
use Rattle.hep_outcome.proofs.run_by_choices.image_transcript.Goals as goal
use Rattle.std.proofs.lemmas.Result.{IfOk-weaker}

pub returns-in-Ok-clause-made : goal.returns-in-Ok-clause-made
returns-in-Ok-clause-made c =
    let same = ap (λ (v : CoreValue). v.program) c.in-Ok.ensures.made in
    IfOk-weaker c.run_transcript.result _ _ (λ r made. inr (subst (λ (p : Units). IsRunOutcome c.args.long p c.args.options.now (outcome_of r)) same made)) c.run_transcript.ensures

pub returns-in-Err-ArenaFull-clause-made : goal.returns-in-Err-ArenaFull-clause-made
returns-in-Err-ArenaFull-clause-made c =
    let none = subst (λ e. IsNewFault e c.args.image c.args.options.now.arena) c.in-Err-ArenaFull.field-0-is c.in-Err-ArenaFull.ensures.unmade in
    IfOk-weaker c.full_transcript.result _ _ (λ r is. inl (none, is ∙ ap full_with c.in_ok-notes.ensures.made)) c.full_transcript.ensures.made

pub returns-in-Ok-clause-unmade : goal.returns-in-Ok-clause-unmade
returns-in-Ok-clause-unmade c = on-err-anyway c.run_transcript.result (inr c.in-Ok.ensures.fits)

pub returns-in-Err-ArenaFull-clause-unmade : goal.returns-in-Err-ArenaFull-clause-unmade
returns-in-Err-ArenaFull-clause-unmade c =
    on-err-so c.full_transcript.result (noted-full c.args.long c.args.image c.args.options.now.arena c.in_ok-notes.notes c.in_ok-notes.ensures.made) c.full_transcript.ensures.unmade

pub returns-clause-unmade : goal.returns-clause-unmade
returns-clause-unmade c =
    inr (subst (λ e. IsNewFault e c.args.image c.args.options.now.arena) c.in-Err-NoMemory.field-0-is c.in-Err-NoMemory.ensures.unmade)
