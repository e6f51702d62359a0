use Rattle.std.proofs.Common.{◌∙◌, ap, inl, inr, subst, take}
use Rattle.std.proofs.lemmas.Result.{IfOk-weaker}
use Rattle.hep_replay.specs.Replays.{IsUnmade}
use Rattle.hep_outcome.specs.Outcome.{full_with}
use Rattle.hep_outcome.proofs.Wanted.{noted-full, on-err-so}
use Rattle.hep_run.specs.Checks.{outcome_of_text}
use Rattle.hep_inspection.proofs.inspection.entries_state.Goals as goal

pub returns-in-Ok-clause-made : goal.returns-in-Ok-clause-made
returns-in-Ok-clause-made c = inr (c.in-Ok.ensures.possible, c.text_transcript.ensures ∙ ap outcome_of_text c.in-Ok.ensures.told)

pub returns-in-Err-ArenaFull-clause-made : goal.returns-in-Err-ArenaFull-clause-made
returns-in-Err-ArenaFull-clause-made c =
    let options = c.args.asked.now.options.now in
    let unmade = IsUnmade c.args.image options.arena (take options.entries c.args.entries.now.items) in
    let none = subst unmade c.in-Err-ArenaFull.field-0-is c.in-Err-ArenaFull.ensures.unmade in
    IfOk-weaker c.full_transcript.result _ _ (λ r is. inl (inl (none, is ∙ ap full_with c.in_ok-notes.ensures.made))) c.full_transcript.ensures.made

pub returns-in-Err-ArenaFull-clause-unmade : goal.returns-in-Err-ArenaFull-clause-unmade
returns-in-Err-ArenaFull-clause-unmade c =
    let asked = c.args.asked.now in
    let noted = noted-full asked.long c.args.image asked.options.now.arena c.in_ok-notes.notes c.in_ok-notes.ensures.made in
    on-err-so c.full_transcript.result noted c.full_transcript.ensures.unmade
