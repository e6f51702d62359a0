use Rattle.std.proofs.Common.{rules, ap, inl, inr, subst, sym, ◌∙◌}
use Rattle.hep_workers.specs.Faults.{IsWorkFault}
use Rattle.hep_outcome.specs.Outcome.{full_with}
use Rattle.hep_outcome.specs.Transcripts.{outcome_of}
use Rattle.hep_outcome.proofs.Wanted.{noted-full, on-err-anyway, on-err-so}
use Rattle.hep_run.proofs.Worked.{by-number, fits-by-number, fits-else, outcome-worked}
use Rattle.hep_run.specs.Workers.{outcome_of_refused_workers}
use Rattle.hep_run.proofs.run_by_workers.image_transcript.Goals as goal
use Rattle.std.proofs.lemmas.Result.{IfOk-weaker}

pub returns-in-Ok-clause-made : goal.returns-in-Ok-clause-made
returns-in-Ok-clause-made g c =
    let core = c.in-Ok.core.core in
    let e = c.in-Ok.ensures in
    IfOk-weaker c.ended_transcript.result _ _ (λ r. outcome-worked c.args.long c.args.image c.args.asked.now.options.now core (outcome_of r)
    e.run e.over e.turns c.headline.ensures.legal c.headline.ensures.named) c.ended_transcript.ensures

pub returns-in-Ok-clause-unmade : goal.returns-in-Ok-clause-unmade
returns-in-Ok-clause-unmade g c = on-err-anyway c.ended_transcript.result (inr c.in-Ok.ensures.fits)

pub returns-in-ArenaFull-clause-made : goal.returns-in-ArenaFull-clause-made
returns-in-ArenaFull-clause-made g c =
    let none = subst (λ fault. IsWorkFault fault c.args.image c.args.asked.now.options.now) c.in-ArenaFull.is c.in-Err.ensures.fault in
    IfOk-weaker c.full_transcript.result _ _ (λ r is. inl (none, is ∙ ap full_with c.in_ok-notes.ensures.made)) c.full_transcript.ensures.made

pub returns-in-ArenaFull-clause-unmade : goal.returns-in-ArenaFull-clause-unmade
returns-in-ArenaFull-clause-unmade g c =
    let noted = noted-full c.args.long c.args.image c.args.asked.now.options.now.arena c.in_ok-notes.notes c.in_ok-notes.ensures.made in
    on-err-so c.full_transcript.result noted c.full_transcript.ensures.unmade

pub returns-in-Some-clause-unmade : goal.returns-in-Some-clause-unmade
returns-in-Some-clause-unmade g c =
    on-err-anyway c.workers_transcript.result (inr (fits-by-number c.in-Err.fault c.in-Some.number c.args.image c.args.asked.now.options.now (sym c.number.ensures ∙ c.in-Some.is) c.in-Err.ensures.fault))

pub returns-clause-unmade : goal.returns-clause-unmade
returns-clause-unmade g c = inr (fits-else c.in-Err.fault c.args.image c.args.asked.now.options.now (search rules) c.in-Err.ensures.fault)

pub returns-in-Some-clause-made : goal.returns-in-Some-clause-made
returns-in-Some-clause-made g c =
    let options = c.args.asked.now.options.now in
    let named = sym c.number.ensures ∙ c.in-Some.is in
    let fits = fits-by-number c.in-Err.fault c.in-Some.number c.args.image options named c.in-Err.ensures.fault in
    let only = by-number c.in-Err.fault c.in-Some.number c.args.image options c.in-Err.ensures.fault named in
    IfOk-weaker c.workers_transcript.result _ _ (λ r is. inr (inl (fits, is ∙ ap outcome_of_refused_workers only))) c.workers_transcript.ensures
