use Rattle.std.proofs.Common.{◌∙◌, subst}
use Rattle.hep_outcome.specs.declared.halt.Halt.TheVariants.{NoSuchProcess}
use Rattle.hep_outcome.specs.RunProgress.{IsHaltedBy}
use Rattle.hep_outcome.specs.Transcripts.{outcome_of}
use Rattle.hep_outcome.proofs.Outcomes.{outcome_refused, outcome_over}
use Rattle.hep_outcome.proofs.run_by_choices.run_transcript.Goals as goal
use Rattle.std.proofs.lemmas.Result.{IfOk-weaker}

pub returns-in-Err-NoSuchProcess : goal.returns-in-Err-NoSuchProcess
returns-in-Err-NoSuchProcess c =
    let core = c.make_choices.new.core.core in
    let options = c.args.options.now in
    let halted : IsHaltedBy options core (NoSuchProcess c.in-Err-NoSuchProcess.choice) = subst (IsHaltedBy options core) c.in-Err-NoSuchProcess.field-0-is c.in-Err-NoSuchProcess.ensures.halted in
    IfOk-weaker c.choice_transcript.result _ _ (λ r is. outcome_refused c.args.long options c.args.core.core.program core c.in-Err-NoSuchProcess.choice (outcome_of r) c.make_choices.ensures.program halted c.headline.ensures.legal is) c.choice_transcript.ensures

pub returns : goal.returns
returns c =
    let core = c.run_on.new.core.core in
    let options = c.args.options.now in
    IfOk-weaker c.ended_transcript.result _ _ (λ r is. outcome_over c.args.long options c.args.core.core.program core (outcome_of r) (c.run_on.ensures.program ∙ c.make_choices.ensures.program) c.in_ok-run_on.ensures.running c.in_ok-run_on.ensures.over c.headline-2.ensures.legal c.headline-2.ensures.named is) c.ended_transcript.ensures
