use Rattle.std.proofs.Common.{Bool, List, inl, inr, ℕ}
use Rattle.std.proofs.lemmas.Result.{IfOk-weaker}
use Rattle.hep_machine.specs.Words.{Units}
use Rattle.hep_run.specs.declared.refusal.SourceFault.{SourceFault}
use Rattle.hep_run.specs.declared.refusal.SourceFault.TheVariants.{NoMemory, Refused}
use Rattle.hep_outcome.specs.Outcome.{Outcome}
use Rattle.hep_run.specs.Outcome.{RunsTo}
use Rattle.hep_run.specs.Refusals.{IsSourceRefusal}
use Rattle.hep_run.specs.Sources.{IsRefusedProgram, IsRunnable}
use Rattle.hep_run.specs.Samples.{AreFirstSeeds, IsSampled}
use Rattle.hep_outcome.specs.Transcripts.{outcome_of}
use Rattle.hep_run.specs.Transcripts.{IsOutcomeOfFault}
use Rattle.hep_outcome.proofs.Wanted.{on-err-anyway}
use Rattle.hep_run.proofs.Wanted.{may-read-on, program-small}
use Rattle.hep_run.proofs.sample.sample_transcript.Goals as goal

-- the outcome of a fault of a source
of_fault : (long : Bool) (Comes : Units → Outcome → Type 0) (source : List ℕ) (fault : SourceFault) (o : Outcome) → IsSourceRefusal long source fault → IsOutcomeOfFault fault o → RunsTo long Comes source o
of_fault long Comes source NoMemory o refused told = absurd told
of_fault long Comes source (Refused number line name notes) o refused told = inl (number, line, name, notes, refused.0, refused.1, told)

pub returns-clause-made : goal.returns-clause-made
returns-clause-made g c =
    of_fault c.args.long (λ program. IsSampled c.args.long c.args.options.now c.args.source.now c.new.result.items) c.args.source.now c.in-Err.fault
    (outcome_of c.in_ok-fault_transcript-in-Err.field-0) c.in-Err.ensures.refused c.in_ok-fault_transcript-in-Err.ensures.made

pub returns-in-Ok-clause-seeds : goal.returns-in-Ok-clause-seeds
returns-in-Ok-clause-seeds g c =
    let Sampled = IsSampled c.args.long c.args.options.now c.args.source.now in
    IfOk-weaker c.counted_transcript.result (λ made. Sampled made.1.items (outcome_of made.0)) (λ made. AreFirstSeeds c.args.long c.args.options.now c.args.source.now made.1.items)
    (λ made sampled. inr (_, c.in-Ok.ensures.made, outcome_of made.0, sampled)) c.counted_transcript.ensures

pub returns-in-Ok-clause-unmade : goal.returns-in-Ok-clause-unmade
returns-in-Ok-clause-unmade g c = on-err-anyway c.counted_transcript.result (inr (program-small IsRunnable _ _ c.in-Ok.ensures.made))

pub returns-in_err-fault_transcript-in-Err-clause-unmade : goal.returns-in_err-fault_transcript-in-Err-clause-unmade
returns-in_err-fault_transcript-in-Err-clause-unmade g c =
    on-err-anyway c.from_residual.result (may-read-on c.args.long IsRefusedProgram c.args.source.now c.in-Err.fault c.in-Err.ensures.refused c.in-Err.ensures.wanted c.in_err-fault_transcript-in-Err.ensures.unmade)
