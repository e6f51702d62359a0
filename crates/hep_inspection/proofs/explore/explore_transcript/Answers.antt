use Rattle.std.proofs.Common.{Bool, List, inl, inr, refl, ℕ}
use Rattle.hep_explore.specs.Explored.{Found}
use Rattle.hep_outcome.specs.Outcome.{Outcome}
use Rattle.hep_outcome.specs.Transcripts.{outcome_of}
use Rattle.hep_run.specs.declared.refusal.SourceFault.{SourceFault}
use Rattle.hep_run.specs.declared.refusal.SourceFault.TheVariants.{NoMemory, Refused}
use Rattle.hep_run.specs.Refusals.{IsSourceRefusal}
use Rattle.hep_run.specs.Transcripts.{IsOutcomeOfFault}
use Rattle.hep_inspection.specs.Explorations.{IsExploredOutcome}
use Rattle.hep_inspection.specs.declared.explore_options.ExploreOptions.{ExploreOptions}
use Rattle.hep_inspection.proofs.explore.explore_transcript.Goals as goal

-- a source that isn't run has no outcome of its program
unsearched : (long : Bool) (options : ExploreOptions) (found : List Found) (source : List ℕ) (fault : SourceFault) (o : Outcome)
    → IsSourceRefusal long source fault → IsOutcomeOfFault fault o → IsExploredOutcome long options found source o
unsearched long options found source NoMemory o why told = absurd told
unsearched long options found source (Refused number line name notes) o why told =
    inl (number, line, name, notes, why.0, why.1, told)

pub returns-in_ok-transcript-in-Ok : goal.returns-in_ok-transcript-in-Ok
returns-in_ok-transcript-in-Ok g c =
    let is = c.in_ok-explored-in-Ok.ensures in
    inr (
      _,
      c.in-Ok.ensures.made,
      record {
        exploration = c.in_ok-explored-in-Ok.explored;
        explored = is.explored;
        states = is.states;
        few = is.few;
        cut = is.cut;
        found_is = refl;
        outcome = c.in_ok-transcript-in-Ok.ensures;
      },
    )

pub returns-in_ok-fault_transcript-in-Err : goal.returns-in_ok-fault_transcript-in-Err
returns-in_ok-fault_transcript-in-Err g c =
    unsearched c.args.asked.now.long c.args.asked.now.options.now c.new.result.items c.args.source.now c.in-Err.fault
    (outcome_of c.in_ok-fault_transcript-in-Err.field-0) c.in-Err.ensures.refused c.in_ok-fault_transcript-in-Err.ensures.made
