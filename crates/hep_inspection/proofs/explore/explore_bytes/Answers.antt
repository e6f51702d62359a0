use Rattle.std.proofs.Common.{◌≡◌, Bool, List, [], ap, inl, inr, ℕ}
use Rattle.hep_explore.specs.Explored.{Found}
use Rattle.hep_outcome.specs.Outcome.{Outcome}
use Rattle.hep_outcome.specs.Transcripts.{outcome_of}
use Rattle.hep_run.proofs.NoHistory.{left_alone}
use Rattle.hep_inspection.specs.Explorations.{IsExploredOutcome}
use Rattle.hep_inspection.specs.declared.explore_options.ExploreOptions.{ExploreOptions}
use Rattle.hep_inspection.proofs.explore.explore_bytes.Goals as goal

-- a search has no history of its own
no_history : (long : Bool) (options : ExploreOptions) (found : List Found) (source : List ℕ) (o : Outcome)
    → IsExploredOutcome long options found source o → o.history ≡ []
no_history long options found source o (inl (number, line, name, notes, refused, are, is)) = ap (λ (x : Outcome). x.history) is
no_history long options found source o (inr (program, holds, written)) = ap (λ (x : Outcome). x.history) written.outcome

pub returns-in-Ok : goal.returns-in-Ok
returns-in-Ok g c =
    let long = c.args.asked.now.long in
    let options = c.args.asked.now.options.now in
    let found = c.in-Ok.found.items in
    let source = c.args.source.now in
    record {
      left =
          left_alone c.deliver.result _ _ _ _ (IsExploredOutcome long options found source) (no_history long options found source)
          (inr (outcome_of c.in-Ok.transcript, c.in-Ok.ensures, c.deliver.ensures));
    }
