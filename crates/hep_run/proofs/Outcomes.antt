-- What is left of a transcript that was made.
use Rattle.std.proofs.Common.{ℕ, List, Option, Result, Ok, Err, inl, inr, IfOk}
use Rattle.hep_outcome.specs.declared.transcript.Transcript.{Transcript}
use Rattle.hep_outcome.specs.Outcome.{Outcome}
use Rattle.hep_outcome.specs.Transcripts.{outcome_of}
use Rattle.hep_run.specs.declared.options.Run.{Run}
use Rattle.hep_run.specs.Delivery.{LeavesOneOf}
use Rattle.hep_run.specs.Transcripts.{LeavesMade}

-- this, where its outcome is one of these
pub made_left : {E : Type 0} (Is : Outcome → Type 0) (r : Result Transcript E) (run : Run) (output output' messages messages' : Option (List ℕ))
    → IfOk r (λ t. Is (outcome_of t)) → LeavesMade r run output output' messages messages'
    → LeavesOneOf Is run output output' messages messages'
made_left Is (Ok t) run output output' messages messages' is left = inr (outcome_of t, is, left)
made_left Is (Err e) run output output' messages messages' is left = inl left
