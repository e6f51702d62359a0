-- What is written where two runs are compared.
use Rattle.std.proofs.Common.{◌≡◌, ℕ, ◌∙◌, List, Bool, Result, inr, ap, IfOk}
use Rattle.std.proofs.lemmas.Result.{IfOk-weaker}
use Rattle.hep_core.specs.CoreValues.{CoreValue}
use Rattle.hep_diff.specs.Differences.{diff_text}
use Rattle.hep_machine.specs.declared.event.Entry.{Entry}
use Rattle.hep_machine.specs.Words.{Units}
use Rattle.hep_outcome.specs.declared.transcript.Transcript.{Transcript}
use Rattle.hep_run.specs.Checks.{outcome_of_text}
use Rattle.hep_outcome.specs.Transcripts.{outcome_of}
use Rattle.hep_inspection.specs.Covers.{IsHistory}
use Rattle.hep_inspection.specs.declared.origin.Origin.{Origin}
use Rattle.hep_inspection.specs.Diffs.{IsCompared, IsComparedWith}

module _ (long : Bool) (cells : ℕ) (first second : Origin) where
  -- what differs is written, where both histories can be made
  pub both-made : (program : Units) (core : CoreValue) (entries others : List Entry) (t : Transcript) (text : List ℕ) → core.program ≡ program → core.cells ≡ cells
      → IsHistory cells program second others → outcome_of t ≡ outcome_of_text text → text ≡ diff_text core.program entries others core.cells
      → IsComparedWith long cells entries second program (outcome_of t)
  both-made program core entries others t text same size h is told =
      inr (others, h, is ∙ ap outcome_of_text (told ∙ (λ i. diff_text (same i) entries others (size i))))

  -- what comes of the second origin, where the first one has a history that can be made
  pub first-made : {E : Type 0} (program : Units) (entries : List Entry) (r : Result Transcript E) → IsHistory cells program first entries
      → IfOk r (λ t. IsComparedWith long cells entries second program (outcome_of t)) → IfOk r (λ t. IsCompared long cells first second program (outcome_of t))
  first-made program entries r made h = IfOk-weaker r _ _ (λ t k. inr (entries, made, k)) h
