-- The result of making a transcript: docs/ARCHITECTURE.md, "Forms".
use Rattle.std.specs.Prelude.{◌≡◌, ℕ, List, Option, Result, Ok, Err}
use Rattle.hep_run.specs.declared.options.Run.{Run}
use Rattle.hep_outcome.specs.declared.transcript.Transcript.{Transcript}
use Rattle.hep_run.specs.Delivery.{Leaves, WantsMemory}
use Rattle.hep_outcome.specs.Transcripts.{outcome_of}
use Rattle.hep_outcome.specs.Outcome.{Outcome}
use Rattle.hep_run.specs.Outcome.{refused}
use Rattle.hep_run.specs.declared.refusal.SourceFault.{SourceFault}
use Rattle.hep_run.specs.declared.refusal.SourceFault.TheVariants as source

-- the outcome of a source that isn't run for this reason; a refusal of memory has none
abbrev pub IsOutcomeOfFault : SourceFault → Outcome → Type 0
IsOutcomeOfFault source.NoMemory o = ⊥
IsOutcomeOfFault (source.Refused number line name notes) o = o ≡ refused number line name notes

-- the transcript was delivered, or memory was refused for it
abbrev pub LeavesMade : {E : Type 0} → Result Transcript E → Run → Option (List ℕ) → Option (List ℕ) → Option (List ℕ) → Option (List ℕ) → Type 0
LeavesMade (Ok r) run output output' messages messages' = Leaves (outcome_of r) run output output' messages messages'
LeavesMade (Err e) run output output' messages messages' = WantsMemory run output output' messages messages'
