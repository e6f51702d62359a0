-- The outcome of a transcript: docs/ARCHITECTURE.md, "Forms".
use Rattle.hep_outcome.specs.declared.transcript.Transcript.{Transcript}
use Rattle.hep_outcome.specs.Lines.{lines_text}
use Rattle.hep_outcome.specs.Outcome.{Outcome}

abbrev pub outcome_of : Transcript → Outcome
outcome_of r = record { output = r.output.items; messages = lines_text r.messages; status = r.status; history = r.history.items }
