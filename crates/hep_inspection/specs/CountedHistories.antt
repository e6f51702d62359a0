-- What comes of a history that is counted.
use Rattle.std.specs.Prelude.{◌≡◌, ℕ, Bool, List, Option, Some, None}
use Rattle.hep_cover.specs.Coverage.{counted_in}
use Rattle.hep_machine.specs.declared.event.Entry.{Entry}
use Rattle.hep_machine.specs.Words.{Units}
use Rattle.hep_outcome.specs.Transcripts.{outcome_of}
use Rattle.hep_outcome.specs.declared.transcript.Transcript.{Transcript}
use Rattle.hep_inspection.specs.Covers.{IsHistory, IsRefusedHistory}
use Rattle.hep_inspection.specs.declared.cover.LineCounts.{LineCounts}
use Rattle.hep_inspection.specs.declared.origin.Origin.{Origin}

-- what is written where it is refused; and else its entries were counted
abbrev pub IsCountedOrRefused : Bool → ℕ → Units → Origin → LineCounts → LineCounts → Option Transcript → Type 0
IsCountedOrRefused long cells program origin old new (Some t) = IsRefusedHistory long cells program (outcome_of t) origin
IsCountedOrRefused long cells program origin old new None =
    (entries : List Entry) × IsHistory cells program origin entries
    × (new.operations.items ≡ old.operations.items) × (new.counts.items ≡ counted_in program old.operations.items entries old.counts.items)
