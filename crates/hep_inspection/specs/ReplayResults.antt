-- The result of a history that is made again.
use Rattle.std.specs.Prelude.{◌≡◌, ℕ, Bool, List}
use Rattle.hep_machine.specs.declared.event.Entry.{Entry}
use Rattle.hep_cover.specs.WhyWatches.{IsReplayed}
use Rattle.hep_machine.specs.Words.{Units}
use Rattle.hep_outcome.specs.Transcripts.{outcome_of}
use Rattle.hep_inspection.specs.Covers.{AreRefused, CanBeMade, IsHistory, IsRefusedHistory}
use Rattle.hep_inspection.specs.declared.origin.Origin.{Origin}
use Rattle.hep_inspection.specs.declared.replay_result.ReplayResult.{ReplayResult}
use Rattle.hep_inspection.specs.declared.replay_result.ReplayResult.TheVariants.{Made, Refused}

-- what is written where entries are refused; otherwise they were made in an arena of `cells` cells, and are kept
abbrev pub AreMadeOrRefused : Bool → ℕ → Units → List Entry → ReplayResult → Type 0
AreMadeOrRefused long cells program entries (Refused t) = AreRefused long cells program (outcome_of t) entries
AreMadeOrRefused long cells program entries (Made core kept) =
    (kept.items ≡ entries) × CanBeMade program cells entries × IsReplayed core.core entries × (core.core.program ≡ program) × (core.core.cells ≡ cells)

-- so of the history of an origin
abbrev pub IsMadeOrRefused : Bool → ℕ → Units → Origin → ReplayResult → Type 0
IsMadeOrRefused long cells program origin (Refused t) = IsRefusedHistory long cells program (outcome_of t) origin
IsMadeOrRefused long cells program origin (Made core entries) =
    IsHistory cells program origin entries.items × IsReplayed core.core entries.items × (core.core.program ≡ program) × (core.core.cells ≡ cells)
