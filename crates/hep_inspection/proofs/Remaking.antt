-- Histories that are made again, and what is refused of them.
use Rattle.std.proofs.Common.{◌≡◌, ℕ, List, Bool, false, inr, subst, sym}
use Rattle.std.specs.Borrow.{Bor}
use Rattle.hep_cover.specs.WhyWatches.{IsReplayed}
use Rattle.hep_machine.specs.declared.event.Entry.{Entry}
use Rattle.hep_machine.specs.Words.{Units}
use Rattle.hep_outcome.specs.Outcome.{IsProgramOutcome, Outcome}
use Rattle.hep_outcome.specs.declared.options.Options.{Options}
use Rattle.hep_inspection.specs.Covers.{IsHistory}
use Rattle.hep_inspection.specs.Origins.{HasEntries}
use Rattle.hep_inspection.specs.declared.origin.Origin.{Origin}
use Rattle.hep_inspection.specs.declared.origin.Origin.TheVariants.{Choices}
use Rattle.hep_inspection.specs.declared.origin.Recorded.{Recorded}
use Rattle.hep_inspection.specs.declared.origin.Recorded.TheVariants as recorded
use Rattle.hep_inspection.specs.Recorded.{IsRecorded, IsRecordedRun}
use Rattle.hep_inspection.specs.ReplayResults.{AreMadeOrRefused, IsMadeOrRefused}
use Rattle.hep_inspection.specs.declared.replay_result.ReplayResult.{ReplayResult}
use Rattle.hep_inspection.specs.declared.replay_result.ReplayResult.TheVariants.{Made, Refused}

-- what comes of a run by choices is what comes of them as an origin
pub of-choices : (program : Units) (options : Bor Options) (run : Outcome) (r : Recorded) → IsProgramOutcome false program options.now run → IsRecordedRun run r
    → IsRecorded program (Choices options) r
of-choices program options run (recorded.Made entries) comes (usable, same) = (run, comes, usable, same)
of-choices program options run (recorded.Refused t) comes (usage, is) = (run, comes, usage, is)

module _ (long : Bool) (cells : ℕ) (program : Units) where
  -- what comes of an origin is what comes of the entries of its history
  pub made-of-origin : (origin : Origin) (entries : List Entry) (r : ReplayResult) → HasEntries program origin entries → AreMadeOrRefused long cells program entries r
      → IsMadeOrRefused long cells program origin r
  made-of-origin origin entries (Refused t) has refused = inr (entries, has, refused)
  made-of-origin origin entries (Made core kept) has (same, possible, again, its, size) =
      subst (λ (es : List Entry). IsHistory cells program origin es × IsReplayed core.core es × (core.core.program ≡ program) × (core.core.cells ≡ cells)) (sym same) (
        (has, possible),
        again,
        its,
        size,
      )
