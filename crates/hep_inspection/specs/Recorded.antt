-- What comes of the origin of a history.
use Rattle.std.specs.Prelude.{◌≡◌, ◌≢◌, []}
use Rattle.hep_machine.specs.Words.{Units}
use Rattle.hep_outcome.specs.declared.status.Status.TheVariants.{Usage}
use Rattle.hep_outcome.specs.Outcome.{Outcome}
use Rattle.hep_outcome.specs.Transcripts.{outcome_of}
use Rattle.hep_inspection.specs.Origins.{HasEntries, HasNoEntries}
use Rattle.hep_inspection.specs.declared.origin.Origin.{Origin}
use Rattle.hep_inspection.specs.declared.origin.Recorded.{Recorded}
use Rattle.hep_inspection.specs.declared.origin.Recorded.TheVariants.{Made, Refused}

-- the entries of the history; or what is written where there is none
abbrev pub IsRecorded : Units → Origin → Recorded → Type 0
IsRecorded program origin (Made entries) = HasEntries program origin entries.items
IsRecorded program origin (Refused t) = HasNoEntries program origin (outcome_of t)

-- so of what a run by choices has come to
abbrev pub IsRecordedRun : Outcome → Recorded → Type 0
IsRecordedRun run (Made entries) = (run.status ≢ Usage) × (entries.items ≡ run.history)
IsRecordedRun run (Refused t) = (run.status ≡ Usage) × (outcome_of t ≡ record run { history = [] })
