-- Which history is looked at, and why there is none: docs/RUNS.md, "Which run is looked at".
use Rattle.std.specs.Prelude.{◌≡◌, ◌≢◌, ℕ, List, [], false}
use Rattle.hep_machine.specs.declared.event.Entry.{Entry}
use Rattle.hep_machine.specs.Words.{Units}
use Rattle.hep_replay.specs.Lines.{AreLines, IsRefusedText}
use Rattle.hep_replay.specs.Histories.{entry_text, IsAllowed}
use Rattle.hep_outcome.specs.declared.status.Status.TheVariants.{Usage}
use Rattle.hep_outcome.specs.RunsByLots.{IsDrawnOutcome}
use Rattle.hep_outcome.specs.Outcome.{IsProgramOutcome, Outcome}
use Rattle.hep_outcome.specs.Replay.{outcome_of_refused_history}
use Rattle.hep_inspection.specs.declared.origin.Origin.{Origin}
use Rattle.hep_inspection.specs.declared.origin.Origin.TheVariants.{Choices, Lots, Text}

-- the entries of the history: those of the text; or those that the run of the program has made, where none of its choices is refused
abbrev pub HasEntries : Units → Origin → List Entry → Type 0
HasEntries program (Text text) entries = AreLines entry_text IsAllowed text.now entries
HasEntries program (Choices options) entries =
    (run : Outcome) × IsProgramOutcome false program options.now run × (run.status ≢ Usage) × (entries ≡ run.history)
HasEntries program (Lots options) entries = (run : Outcome) × IsDrawnOutcome false program options run × (entries ≡ run.history)

-- there is none, and this is written: the first line of the text that isn't allowed; or what the run writes of the choice that is refused
abbrev pub HasNoEntries : Units → Origin → Outcome → Type 0
HasNoEntries program (Text text) o = (k : ℕ) × IsRefusedText entry_text IsAllowed text.now k × (o ≡ outcome_of_refused_history 601 k)
HasNoEntries program (Choices options) o =
    (run : Outcome) × IsProgramOutcome false program options.now run × (run.status ≡ Usage) × (o ≡ record run { history = [] })
HasNoEntries program (Lots options) o = ⊥
