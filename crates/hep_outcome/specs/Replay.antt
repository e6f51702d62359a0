-- The outcome of a replay of a program, from the bytes of a history to the bytes that it writes: docs/MACHINE.md,
-- "The program".
use Rattle.std.specs.Prelude.{◌≡◌, ◌⊎◌, ℕ, Bool, List, [], ◌++◌, codes, length, None, IsSome}
use Rattle.hep_machine.specs.declared.event.Entry.{Entry}
use Rattle.hep_machine.specs.Words.{Units, opening_layout}
use Rattle.hep_replay.specs.Verdict.{Verdict}
use Rattle.hep_replay.specs.Verdict.TheVariants.{Running}
use Rattle.hep_image.specs.Names.{names_in_order}
use Rattle.hep_replay.specs.CoreValues.{CoreValue, state_of, verdict_of}
use Rattle.hep_output.specs.Records.{records_text}
use Rattle.hep_dump.specs.Faults.{faults_text}
use Rattle.hep_replay.specs.Lines.{AreLines, IsRefusedText}
use Rattle.hep_replay.specs.Histories.{entry_text, IsAllowed}
use Rattle.hep_replay.specs.Replays.{replayed, ArePossible, IsFirstImpossible}
use Rattle.hep_outcome.specs.declared.status.Status.TheVariants as statuses
use Rattle.hep_outcome.specs.Outcome.{Outcome, dump_text, outcome_of_full_arena, status_of}
use Rattle.hep_outcome.specs.Notes.{stop_notes}
use Rattle.hep_outcome.specs.Texts.{refusal_text, stop_text}

-- ---- outcomes

-- the history can't be used: by this number, at this line of its text or this entry
abbrev pub outcome_of_refused_history : ℕ → ℕ → Outcome
outcome_of_refused_history number k = record { output = []; messages = refusal_text number k []; status = statuses.Usage; history = [] }

-- the run could go on
abbrev pub running_text : Verdict → List ℕ
running_text Running = codes "STILL RUNNING\n"
running_text _ = []

-- the outcome of a core that has made all entries
abbrev pub outcome_of_core : Bool → CoreValue → Outcome
outcome_of_core long core =
    record {
      output = records_text (state_of core).records;
      messages = faults_text (names_in_order core.program) (state_of core).faults ++ dump_text long core.program core.history (verdict_of core)
          ++ stop_text core.stop ++ stop_notes long core.program core.cells core.history core.stop ++ running_text (verdict_of core);
      status = status_of (verdict_of core) (state_of core).faults;
      history = core.history;
    }

-- ---- histories

-- the outcome of these entries
abbrev pub IsEntriesOutcome : Bool → Units → ℕ → List Entry → Outcome → Type 0
IsEntriesOutcome long program cells entries o =
    ((opening_layout program cells ≡ None) × (o ≡ outcome_of_full_arena long program cells))
    ⊎ (IsSome (opening_layout program cells) × (
    ((k : ℕ) × IsFirstImpossible program cells entries k × (o ≡ outcome_of_refused_history 603 k))
    ⊎ (ArePossible program cells entries (length entries) × (o ≡ outcome_of_core long (replayed program cells entries)))))

-- the outcome of a text of a history
abbrev pub IsTextOutcome : Bool → List ℕ → ℕ → Units → Outcome → Type 0
IsTextOutcome long text cells program o =
    ((k : ℕ) × IsRefusedText entry_text IsAllowed text k × (o ≡ outcome_of_refused_history 601 k))
    ⊎ ((entries : List Entry) × AreLines entry_text IsAllowed text entries × IsEntriesOutcome long program cells entries o)
