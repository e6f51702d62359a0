-- The outcome of a run of a program, with the bytes that it writes: docs/MACHINE.md, "The program".
use Rattle.std.specs.Prelude.{◌≡◌, ◌≢◌, ◌⊎◌, ℕ, ◌+◌, ◌<◌, ◌≤◌, Bool, true, false, if◌then◌else◌, List, [], ◌∷◌, ◌++◌, length, take, slice_get, Option, Some, None}
use Rattle.hep_machine.specs.declared.event.Entry.{Entry}
use Rattle.hep_machine.specs.declared.event.Fault.{Fault}
use Rattle.hep_machine.specs.Words.{Units, opening_layout, living_from, next_ready, progress_after, ready_in, schedule_of, state_after, IsLegal, living}
use Rattle.hep_replay.specs.States.{HasNoGap}
use Rattle.hep_replay.specs.ChoiceStop.{ChoiceStop}
use Rattle.hep_replay.specs.ChoiceStop.TheVariants.{Halted, ArenaFull, StepLimit}
use Rattle.hep_replay.specs.Verdict.{Verdict}
use Rattle.hep_replay.specs.Verdict.TheVariants as verdicts
use Rattle.hep_replay.specs.CoreValues.{verdict_by}
use Rattle.hep_image.specs.Names.{names_in_order}
use Rattle.hep_outcome.specs.declared.options.Options.{Options}
use Rattle.hep_outcome.specs.declared.status.Status.{Status}
use Rattle.hep_outcome.specs.declared.status.Status.TheVariants as statuses
use Rattle.hep_output.specs.Records.{records_text}
use Rattle.hep_dump.specs.Faults.{faults_text}
use Rattle.hep_dump.specs.Waiting.{all_waiting_text}
use Rattle.hep_outcome.specs.Notes.{opening_notes_when, stop_notes}
use Rattle.hep_outcome.specs.Texts.{stop_text, choice_text}

-- the bytes of a run for its two outputs, its status, and its history
pub record Outcome : Type 0 where
  pub output : List ℕ
  pub messages : List ℕ
  pub status : Status
  pub history : List Entry

-- ---- schedules

abbrev pub first_choice : Option ℕ → Option ℕ → Option ℕ
first_choice (Some p) ready = Some p
first_choice None ready = ready

-- the process that comes next after a history: none after a STOP, otherwise the choices in their order, and then the
-- ready processes
abbrev pub next_process : Units → List ℕ → List Entry → Option ℕ
next_process program choices history =
    if (state_after program history).halted then None else first_choice (slice_get choices (length history)) (next_ready program history)

-- an entry of the process that comes next, with one step at most
abbrev pub IsNextEntry : Units → List ℕ → List Entry → Entry → Type 0
IsNextEntry program choices history e = (next_process program choices history ≡ Some e.process) × (e.steps ≤ 1)

-- each entry is of the process that came next, and made one step or found it waiting
abbrev pub IsScheduled : Units → List ℕ → List Entry → Type 0
IsScheduled program choices history =
    (k : ℕ) (e : Entry) → slice_get history k ≡ Some e → IsNextEntry program choices (take k history) e

-- a history of the program by these options
pub record IsHistory (program : Units) (options : Options) (history : List Entry) : Type 0 where
  pub legal : IsLegal program options.arena options.steps history
  pub scheduled : IsScheduled program options.choices history

-- the history is full, and a living process would come next
abbrev pub IsCutShort : Units → Options → List Entry → Type 0
IsCutShort program options history =
    (length history ≡ options.steps) × (p : ℕ) × (next_process program options.choices history ≡ Some p) × (living (state_after program history) p ≢ None)

-- the history isn't full, and a process comes next, whose step makes an activation for whose frame there is no gap
abbrev pub IsFull : Units → Options → List Entry → Type 0
IsFull program options history =
    (length history < options.steps)
    × (p : ℕ) × (next_process program options.choices history ≡ Some p) × HasNoGap program options.arena (schedule_of history) p

-- the run is over after this history: no process comes next, or it stops
abbrev pub IsOver : Units → Options → List Entry → Option ChoiceStop → Type 0
IsOver program options history None =
    ((state_after program history).halted ≡ false) × (next_process program options.choices history ≡ None)
IsOver program options history (Some StepLimit) = IsCutShort program options history
IsOver program options history (Some Halted) = (state_after program history).halted ≡ true
IsOver program options history (Some ArenaFull) = ((state_after program history).halted ≡ false) × IsFull program options history

-- the next choice names a process that doesn't live; after a STOP there is no next one
abbrev pub IsChoiceRefused : Units → Options → List Entry → Type 0
IsChoiceRefused program options history =
    ((state_after program history).halted ≡ false)
    × (p : ℕ) × (slice_get options.choices (length history) ≡ Some p) × (living (state_after program history) p ≡ None)

-- ---- outcomes

-- the arena is full at the opening, with these notes
abbrev pub full_with : List ℕ → Outcome
full_with notes = record { output = []; messages = stop_text (Some ArenaFull) ++ notes; status = statuses.ArenaFull; history = [] }

-- COMMON and the frame of the main program don't fit an arena of `cells` cells
abbrev pub outcome_of_full_arena : Bool → Units → ℕ → Outcome
outcome_of_full_arena long program cells = full_with (opening_notes_when long program cells)

-- choices are counted from 1
abbrev pub outcome_of_refused_choice : List Entry → Outcome
outcome_of_refused_choice history = record { output = []; messages = choice_text (length history + 1); status = statuses.Usage; history = history }

abbrev pub status_by_faults : List Fault → Status
status_by_faults [] = statuses.Done
status_by_faults (f ∷ fs) = statuses.Faulted

abbrev pub status_of_waiting : List Fault → Status
status_of_waiting [] = statuses.Waiting
status_of_waiting (f ∷ fs) = statuses.Faulted

abbrev pub status_of : Verdict → List Fault → Status
status_of (verdicts.Stopped ArenaFull) faults = statuses.ArenaFull
status_of (verdicts.Stopped StepLimit) faults = statuses.StepLimit
status_of (verdicts.Stopped Halted) faults = status_by_faults faults
status_of verdicts.Waiting faults = status_of_waiting faults
status_of verdicts.Done faults = status_by_faults faults
status_of verdicts.Running faults = status_by_faults faults

-- whether a run with this history and this stop goes on
abbrev pub verdict_after : Units → List Entry → Option ChoiceStop → Verdict
verdict_after program history stop =
    verdict_by stop (living_from 1 (state_after program history).processes) (ready_in (progress_after program history))

-- the lines of the waiting processes, if all living ones wait
abbrev pub dump_text : Bool → Units → List Entry → Verdict → List ℕ
dump_text long program history verdicts.Waiting = all_waiting_text long program history
dump_text long program history _ = []

-- a run in an arena of `cells` cells, after a history and with a stop
abbrev pub outcome_of_end : Bool → Units → ℕ → List Entry → Option ChoiceStop → Outcome
outcome_of_end long program cells history stop =
    record {
      output = records_text (state_after program history).records;
      messages = faults_text (names_in_order program) (state_after program history).faults ++ dump_text long program history (verdict_after program history stop)
          ++ stop_text stop ++ stop_notes long program cells history stop;
      status = status_of (verdict_after program history stop) (state_after program history).faults;
      history = history;
    }

-- a program whose main program's frame has a gap in the arena, by its history
abbrev pub IsRunOutcome : Bool → Units → Options → Outcome → Type 0
IsRunOutcome long program options o =
    (history : List Entry) × IsHistory program options history × (
    (IsChoiceRefused program options history × (o ≡ outcome_of_refused_choice history))
    ⊎ ((stop : Option ChoiceStop) × IsOver program options history stop × (o ≡ outcome_of_end long program options.arena history stop)))

-- an accepted program
abbrev pub IsProgramOutcome : Bool → Units → Options → Outcome → Type 0
IsProgramOutcome long program options o =
    ((opening_layout program options.arena ≡ None) × (o ≡ outcome_of_full_arena long program options.arena)) ⊎ IsRunOutcome long program options o
