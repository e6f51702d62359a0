-- Why processes wait after a history, as a text: docs/RUNS.md, "Why processes wait".
use Rattle.std.specs.Prelude.{ℕ, zero, suc, Bool, false, if◌then◌else◌, List, [], ◌∷◌, ◌++◌, length, Option, Some, is_some}
use Rattle.std.specs.Option.{option_map_or}
use Rattle.hep_machine.specs.declared.event.Entry.{Entry}
use Rattle.hep_machine.specs.Words.{State, Units, Wanted, living, progress_after, ready_in, state_after, wanted_by}
use Rattle.hep_event.specs.CoreValues.{listed_after}
use Rattle.hep_event.specs.StateTextLines.{head_text}
use Rattle.hep_views.specs.declared.listed.Listed.{Listed}
use Rattle.hep_why.specs.WaitNames.{called_by}
use Rattle.hep_why.specs.LatestChanges.{latest_changes}
use Rattle.hep_why.specs.Lines.{able_text, reasons_text}
use Rattle.hep_why.specs.declared.reason.Change.{Change}
use Rattle.hep_why.specs.declared.reason.LatestChanges.{LatestChanges}
use Rattle.hep_why.specs.declared.reason.Reason.{Reason}

-- the process of a change lives
abbrev pub maker_lives : State → Option Change → Bool
maker_lives s latest = option_map_or (λ (c : Change). is_some (living s c.place.process)) latest false

-- a listed process, after a state, with its unit's name for what it waits for, and the latest changes of that
abbrev pub reason_with : Units → State → Listed → LatestChanges → Reason
reason_with program s l latest =
    record {
      listed = l;
      called = called_by program s l.process;
      latest = latest.last;
      lives = maker_lives s latest.last;
      brought = latest.before;
      bringer_lives = maker_lives s latest.before;
    }

abbrev pub reason_by : Units → List Entry → Option Listed → Option Wanted → List Reason
reason_by program history (Some l) (Some w) = reason_with program (state_after program history) l (latest_changes program history w.at) ∷ []
reason_by program history _ _ = []

-- process p, if it is listed after a history
abbrev pub reason_of : Units → List Entry → ℕ → List Reason
reason_of program history p = reason_by program history (listed_after program history p) (wanted_by program p (state_after program history))

-- the listed ones of n processes from this number on
abbrev pub reasons_from : Units → List Entry → ℕ → ℕ → List Reason
reasons_from program history p zero = []
reasons_from program history p (suc n) = reason_of program history p ++ reasons_from program history (suc p) n

abbrev pub reasons_of : Units → List Entry → List Reason
reasons_of program history = reasons_from program history 1 (length (state_after program history).processes)

-- how many processes live and aren't listed, unless a STOP has ended the run
abbrev pub able_of : Units → List Entry → ℕ
able_of program history =
    if (state_after program history).halted then 0 else length (ready_in (progress_after program history))

-- the number of entries, why each listed process waits, and how many others can go on
abbrev pub why_text : Units → List Entry → List ℕ
why_text program history =
    head_text (length history) ++ reasons_text program (reasons_of program history)
    ++ able_text (reasons_of program history) (able_of program history)
