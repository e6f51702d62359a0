-- The races of a history of a source: docs/RUNS.md, "Races of a run".
use Rattle.std.specs.Prelude.{◌≡◌, ◌⊎◌, ℕ, Bool, if◌then◌else◌, List, [], ◌∷◌}
use Rattle.hep_accesses.specs.RunEvents.{races_of}
use Rattle.hep_machine.specs.declared.event.Entry.{Entry}
use Rattle.hep_machine.specs.Words.{Units, schedule_of}
use Rattle.hep_outcome.specs.Outcome.{Outcome}
use Rattle.hep_outcome.specs.declared.status.Status.{Status}
use Rattle.hep_outcome.specs.declared.status.Status.TheVariants.{Done, Raced}
use Rattle.hep_races.specs.Races.{races_text}
use Rattle.hep_run.specs.Outcome.{RunsTo}
use Rattle.hep_state_text.specs.LineDisplay.{line_shown}
use Rattle.hep_text.specs.Line.{lines}
use Rattle.hep_inspection.specs.Covers.{IsHistory, IsRefusedHistory}
use Rattle.hep_inspection.specs.declared.origin.Origin.{Origin}

-- 9 where there is a race
abbrev pub status_of : {R : Type 0} → List R → Status
status_of [] = Done
status_of (r ∷ rs) = Raced

abbrev pub shown_lines : Bool → List ℕ → ℕ → List ℕ
shown_lines long source line = if long then line_shown (lines source) line else []

abbrev pub outcome_of_races : Bool → List ℕ → Units → List Entry → Outcome
outcome_of_races long source program entries =
    record {
      output = races_text (shown_lines long source) program entries;
      messages = [];
      status = status_of (races_of program (schedule_of entries));
      history = [];
    }

-- what is written of a history of an accepted program: why there is none that can be made, or its races
abbrev pub AreListed : Bool → ℕ → Origin → List ℕ → Units → Outcome → Type 0
AreListed long cells origin source program o =
    IsRefusedHistory long cells program o origin
    ⊎ ((entries : List Entry) × IsHistory cells program origin entries × (o ≡ outcome_of_races long source program entries))

-- of a source
abbrev pub IsSourceListed : Bool → ℕ → Origin → List ℕ → Outcome → Type 0
IsSourceListed long cells origin source o = RunsTo long (AreListed long cells origin source) source o
