-- The outcome of a run by workers, from the bytes of a source to the bytes that it writes: docs/MACHINE.md,
-- "Workers".
use Rattle.std.specs.Prelude.{◌≡◌, ◌≢◌, ◌⊎◌, ℕ, Bool, List, [], ◌++◌, codes, Option, None, IsSome}
use Rattle.std.specs.Fmt.{decimal}
use Rattle.hep_machine.specs.declared.event.Entry.{Entry}
use Rattle.hep_machine.specs.Words.{IsLegal, opening_layout, Units}
use Rattle.hep_outcome.specs.ChoiceStop.{ChoiceStop}
use Rattle.hep_outcome.specs.Verdict.TheVariants.{Running}
use Rattle.hep_outcome.specs.CoreValues.{CoreValue, IsStop}
use Rattle.hep_workers.specs.declared.options.WorkOptions.{WorkOptions}
use Rattle.hep_workers.specs.Faults.{IsSharedBy}
use Rattle.hep_outcome.specs.declared.status.Status.TheVariants as statuses
use Rattle.hep_outcome.specs.Outcome.{Outcome, outcome_of_end, outcome_of_full_arena, verdict_after}
use Rattle.hep_run.specs.Outcome.{RunsTo}

-- workers have made a core with this history and this stop from the opening: so each entry is that of one commit
abbrev pub AreTurns : Units → WorkOptions → List Entry → Option ChoiceStop → Type 0
AreTurns program options history stop =
    (core : CoreValue) × IsSharedBy program options core × (core.history ≡ history) × (core.stop ≡ stop)

-- the workers' history is a legal one of the program by these options; the run is over after it, with the stop given;
-- and its entries are their turns
pub record IsWorked (program : Units) (options : WorkOptions) (history : List Entry) (stop : Option ChoiceStop) : Type 0 where
  pub turns : AreTurns program options history stop
  pub legal : IsLegal program options.arena options.steps history
  pub stopped : IsStop program options.arena options.steps history stop
  pub over : verdict_after program history stop ≢ Running

-- the workers gave up, for the reason with this number
abbrev pub workers_text : ℕ → List ℕ
workers_text number = codes "WORKERS REFUSED " ++ decimal number ++ codes "\n"

abbrev pub outcome_of_refused_workers : ℕ → Outcome
outcome_of_refused_workers number = record { output = []; messages = workers_text number; status = statuses.NoMemory; history = [] }

-- an accepted program: the arena is full at the opening; or, where it isn't, a thread couldn't be started; or the workers have run it
abbrev pub IsImageWorked : Bool → Units → WorkOptions → Outcome → Type 0
IsImageWorked long program options o =
    ((opening_layout program options.arena ≡ None) × (o ≡ outcome_of_full_arena long program options.arena))
    ⊎ (IsSome (opening_layout program options.arena) × (o ≡ outcome_of_refused_workers 704))
    ⊎ ((history : List Entry) × (stop : Option ChoiceStop) × IsWorked program options history stop
    × (o ≡ outcome_of_end long program options.arena history stop))

-- the outcome of a run of a source by workers, by these options
abbrev pub IsWorkOutcome : Bool → WorkOptions → List ℕ → Outcome → Type 0
IsWorkOutcome long options source o = RunsTo long (λ program. IsImageWorked long program options) source o
