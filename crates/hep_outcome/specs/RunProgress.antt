-- The progress of a run: docs/ARCHITECTURE.md, "Forms".
use Rattle.std.specs.Prelude.{◌≡◌, ◌+◌, [], length, Option, Some, None}
use Rattle.hep_replay.specs.ChoiceStop.{ChoiceStop}
use Rattle.hep_replay.specs.ChoiceStop.TheVariants.{Halted, ArenaFull, StepLimit}
use Rattle.hep_replay.specs.CoreValues.{CoreValue}
use Rattle.hep_outcome.specs.declared.options.Options.{Options}
use Rattle.hep_outcome.specs.declared.halt.Halt.{Halt}
use Rattle.hep_outcome.specs.declared.halt.Halt.TheVariants.{NoMemory, NoSuchProcess}
use Rattle.hep_outcome.specs.Outcome.{IsScheduled, IsCutShort, IsFull, IsChoiceRefused}

abbrev pub IsStopOfRun : Options → CoreValue → Option ChoiceStop → Type 0
IsStopOfRun options core None = Unit {0}
IsStopOfRun options core (Some StepLimit) = IsCutShort core.program options core.history
IsStopOfRun options core (Some Halted) = Unit {0}
IsStopOfRun options core (Some ArenaFull) = IsFull core.program options core.history

-- the core runs by these options, and no process is out
pub record IsRunning (options : Options) (core : CoreValue) : Type 0 where
  pub cells : core.cells ≡ options.arena
  pub limit : core.limit ≡ options.steps
  pub out : core.out ≡ []
  pub scheduled : IsScheduled core.program options.choices core.history
  pub stop : IsStopOfRun options core core.stop

-- the choices ended at one that names no living process, or memory was refused
abbrev pub IsHaltedBy : Options → CoreValue → Halt → Type 0
IsHaltedBy options core NoMemory = Unit {0}
IsHaltedBy options core (NoSuchProcess choice) =
    IsRunning options core × (choice ≡ length core.history + 1) × IsChoiceRefused core.program options core.history
