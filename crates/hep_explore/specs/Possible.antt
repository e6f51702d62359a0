-- Which outcomes are possible: docs/MACHINE.md, "Endings".
use Rattle.std.specs.Prelude.{◌≡◌, ◌≢◌, ℕ, false, List}
use Rattle.hep_machine.specs.Words.{Units}
use Rattle.hep_outcome.specs.Outcome.{IsProgramOutcome, Outcome}
use Rattle.hep_outcome.specs.declared.options.Options.{Options}
use Rattle.hep_outcome.specs.declared.status.Status.TheVariants.{StepLimit, Usage}

-- in an arena of so many cells some choices and some limit of the history come to this outcome, and neither the limit nor a choice that is
-- refused cuts the run short
pub record IsPossible (program : Units) (cells : ℕ) (o : Outcome) : Type 0 where
  pub options : Options
  pub arena : options.arena ≡ cells
  pub outcome : IsProgramOutcome false program options o
  pub unlimited : o.status ≢ StepLimit
  pub accepted : o.status ≢ Usage

-- these choices and some limit of the history do so
pub record IsPossibleBy (program : Units) (cells : ℕ) (choices : List ℕ) (o : Outcome) : Type 0 where
  pub possible : IsPossible program cells o
  pub by : possible.options.choices ≡ choices
