-- How an operation reads, and what is read at a site: docs/RUNS.md, "What differs".
use Rattle.std.specs.Prelude.{◌≡◌, ℕ, List, Option, Some, None, Result}
use Rattle.hep_code.specs.declared.instruction.Evaluation.TheVariants.{Load, Test}
use Rattle.hep_code.specs.declared.instruction.Operation.{Operation}
use Rattle.hep_code.specs.declared.instruction.Operation.TheVariants.{Answer, EndLoop, Evaluate}
use Rattle.hep_machine.specs.declared.event.Kind.{Kind}
use Rattle.hep_machine.specs.Words.{Location, Units, run, StateFunction, ValueOf}
use Rattle.hep_state.specs.declared.core_state.CoreState.{CoreState}
use Rattle.hep_event.specs.Sites.{IsSiteAfter}
use Rattle.hep_event.specs.declared.sites.Site.{Site}
use Rattle.hep_diff.specs.ProcessSteps.{found_at}
use Rattle.hep_diff.specs.declared.process_step.CellReading.{CellReading}

-- how an operation reads the variable that it names, if it does
abbrev pub asked_by : Operation → Option StateFunction
asked_by (Evaluate (Load x n)) = Some ValueOf
asked_by (Evaluate (Test f x n)) = Some f
asked_by (EndLoop x cells inside behind) = Some ValueOf
asked_by (Answer x) = Some ValueOf
asked_by _ = None

-- this is read at the site, whichever storage unit it is of
abbrev pub HasFound : CoreState → Option Site → StateFunction → Option CellReading → Type 0
HasFound m site f found =
    (program : Units) (cells : ℕ) (choices : List ℕ) (at : Result Location Kind) → IsSiteAfter program cells choices m site at
    → found ≡ found_at program (run program choices) f at
