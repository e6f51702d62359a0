-- Processes that wait, by their numbers: docs/RUNS.md, "What each step did".
use Rattle.std.specs.Prelude.{ℕ, List, length}
use Rattle.std.specs.List.{filter}
use Rattle.hep_core.specs.CoreValues.{CoreValue}
use Rattle.hep_machine.specs.Words.{is_number_among, progress_after}
use Rattle.hep_event.specs.Traces.{numbers_from}

-- the listed ones of n processes from this number on
abbrev pub listed_from : CoreValue → ℕ → ℕ → List ℕ
listed_from core p n = filter (λ q. is_number_among q (progress_after core.program core.history).listed) (numbers_from p n)

-- of all that were made
abbrev pub listed_numbers : CoreValue → List ℕ
listed_numbers core = listed_from core 1 (length (progress_after core.program core.history).state.processes)
