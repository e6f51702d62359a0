-- The spans of workers' entries, as they are kept under the lock: docs/MACHINE.md, "Workers".
use Rattle.std.specs.Prelude.{◌≡◌, ◌≢◌, ℕ, zero, suc, ◌+◌, Bool, true, List, [], ◌∷◌, ◌++◌, map}
use Rattle.std.specs.Global.{Vec}
use Rattle.std.specs.List.{list_all}
use Rattle.hep_machine.specs.declared.event.Entry.{Entry}
use Rattle.hep_core.specs.ProcessPlaces.{PlacedCore}
use Rattle.hep_core.specs.CoreValues.{CoreValue, verdict_of}
use Rattle.hep_core.specs.declared.stop.Verdict.TheVariants.{Running}
use Rattle.hep_workers.specs.SharedCores.{IsOfOneRun, IsSharedFrom}
use Rattle.hep_workers.specs.declared.receipt.Receipt.{Receipt}
use Rattle.hep_workers.specs.declared.spans.EntrySpan.{EntrySpan}
use Rattle.hep_workers.specs.Receipts.{AreEntries, all_rise, are_of_workers, receipts_of}
use Rattle.hep_workers.specs.Spans.{are_inside, log_of}

-- the numbers of all workers, by their count
abbrev pub worker_numbers : ℕ → List ℕ
worker_numbers zero = []
worker_numbers (suc n) = worker_numbers n ++ suc n ∷ []

-- there is a log for each worker, with receipts of that worker alone, which rise; all together are the history's
-- entries, each once
pub record AreLogsOf (workers : ℕ) (history : List Entry) (logs : List (List Receipt)) : Type 0 where
  pub entries : AreEntries history (receipts_of logs)
  pub rising : all_rise logs ≡ true
  pub numbered : are_of_workers workers logs ≡ true

-- the spans of each worker
abbrev pub lists_of : List (Vec EntrySpan) → List (List EntrySpan)
lists_of lists = map (λ (v : Vec EntrySpan). v.items) lists

-- the logs of workers whose numbers rise by one from this number on
abbrev pub logs_of : List Entry → ℕ → List (List EntrySpan) → List (List Receipt)
logs_of history worker [] = []
logs_of history worker (spans ∷ lists) = log_of history worker spans ∷ logs_of history (worker + 1) lists

-- all spans end at this index at the latest
abbrev pub all_inside : ℕ → List (List EntrySpan) → Bool
all_inside count lists = list_all (are_inside count) lists

-- a core at an opening, which has made no step
abbrev pub IsAtOpening : CoreValue → CoreValue → Type 0
IsAtOpening opening core = (core ≡ opening) × (core.history ≡ [])

-- the result of the workers: a core of the opening's run, which is over, and which they have made; and the logs of
-- its history
pub record HasLeft (opening : CoreValue) (workers : ℕ) (left : PlacedCore) (logs : List (List Receipt)) : Type 0 where
  pub run : IsOfOneRun opening left.core
  pub over : verdict_of left.core ≢ Running
  pub shared : ∥ IsSharedFrom opening left ∥₁
  pub logged : ∥ AreLogsOf workers left.core.history logs ∥₁

-- the same, by the spans of their entries
abbrev pub HasLeftLists : CoreValue → ℕ → PlacedCore → List (Vec EntrySpan) → Type 0
HasLeftLists opening workers left lists = HasLeft opening workers left (logs_of left.core.history 1 (lists_of lists))
