-- Receipts and the entries of a history: docs/MACHINE.md, "Workers".
use Rattle.std.specs.Prelude.{◌≡◌, ℕ, ◌+◌, ◌<◌, ◌&&◌, Bool, true, nat_eq, nat_lt, if◌then◌else◌, List, [], ◌∷◌, ◌++◌, Some, length, slice_get}
use Rattle.std.specs.List.{list_all}
use Rattle.hep_machine.specs.declared.event.Entry.{Entry}
use Rattle.hep_workers.specs.declared.receipt.Receipt.{Receipt}
use Rattle.hep_workers.specs.Turns.{are_of, entry_of}

-- the receipt has the index, the process and the steps of an entry of the history
abbrev pub Names : List Entry → Receipt → Type 0
Names history r = slice_get history r.index ≡ Some (entry_of r)

abbrev pub AllName : List Entry → List Receipt → Type 0
AllName history [] = Unit {0}
AllName history (r ∷ rs) = Names history r × AllName history rs

abbrev pub one_where : ℕ → ℕ → ℕ
one_where i k = if nat_eq i k then 1 else 0

-- the number of receipts with this index
abbrev pub times_named : ℕ → List Receipt → ℕ
times_named i [] = 0
times_named i (r ∷ rs) = one_where i r.index + times_named i rs

-- the receipts are the history's entries, each once
pub record AreEntries (history : List Entry) (receipts : List Receipt) : Type 0 where
  pub named : AllName history receipts
  pub once : (i : ℕ) → i < length history → times_named i receipts ≡ 1

-- the receipts of all logs
abbrev pub receipts_of : List (List Receipt) → List Receipt
receipts_of [] = []
receipts_of (log ∷ logs) = log ++ receipts_of logs

-- each index is above the one before
abbrev pub rises : List Receipt → Bool
rises [] = true
rises (r ∷ []) = true
rises (r ∷ q ∷ rs) = nat_lt r.index q.index && rises (q ∷ rs)

abbrev pub all_rise : List (List Receipt) → Bool
all_rise logs = list_all rises logs

-- each log has the receipts of one worker, and the numbers of the workers rise by one from this number on
abbrev pub are_numbered : ℕ → List (List Receipt) → Bool
are_numbered worker [] = true
are_numbered worker (log ∷ logs) = are_of worker log && are_numbered (worker + 1) logs

-- there is one log for each worker, numbered from 1
abbrev pub are_of_workers : ℕ → List (List Receipt) → Bool
are_of_workers workers logs = nat_eq (length logs) workers && are_numbered 1 logs
