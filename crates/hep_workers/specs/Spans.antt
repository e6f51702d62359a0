-- The spans of a worker's entries in a history: docs/MACHINE.md, "Workers".
use Rattle.std.specs.Prelude.{ℕ, zero, suc, ◌+◌, Bool, nat_eq, nat_le, if◌then◌else◌, List, [], ◌∷◌, ◌++◌, Option, Some, None, slice_get}
use Rattle.std.specs.List.{list_all}
use Rattle.hep_machine.specs.declared.event.Entry.{Entry}
use Rattle.hep_workers.specs.declared.receipt.Receipt.{Receipt}
use Rattle.hep_workers.specs.declared.spans.EntrySpan.{EntrySpan}

-- the receipt of the entry at an index, if there is one
abbrev pub receipt_of : ℕ → ℕ → Option Entry → List Receipt
receipt_of worker index None = []
receipt_of worker index (Some e) = record { index = index; process = e.process; worker = worker; steps = e.steps } ∷ []

abbrev pub receipt_at : List Entry → ℕ → ℕ → List Receipt
receipt_at history worker index = receipt_of worker index (slice_get history index)

-- the receipts of a number of entries from an index on
abbrev pub receipts_in : List Entry → ℕ → ℕ → ℕ → List Receipt
receipts_in history worker first zero = []
receipts_in history worker first (suc n) = receipts_in history worker first n ++ receipt_at history worker (first + n)

-- the receipts of all spans
abbrev pub log_of : List Entry → ℕ → List EntrySpan → List Receipt
log_of history worker [] = []
log_of history worker (s ∷ ss) = receipts_in history worker s.first s.count ++ log_of history worker ss

-- one more entry: it joins the last span where that ends just before it
abbrev pub with_entry : List EntrySpan → ℕ → List EntrySpan
with_entry [] index = record { first = index; count = 1 } ∷ []
with_entry (s ∷ []) index =
    if nat_eq (s.first + s.count) index then record { first = s.first; count = s.count + 1 } ∷ [] else s ∷ record { first = index; count = 1 } ∷ []
with_entry (s ∷ t ∷ ss) index = s ∷ with_entry (t ∷ ss) index

-- a number of entries more, at indexes that follow one another
abbrev pub with_entries : List EntrySpan → ℕ → ℕ → List EntrySpan
with_entries spans index zero = spans
with_entries spans index (suc n) = with_entry (with_entries spans index n) (index + n)

-- each span ends at this index at the latest
abbrev pub are_inside : ℕ → List EntrySpan → Bool
are_inside count spans = list_all (λ (s : EntrySpan). nat_le (s.first + s.count) count) spans
