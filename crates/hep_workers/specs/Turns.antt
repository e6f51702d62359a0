-- A turn of a worker: docs/MACHINE.md, "Workers".
use Rattle.std.specs.Prelude.{◌≡◌, ℕ, Bool, nat_eq, List, [], ◌∷◌, ◌++◌, Ok, length}
use Rattle.std.specs.List.{list_all}
use Rattle.hep_machine.specs.declared.event.Entry.{Entry}
use Rattle.hep_core.specs.declared.stop.Turn.{Turn}
use Rattle.hep_private.specs.Segments.{SegmentValue}
use Rattle.hep_core.specs.Commits.{IsCommitted}
use Rattle.hep_core.specs.ProcessPlaces.{PlacedCore}
use Rattle.hep_workers.specs.declared.receipt.Receipt.{Receipt}

abbrev pub entry_of : Receipt → Entry
entry_of r = record { process = r.process; steps = r.steps }

-- all receipts are of one worker
abbrev pub are_of : ℕ → List Receipt → Bool
are_of worker receipts = list_all (λ r. nat_eq r.worker worker) receipts

-- the history has one more entry, which the worker's receipt names
abbrev pub IsReceipt : List Entry → ℕ → Receipt → List Entry → Type 0
IsReceipt old worker r new = (r.worker ≡ worker) × (r.index ≡ length old) × (new ≡ old ++ entry_of r ∷ [])

-- the commit of the segment made the receipt's steps
abbrev pub HasCommitted : PlacedCore → SegmentValue → Receipt → PlacedCore → Type 0
HasCommitted old s r new = (turn : Turn) × (turn.steps ≡ r.steps) × IsCommitted old s (Ok turn) new
