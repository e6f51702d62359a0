-- The results of workers' calls under the lock: docs/MACHINE.md, "Workers".
use Rattle.std.specs.Prelude.{◌≡◌, ◌⊎◌, ℕ, Option, Some, None, Result, Ok, Err}
use Rattle.hep_private.specs.declared.ticket.TicketId.{TicketId}
use Rattle.hep_private.specs.Segments.{SegmentValue, TicketValue}
use Rattle.hep_core.specs.Commits.{IsCancelled, IsCheckedOut, IsCommitted}
use Rattle.hep_core.specs.ProcessPlaces.{PlacedCore}
use Rattle.hep_core.specs.declared.core_fault.ChooseFault.TheVariants as choosing
use Rattle.hep_core.specs.declared.core_fault.CommitFault.{CommitFault}
use Rattle.hep_core.specs.declared.core_fault.CommitFault.TheVariants as committing
use Rattle.hep_core.specs.declared.stop.ChoiceStop.{ChoiceStop}
use Rattle.hep_core.specs.declared.stop.Turn.{Turn}

-- no ticket was given to p, because the core has stopped, or p doesn't live or is out
abbrev pub IsUnfree : PlacedCore → ℕ → PlacedCore → Type 0
IsUnfree old p new =
    ((stop : ChoiceStop) × IsCheckedOut old p (Err (choosing.Stopped stop)) new)
    ⊎ (IsCheckedOut old p (Err choosing.NoSuchProcess) new ⊎ IsCheckedOut old p (Err choosing.IsOut) new)

-- the result of a check-out of p: its ticket, or none, or memory was refused
abbrev pub IsAnswered : {E : Type 0} → PlacedCore → ℕ → Result (Option TicketValue) E → PlacedCore → Type 0
IsAnswered old p (Ok (Some ticket)) new = IsCheckedOut old p (Ok ticket) new
IsAnswered old p (Ok None) new = IsUnfree old p new
IsAnswered old p (Err refused) new = new ≡ old

-- the result of a turn by this segment: its commit, or memory was refused before it
abbrev pub IsTurned : PlacedCore → SegmentValue → Result (Unit {0}) CommitFault → PlacedCore → Type 0
IsTurned old s (Ok done) new = (turn : Turn) × IsCommitted old s (Ok turn) new
IsTurned old s (Err (committing.Stopped stop)) new = IsCommitted old s (Err (committing.Stopped stop)) new
IsTurned old s (Err committing.Stale) new = IsCommitted old s (Err committing.Stale) new
IsTurned old s (Err committing.NoMemory) new = new ≡ old

-- a ticket was cancelled, if it was out
abbrev pub HasCancelled : PlacedCore → TicketId → PlacedCore → Type 0
HasCancelled old id new = (answer : Result (Unit {0}) CommitFault) × IsCancelled old id answer new
