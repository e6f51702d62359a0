-- What a call makes of a core that is shared.
use Rattle.std.proofs.Common.{◌≡◌, ℕ, zero, suc, false, Result, Ok, Err, IfOk, IfErr, inl, inr, sym, ap, ◌∙◌, subst}
use Rattle.hep_private.specs.declared.ticket.TicketId.{TicketId}
use Rattle.hep_private.specs.Segments.{SegmentValue, TicketValue, most_records}
use Rattle.hep_core.specs.Commits.{AreTurnsAtOnce, IsCancelled, IsCheckedOut, IsCommitted, IsTurnAtOnce}
use Rattle.hep_core.specs.ProcessPlaces.{ArePlaces, PlacedCore}
use Rattle.hep_core.specs.CoreValues.{CoreValue}
use Rattle.hep_core.specs.declared.core_fault.ChooseFault.{ChooseFault}
use Rattle.hep_core.specs.declared.core_fault.ChooseFault.TheVariants as choosing
use Rattle.hep_core.specs.declared.core_fault.CommitFault.{CommitFault}
use Rattle.hep_core.specs.declared.core_fault.CommitFault.TheVariants as committing
use Rattle.hep_workers.specs.declared.receipt.Receipt.{Receipt}
use Rattle.hep_workers.specs.SharedCores.{IsOfOneRun, IsSharedFrom, checked_out, committed}
use Rattle.hep_core.proofs.SilentChoices.{last-more}
use Rattle.hep_machine.specs.Words.{last_process}
use Rattle.hep_workers.proofs.Committed.{one-entry}
use Rattle.hep_workers.proofs.SharedCores.{by-commit}
use Rattle.hep_workers.specs.Turns.{HasCommitted}
use Rattle.hep_workers.specs.LockedCalls.{IsTurned}

abbrev pub AreTold : PlacedCore → PlacedCore → SegmentValue → Result Receipt CommitFault → Type 0
AreTold old new s r = IfOk r (λ receipt. HasCommitted old s receipt new) × IfErr r (λ fault. IsCommitted old s (Err fault) new)

pub turned : (opening : CoreValue) (old new : PlacedCore) (s : SegmentValue) (r : Result Receipt CommitFault) → ArePlaces new → AreTold old new s r → IsSharedFrom opening old → IsSharedFrom opening new
turned opening old new s (Ok receipt) placed told before = committed old new s (Ok told.0.0) before told.0.2 placed
turned opening old new s (Err fault) placed told before = committed old new s (Err fault) before told.1 placed

pub one-turned : (old new : PlacedCore) (s : SegmentValue) (r : Result Receipt CommitFault) → AreTold old new s r → IsOfOneRun old.core new.core
one-turned old new s (Ok receipt) told = by-commit old new s (Ok told.0.0) told.0.2
one-turned old new s (Err fault) told = by-commit old new s (Err fault) told.1

-- a turn in one is a check-out and a commit
pub turned-at-once : (opening : CoreValue) (old new : PlacedCore) (p n : ℕ) → IsSharedFrom opening old → IsTurnAtOnce old p n new → IsSharedFrom opening new
turned-at-once opening old new p n before turn =
    committed turn.out new turn.segment (Ok (record { steps = n; blocked = false })) (checked_out old turn.out p (Ok turn.ticket) before (inl turn.next) turn.checked_out) turn.committed turn.placed

-- and several of them are as many
pub turned-several : (opening : CoreValue) (p n : ℕ) (old new : PlacedCore) → IsSharedFrom opening old → AreTurnsAtOnce p n old new → IsSharedFrom opening new
turned-several opening p zero old new before same = subst (IsSharedFrom opening) (sym same) before
turned-several opening p (suc n) old new before (mid, first, full, rest) = turned-several opening p n mid new (turned-at-once opening old mid p most_records before first) rest

-- ---- no entry

abbrev pub HasSame : PlacedCore → PlacedCore → Type 0
HasSame old new = new.core.history ≡ old.core.history

pub checked-out-same : (old new : PlacedCore) (p : ℕ) (answer : Result TicketValue ChooseFault) → IsCheckedOut old p answer new → HasSame old new
checked-out-same old new p (Ok ticket) (free, left, room, given) = ap (λ (x : PlacedCore). x.core.history) given.3
checked-out-same old new p (Err (choosing.Stopped stop)) (inl (at, is)) = ap (λ (x : PlacedCore). x.core.history) is
checked-out-same old new p (Err (choosing.Stopped stop)) (inr (free, left, full, at, is)) = ap (λ (x : PlacedCore). x.core.history) is
checked-out-same old new p (Err choosing.NoSuchProcess) (going, none, is) = ap (λ (x : PlacedCore). x.core.history) is
checked-out-same old new p (Err choosing.IsOut) (going, lives, out, is) = ap (λ (x : PlacedCore). x.core.history) is
checked-out-same old new p (Err choosing.NoTicket) (free, none, is) = ap (λ (x : PlacedCore). x.core.history) is
checked-out-same old new p (Err choosing.NoMemory) (free, left, room, is) = ap (λ (x : PlacedCore). x.core.history) is

pub cancelled-same : (old new : PlacedCore) (id : TicketId) (answer : Result (Unit {0}) CommitFault) → IsCancelled old id answer new → HasSame old new
cancelled-same old new id (Ok done) (going, lives, ticket, is) = ap (λ (x : PlacedCore). x.core.history) is
cancelled-same old new id (Err (committing.Stopped stop)) (at, is) = ap (λ (x : PlacedCore). x.core.history) is
cancelled-same old new id (Err committing.Stale) (going, other, is) = ap (λ (x : PlacedCore). x.core.history) is
cancelled-same old new id (Err committing.NoMemory) none = absurd none

-- ---- what is told of a call

-- a turn is told by its commit
pub told-turned : (old new : PlacedCore) (s : SegmentValue) (receipt : Receipt) → HasCommitted old s receipt new → IsTurned old s (Ok tt) new
told-turned old new s receipt (turn, steps, made) = (turn, made)

pub told-unturned : (old new : PlacedCore) (s : SegmentValue) (fault : CommitFault) → IsCommitted old s (Err fault) new → IsTurned old s (Err fault) new
told-unturned old new s (committing.Stopped stop) is = is
told-unturned old new s committing.Stale is = is
told-unturned old new s committing.NoMemory (good, room, gap, same) = same

-- behind it its process has made the last entry
pub turned-last : (old new : PlacedCore) (s : SegmentValue) → IsTurned old s (Ok tt) new → last_process new.core.history ≡ s.id.process
turned-last old new s (turn, made) =
    ap last_process (one-entry old new s turn made) ∙ last-more old.core.history (record { process = s.id.process; steps = turn.steps })
