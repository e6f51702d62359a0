-- Each call that is made of a core that workers share leaves it one of the same run.
use Rattle.std.proofs.Common.{◌≡◌, ℕ, zero, suc, Bool, true, false, List, [], ◌∷◌, Result, Ok, Err, inl, inr, refl, ap, ◌∙◌}
use Rattle.hep_private.specs.declared.record.Record.{Record}
use Rattle.hep_private.specs.declared.ticket.TicketId.{TicketId}
use Rattle.hep_private.specs.Segments.{SegmentValue, Start, TicketValue, most_records}
use Rattle.hep_core.specs.Commits.{AreTurnsAtOnce, IsCancelled, IsCheckedOut, IsCommitted, IsTakenBy, IsTurnAtOnce, core_after_return}
use Rattle.hep_core.specs.ProcessPlaces.{PlacedCore}
use Rattle.hep_core.specs.CoreValues.{CoreValue, IsTurn}
use Rattle.hep_core.specs.declared.core_fault.ChooseFault.{ChooseFault}
use Rattle.hep_core.specs.declared.core_fault.ChooseFault.TheVariants as choosing
use Rattle.hep_core.specs.declared.core_fault.CommitFault.{CommitFault}
use Rattle.hep_core.specs.declared.core_fault.CommitFault.TheVariants as committing
use Rattle.hep_core.specs.declared.stop.Turn.{Turn}
use Rattle.hep_workers.specs.SharedCores.{IsOfOneRun}

same-core : (a b : CoreValue) → b ≡ a → IsOfOneRun a b
same-core a b is = record { program = ap (λ (v : CoreValue). v.program) is; cells = ap (λ (v : CoreValue). v.cells) is; limit = ap (λ (v : CoreValue). v.limit) is }

-- one that has these of another one
changed : (old mid new : CoreValue) → IsOfOneRun old mid → new ≡ mid → IsOfOneRun old new
changed old mid new one is =
    record {
      program = ap (λ (v : CoreValue). v.program) is ∙ one.program;
      cells = ap (λ (v : CoreValue). v.cells) is ∙ one.cells;
      limit = ap (λ (v : CoreValue). v.limit) is ∙ one.limit;
    }

-- one after the other
then : (opening old new : CoreValue) → IsOfOneRun opening old → IsOfOneRun old new → IsOfOneRun opening new
then opening old new one two = record { program = two.program ∙ one.program; cells = two.cells ∙ one.cells; limit = two.limit ∙ one.limit }

-- seen of the whole
placed : (old : PlacedCore) (core : CoreValue) (new with : PlacedCore) → with.core ≡ core → IsOfOneRun old.core core → new ≡ with → IsOfOneRun old.core new.core
placed old core new with seen one is = changed old.core core new.core one (ap (λ (v : PlacedCore). v.core) is ∙ seen)

-- ---- turns

by-turn : (old : CoreValue) (p n : ℕ) (blocked : Bool) (new : CoreValue) → IsTurn old p n blocked new → IsOfOneRun old new
by-turn old p zero true new t = changed old _ new (record { program = refl; cells = refl; limit = refl }) t.1
by-turn old p zero false new t = absurd t
by-turn old p (suc zero) true new t = absurd t
by-turn old p (suc zero) false new t = changed old _ new (record { program = refl; cells = refl; limit = refl }) t.2
by-turn old p (suc (suc n)) blocked new t = absurd t

by-steps : (rs : List Record) (old : CoreValue) (start : Start) (s : SegmentValue) (turn : Turn) (new : CoreValue) → IsTakenBy rs old start s turn new → IsOfOneRun old new
by-steps [] old start s turn new chosen = by-turn old s.id.process turn.steps turn.blocked new chosen.3
by-steps (r ∷ rs) old start s turn new (room, going, inl (many, other, made)) = changed old _ new (record { program = refl; cells = refl; limit = refl }) made.1
by-steps (r ∷ rs) old start s turn new (room, going, inr (many, made, left)) = changed old _ new (record { program = refl; cells = refl; limit = refl }) made.1

-- ---- the calls

pub by-check-out : (old new : PlacedCore) (p : ℕ) (answer : Result TicketValue ChooseFault) → IsCheckedOut old p answer new → IsOfOneRun old.core new.core
by-check-out old new p (Ok ticket) (free, left, room, given) = placed old _ new _ refl (record { program = refl; cells = refl; limit = refl }) given.3
by-check-out old new p (Err (choosing.Stopped stop)) (inl (at, is)) = placed old _ new _ refl (same-core old.core old.core refl) is
by-check-out old new p (Err (choosing.Stopped stop)) (inr (free, left, full, at, is)) = placed old _ new _ refl (record { program = refl; cells = refl; limit = refl }) is
by-check-out old new p (Err choosing.NoSuchProcess) (going, none, is) = placed old _ new _ refl (same-core old.core old.core refl) is
by-check-out old new p (Err choosing.IsOut) (going, lives, out, is) = placed old _ new _ refl (same-core old.core old.core refl) is
by-check-out old new p (Err choosing.NoTicket) (free, none, is) = placed old _ new _ refl (same-core old.core old.core refl) is
by-check-out old new p (Err choosing.NoMemory) (free, left, room, is) = placed old _ new _ refl (same-core old.core old.core refl) is

pub by-commit : (old new : PlacedCore) (s : SegmentValue) (answer : Result Turn CommitFault) → IsCommitted old s answer new → IsOfOneRun old.core new.core
by-commit old new s (Ok turn) (start, good, taken) =
    let one = by-steps s.records (core_after_return old.core s.id.process) start s turn new.core taken in
    record { program = one.program; cells = one.cells; limit = one.limit }
by-commit old new s (Err (committing.Stopped stop)) (inl (at, is)) = placed old _ new _ refl (same-core old.core old.core refl) is
by-commit old new s (Err (committing.Stopped stop)) (inr (inl (good, full, at, is))) = placed old _ new _ refl (record { program = refl; cells = refl; limit = refl }) is
by-commit old new s (Err (committing.Stopped stop)) (inr (inr (good, room, none, gap, at, is))) = placed old _ new _ refl (record { program = refl; cells = refl; limit = refl }) is
by-commit old new s (Err committing.Stale) (going, bad, is) = placed old _ new _ refl (same-core old.core old.core refl) is
by-commit old new s (Err committing.NoMemory) (good, room, gap, is) = placed old _ new _ refl (same-core old.core old.core refl) is

pub by-cancellation : (old new : PlacedCore) (id : TicketId) (answer : Result (Unit {0}) CommitFault) → IsCancelled old id answer new → IsOfOneRun old.core new.core
by-cancellation old new id (Ok done) (going, lives, ticket, is) = placed old _ new _ refl (record { program = refl; cells = refl; limit = refl }) is
by-cancellation old new id (Err (committing.Stopped stop)) (at, is) = placed old _ new _ refl (same-core old.core old.core refl) is
by-cancellation old new id (Err committing.Stale) (going, other, is) = placed old _ new _ refl (same-core old.core old.core refl) is
by-cancellation old new id (Err committing.NoMemory) none = absurd none

-- ---- turns in one

pub by-turn-at-once : (old new : PlacedCore) (p n : ℕ) → IsTurnAtOnce old p n new → IsOfOneRun old.core new.core
by-turn-at-once old new p n turn =
    then old.core turn.out.core new.core (by-check-out old turn.out p (Ok turn.ticket) turn.checked_out) (by-commit turn.out new turn.segment (Ok (record { steps = n; blocked = false })) turn.committed)

pub by-turns-at-once : (p n : ℕ) (old new : PlacedCore) → AreTurnsAtOnce p n old new → IsOfOneRun old.core new.core
by-turns-at-once p zero old new same = same-core old.core new.core (ap (λ (v : PlacedCore). v.core) same)
by-turns-at-once p (suc n) old new (mid, first, full, rest) = then old.core mid.core new.core (by-turn-at-once old mid p most_records first) (by-turns-at-once p n mid new rest)
