-- A commit has one entry more, and one that is refused leaves the history.
use Rattle.std.proofs.Common.{◌≡◌, ℕ, zero, suc, Bool, true, false, List, [], ◌∷◌, ◌++◌, Result, Ok, Err, IfErr, Option, Some, None, IfSome, replicate, append_assoc, inl, inr, ap, subst, sym, ◌∙◌}
use Rattle.std.specs.Result.{IsErrAnd}
use Rattle.std.proofs.lemmas.List.{append-nil}
use Rattle.std.proofs.lemmas.Result.{err_from_is_err_and}
use Rattle.hep_core.specs.Commits.{AreTurnsAtOnce, IsCommitted, IsTakenBy, IsTurnAtOnce, core_after_return}
use Rattle.hep_core.specs.ProcessPlaces.{PlacedCore}
use Rattle.hep_core.specs.CoreValues.{CoreValue, IsTurn}
use Rattle.hep_core.specs.declared.core_fault.CommitFault.{CommitFault}
use Rattle.hep_core.specs.declared.core_fault.CommitFault.TheVariants.{NoMemory, Stale, Stopped}
use Rattle.hep_core.specs.declared.stop.Turn.{Turn}
use Rattle.hep_machine.specs.declared.event.Entry.{Entry}
use Rattle.hep_private.specs.declared.record.Record.{Record}
use Rattle.hep_private.specs.declared.ticket.TicketId.{TicketId}
use Rattle.hep_private.specs.Segments.{SegmentValue, Start, TicketValue, most_records}

-- ---- one entry more

abbrev HasEntry : CoreValue → ℕ → ℕ → CoreValue → Type 0
HasEntry old p n new = new.history ≡ old.history ++ record { process = p; steps = n } ∷ []

by-turn : (old : CoreValue) (p n : ℕ) (blocked : Bool) (new : CoreValue) → IsTurn old p n blocked new → HasEntry old p n new
by-turn old p zero true new t = ap (λ (c : CoreValue). c.history) t.1
by-turn old p zero false new t = absurd t
by-turn old p (suc zero) true new t = absurd t
by-turn old p (suc zero) false new t = ap (λ (c : CoreValue). c.history) t.2
by-turn old p (suc (suc n)) blocked new t = absurd t

by-steps : (rs : List Record) (old : CoreValue) (start : Start) (s : SegmentValue) (turn : Turn) (new : CoreValue) → IsTakenBy rs old start s turn new
    → HasEntry old s.id.process turn.steps new
by-steps [] old start s turn new chosen = by-turn old s.id.process turn.steps turn.blocked new chosen.3
by-steps (r ∷ rs) old start s turn new (room, going, inl (many, other, made)) =
    subst (λ n. HasEntry old s.id.process n new) (sym many) (ap (λ (c : CoreValue). c.history) made.1)
by-steps (r ∷ rs) old start s turn new (room, going, inr (many, made, left)) =
    subst (λ n. HasEntry old s.id.process n new) (sym many) (ap (λ (c : CoreValue). c.history) made.1)

module _ (old new : PlacedCore) (s : SegmentValue) where
  pub one-entry : (turn : Turn) → IsCommitted old s (Ok turn) new → HasEntry old.core s.id.process turn.steps new.core
  one-entry turn (start, good, taken) = by-steps s.records (core_after_return old.core s.id.process) start s turn new.core taken

  -- ---- no entry

  pub no-entry : (fault : CommitFault) → IsCommitted old s (Err fault) new → new.core.history ≡ old.core.history
  no-entry (Stopped stop) (inl (at, same)) = ap (λ (x : PlacedCore). x.core.history) same
  no-entry (Stopped stop) (inr (inl (good, full, at, same))) = ap (λ (x : PlacedCore). x.core.history) same
  no-entry (Stopped stop) (inr (inr (good, room, none, gap, at, same))) = ap (λ (x : PlacedCore). x.core.history) same
  no-entry Stale (going, bad, same) = ap (λ (x : PlacedCore). x.core.history) same
  no-entry NoMemory (good, room, gap, same) = ap (λ (x : PlacedCore). x.core.history) same

-- ---- turns in one

pub at-once-entry : (old new : PlacedCore) (p n : ℕ) → IsTurnAtOnce old p n new → HasEntry old.core p n new.core
at-once-entry old new p n turn =
    let given = turn.checked_out.3 in
    let process : turn.segment.id.process ≡ p = ap (λ (id : TicketId). id.process) (turn.of ∙ ap (λ (t : TicketValue). t.id) given.2) in
    let history : turn.out.core.history ≡ old.core.history = ap (λ (x : PlacedCore). x.core.history) given.3 in
    one-entry turn.out new turn.segment (record { steps = n; blocked = false }) turn.committed ∙ (λ i. history i ++ record { process = process i; steps = n } ∷ [])

-- several of them have as many entries more
pub at-once-entries : (p n : ℕ) (old new : PlacedCore) → AreTurnsAtOnce p n old new → new.core.history ≡ old.core.history ++ replicate n (record { process = p; steps = most_records })
at-once-entries p zero old new same = ap (λ (x : PlacedCore). x.core.history) same ∙ sym (append-nil old.core.history)
at-once-entries p (suc n) old new (mid, first, full, rest) =
    let e : Entry = record { process = p; steps = most_records } in
    at-once-entries p n mid new rest
    ∙ ap (λ (h : List Entry). h ++ replicate n e) (at-once-entry old mid p most_records first)
    ∙ append_assoc old.core.history (e ∷ []) (replicate n e)

pub entries-so : (n : ℕ) (old new : PlacedCore) (r : Option ℕ) → IfSome r (λ p. AreTurnsAtOnce p n old new)
    → IfSome r (λ p. new.core.history ≡ old.core.history ++ replicate n (record { process = p; steps = most_records }))
entries-so n old new None made = tt
entries-so n old new (Some p) made = at-once-entries p n old new made

-- ---- faults that are passed on

pub fault-so : {A E : Type 0} (r : Result A E) (e : E) (IsSo : E → Type 0) → IsErrAnd r (λ x. x ≡ e) → IsSo e → IfErr r IsSo
fault-so r e IsSo h given = let told = err_from_is_err_and r h in subst (λ x. IfErr x IsSo) (sym (told.1 ∙ ap Err told.2)) given
