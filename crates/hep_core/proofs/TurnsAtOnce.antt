-- A turn in one is a check-out of the process that comes next, and the commit of the segment that is computed of its ticket.
use Rattle.std.proofs.Common.{◌≡◌, ◌≢◌, ◌⊎◌, ℕ, suc, ◌+◌, ◌<◌, true, false, List, [], ◌∷◌, ◌++◌, length, Ok, Some, None, inl, inr, refl, sym, ap, ◌∙◌, subst, arith}
use Rattle.hep_machine.specs.Words.{is_waiting, living, schedule_of}
use Rattle.hep_private.specs.OwnState.{begun}
use Rattle.hep_private.specs.declared.record.Record.{Record}
use Rattle.hep_commit.specs.TicketId.{TicketId}
use Rattle.hep_commit.specs.Segments.{IsKept, IsMadeOf, SegmentValue, Start, segment_value}
use Rattle.hep_commit.specs.SegmentStarts.{ticket_of}
use Rattle.hep_commit.specs.OwnCells.{own_cells_of}
use Rattle.hep_state.specs.Words.{HasNoGap}
use Rattle.hep_core.specs.Commits.{HasMovedAtOnce, HasMovedBehind, HasSteps, IsLeftOut, IsMadeBehind, IsOutBy, IsTurnAtOnce, StandsAlone, are_private, core_after_return, core_after_ticket, most_tickets, next_id, state_along}
use Rattle.hep_core.specs.SilentChoices.{AreChoices}
use Rattle.hep_core.specs.ProcessPlaces.{ArePlaces, IsWhere, PlacedCore, with_core}
use Rattle.hep_core.specs.Tickets.{has_ticket, is_out, without_process}
use Rattle.hep_core.specs.CoreValues.{CoreValue, HasNoStop, IsChoice, core_after_choice, next_ready_of, state_of}
use Rattle.hep_core.specs.declared.stop.Turn.{Turn}
use Rattle.hep_core.proofs.AfterPrivate.{taken-by}
use Rattle.hep_core.proofs.OtherTickets.{last-ticket}
use Rattle.hep_core.proofs.SilentChoices.{chosen-once}
use Rattle.hep_core.proofs.ProcessesOut.{home-left, without-home}

abbrev one : Turn
one = record { steps = 1; blocked = false }

-- a choice is the same of a core that has given more tickets
given-along : (old new : CoreValue) (p given : ℕ) → IsChoice old p (Ok one) new → IsChoice (record old { given = given }) p (Ok one) (record new { given = given })
given-along old new p given choice = (choice.0, choice.1, choice.2, (choice.3.0, choice.3.1, ap (λ (c : CoreValue). record c { given = given }) choice.3.2))

given-same : (old new : CoreValue) (p : ℕ) → IsChoice old p (Ok one) new → new.given ≡ old.given
given-same old new p choice = ap (λ (c : CoreValue). c.given) choice.3.2

-- no ticket is given on the way
pub moved-given : (old mid : PlacedCore) (p n : ℕ) → HasMovedAtOnce old p n mid → mid.core.given ≡ old.core.given
moved-given old mid p n (inl (once, alone, choices)) = given-same old.core mid.core p (chosen-once p old.core 1 mid.core refl choices)
moved-given old mid p n (inr (room, (start, at, moved))) =
    let of = moved (next_id old.core p) refl in
    by-way of.0 of.2.3
  where
    by-way : (s : SegmentValue) → IsMadeBehind (core_after_return old.core s.id.process) start s (record { steps = n; blocked = false }) mid.core ⊎ IsLeftOut (core_after_return old.core s.id.process) start s (record { steps = n; blocked = false }) mid.core → mid.core.given ≡ old.core.given
    by-way s (inl (many, other, steps)) = ap (λ (c : CoreValue). c.given) steps.1
    by-way s (inr (many, steps, why)) = ap (λ (c : CoreValue). c.given) steps.1

module _ (old mid new : PlacedCore) (p : ℕ) (going : HasNoStop old.core) (lives : living (state_of old.core) p ≢ None) (home : is_out p old.core.out ≡ false) (left : old.core.given < most_tickets) (next : next_ready_of old.core ≡ Some p)
    (same : new ≡ with_core mid (record mid.core { given = mid.core.given + 1 })) (placed : ArePlaces new) where
  abbrev id : TicketId
  id = next_id old.core p

  abbrev given_then : ℕ
  given_then = old.core.given + 1

  abbrev out : PlacedCore
  out = with_core old (core_after_ticket old.core p)

  -- who is out then
  tickets : without_process p (old.core.out ++ id ∷ []) ≡ old.core.out
  tickets = home-left p id old.core.out refl home

  -- the core once the ticket is counted
  counted : mid.core.given ≡ old.core.given → record mid.core { given = given_then } ≡ new.core
  counted as_many = (λ j. record mid.core { given = sym as_many j + 1 }) ∙ sym (ap (λ (v : PlacedCore). v.core) same)

  -- its ticket is out there
  out-there : IsOutBy out.core (segment_value id 0 0 [] [] 0 [])
  out-there = (going, lives, last-ticket id old.core.out)

  -- where no private step comes next
  pub at-once : StandsAlone old p → AreChoices p old.core 1 mid.core → IsTurnAtOnce old p 1 new
  at-once (start, at, alone) choices =
      let ticket = ticket_of id start (own_cells_of old.core.program start.unit) in
      let s = segment_value id start.unit start.index start.operands [] start.index start.operands in
      let choice = chosen-once p old.core 1 mid.core refl choices in
      let values = start.values in
      let made : IsMadeOf old.core.program values s = record { end = begun start.index start.operands values; made = refl; index = refl; operands = refl } in
      let begins : IsKept start s = (record { unit = refl; index = refl; operands = refl }, tt) in
      let taken : IsChoice (core_after_return (core_after_ticket old.core p) p) p (Ok one) new.core =
      subst (λ (ts : List TicketId). IsChoice (record old.core { out = ts; given = given_then }) p (Ok one) new.core) (sym tickets) (
      subst (λ (c : CoreValue). IsChoice (record old.core { given = given_then }) p (Ok one) c) (counted (given-same old.core mid.core p choice)) (given-along old.core mid.core p given_then choice)) in
      record {
        next = next;
        ticket = ticket;
        out = out;
        checked_out = ((going, lives, home), left, choice.2, (start, at, refl, refl));
        segment = s;
        of = refl;
        alone = λ none. (start, at, alone);
        full = λ none. absurd (omega (arith, none));
        placed = placed;
        committed = (start, (out-there, at, (begins, (values, made))), taken);
      }

  -- behind private steps
  steps-along : (n : ℕ) → HasSteps (core_after_return old.core p) p n mid.core → HasSteps (core_after_return (core_after_ticket old.core p) p) p n new.core
  steps-along n (made, is) =
      let outs : without_process p old.core.out ≡ without_process p (old.core.out ++ id ∷ []) = without-home p old.core.out home ∙ sym tickets in (
        made,
        sym (counted (ap (λ (c : CoreValue). c.given) is))
            ∙ (ap (λ (c : CoreValue). record c { given = given_then }) is
            ∙ (λ j. core_after_choice (record old.core { out = outs j; given = given_then }) p n (state_along (record old.core { out = outs j; given = given_then }) p n))),
      )

  pub behind-at-once : (n : ℕ) → length old.core.history < old.core.limit → HasMovedBehind old p n mid → IsTurnAtOnce old p n new
  behind-at-once n room (start, at, moved) =
      let ticket = ticket_of id start (own_cells_of old.core.program start.unit) in
      let of = moved id refl in
      let s = of.0 in
      let own : s.id ≡ id = of.1 in
      let by = of.2 in
      let turn : Turn = record { steps = n; blocked = false } in
      let back = core_after_return (core_after_ticket old.core p) p in
      let process : s.id.process ≡ p = ap (λ (t : TicketId). t.process) own in
      let further : IsMadeBehind (core_after_return out.core s.id.process) start s turn new.core ⊎ IsLeftOut (core_after_return out.core s.id.process) start s turn new.core =
      further-so n start s process by.3 in
      record {
        next = next;
        ticket = ticket;
        out = out;
        checked_out = ((going, lives, home), left, room, (start, at, refl, refl));
        segment = s;
        of = own;
        alone = λ none. let long = ap (λ (rs : List Record). length rs) none in absurd (omega (arith, by.1, long));
        full = by.2;
        placed = placed;
        committed = (
          start,
          (
            subst (λ (t : TicketId). HasNoStop out.core × (living (state_of out.core) t.process ≢ None) × (has_ticket t out.core.out ≡ true)) (sym own) out-there,
            subst (λ q. IsWhere out q start) (sym process) at,
            by.0,
          ),
          taken-by s.records (core_after_return out.core s.id.process) start s turn new.core by.1 room refl further,
        );
      }
    where
      further-so : (n : ℕ) (start : Start) (s : SegmentValue) → s.id.process ≡ p
          → IsMadeBehind (core_after_return old.core s.id.process) start s (record { steps = n; blocked = false }) mid.core ⊎ IsLeftOut (core_after_return old.core s.id.process) start s (record { steps = n; blocked = false }) mid.core
          → IsMadeBehind (core_after_return out.core s.id.process) start s (record { steps = n; blocked = false }) new.core ⊎ IsLeftOut (core_after_return out.core s.id.process) start s (record { steps = n; blocked = false }) new.core
      further-so n start s own (inl (many, other, steps)) =
          inl (
            many,
            other,
            subst (λ q. HasSteps (core_after_return out.core q) q (suc (length s.records)) new.core) (sym own) (
                steps-along (suc (length s.records)) (subst (λ q. HasSteps (core_after_return old.core q) q (suc (length s.records)) mid.core) own steps)),
          )
      further-so n start s own (inr (many, steps, why)) =
          let there = steps-along (length s.records) (subst (λ q. HasSteps (core_after_return old.core q) q (length s.records) mid.core) own steps) in
          let is = counted (ap (λ (c : CoreValue). c.given) steps.1) in
          inr (
            many,
            subst (λ q. HasSteps (core_after_return out.core q) q (length s.records) new.core) (sym own) there,
            subst (λ (c : CoreValue). (are_private old.core.program start (suc (length s.records)) ≡ true) ⊎ (is_waiting c.program (state_of c) s.id.process ≡ true) ⊎ HasNoGap c.program c.cells (schedule_of c.history) s.id.process) is why,
          )

  -- by the segment of its ticket
  pub segment-is : (n : ℕ) (room : length old.core.history < old.core.limit) (moved : HasMovedBehind old p n mid) → (behind-at-once n room moved).segment ≡ (moved.2 id refl).0
  unfolding behind-at-once
  segment-is n room (start, at, moved) = refl
