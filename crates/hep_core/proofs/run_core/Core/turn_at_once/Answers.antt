use Rattle.std.proofs.Common.{◌≡◌, ◌≢◌, ◌∙◌, ◌<◌, ◌+◌, ◌⊎◌, ℕ, false, None, Some, inl, inr, refl, sym, ap, subst, arith}
use Rattle.hep_machine.specs.Words.{living}
use Rattle.hep_core.specs.Commits.{HasMovedAtOnce, IsTurnAtOnce, most_tickets}
use Rattle.hep_core.specs.Tickets.{is_out}
use Rattle.hep_core.specs.ProcessPlaces.{ArePlaces, PlacedCore, with_core}
use Rattle.hep_core.specs.CoreValues.{HasNoStop, next_ready_of, state_of}
use Rattle.hep_core.proofs.TurnsAtOnce.{at-once, behind-at-once, moved-given}
use Rattle.hep_core.proofs.OtherTickets.{chosen-good, good-itself, next-between}
use Rattle.hep_core.proofs.GoodTickets.{some-of}
use Rattle.hep_core.proofs.run_core.Core.turn_at_once.Goals as goal

by-way : (old mid new : PlacedCore) (p n : ℕ) → HasNoStop old.core → living (state_of old.core) p ≢ None → is_out p old.core.out ≡ false → old.core.given < most_tickets → next_ready_of old.core ≡ Some p
    → new ≡ with_core mid (record mid.core { given = mid.core.given + 1 }) → ArePlaces new → HasMovedAtOnce old p n mid → IsTurnAtOnce old p n new
by-way old mid new p n going lives home left next same placed (inl (one, alone, choices)) =
    subst (λ k. IsTurnAtOnce old p k new) (sym one) (at-once old mid new p going lives home left next same placed alone choices)
by-way old mid new p n going lives home left next same placed (inr (room, moved)) = behind-at-once old mid new p going lives home left next same placed n room moved

-- what was looked at before
pub returns-in-Some-clause-kept : goal.returns-in-Some-clause-kept
returns-in-Some-clause-kept c = good-itself c.args.self.now c.args.self.now refl

pub move_at_once-steps-requires-clause-lives : goal.move_at_once-steps-requires-clause-lives
move_at_once-steps-requires-clause-lives c = some-of (living (state_of c.args.self.now.core) c.in_ok-p.p) (sym c.lives.ensures ∙ c.if-not-lives.false)

pub count_ticket-requires : goal.count_ticket-requires
count_ticket-requires c =
    let moved = c.move_at_once-steps.ensures.made (omega (arith, c.if-steps-eq0.false)) in
    omega (arith, moved-given c.args.self.now c.move_at_once-steps.new.self c.in_ok-p.p c.move_at_once-steps.result moved, c.given.ensures, c.given.type_inv, c.if-given-eq18446744073709551615.false)

pub returns-clause-made : goal.returns-clause-made
returns-clause-made c =
    by-way c.args.self.now c.move_at_once-steps.new.self c.count_ticket.new.self c.in_ok-p.p c.move_at_once-steps.result c.in_default.ensures.none
    (some-of (living (state_of c.args.self.now.core) c.in_ok-p.p) (sym c.lives.ensures ∙ c.if-not-lives.false)) (sym c.is_out.ensures ∙ c.if-is_out.false)
    (omega (arith, c.given.ensures, c.given.type_inv, c.if-given-eq18446744073709551615.false)) (sym c.next_ready.ensures ∙ c.in_ok-p.was) c.count_ticket.ensures c.headline.ensures.placed (c.move_at_once-steps.ensures.made (omega (arith, c.if-steps-eq0.false)))

pub returns-clause-kept : goal.returns-clause-kept
returns-clause-kept c =
    let p = c.in_ok-p.p in
    let old = c.args.self.now in
    let mid = c.move_at_once-steps.new.self in
    let same = c.count_ticket.ensures in
    let leaves = c.move_at_once-steps.ensures.others (omega (arith, c.if-steps-eq0.false)) in
    chosen-good p old c.count_ticket.new.self (sym c.is_out.ensures ∙ c.if-is_out.false) (
    next-between p old old mid c.count_ticket.new.self refl refl refl leaves (ap (λ (v : PlacedCore). v.places) same) (ap (λ (v : PlacedCore). v.core.program) same) (ap (λ (v : PlacedCore). state_of v.core) same) (ap (λ (v : PlacedCore). v.core.stop) same))
