use Rattle.std.proofs.Common.{◌≡◌, ◌≢◌, ◌++◌, ◌+◌, ◌∷◌, [], ℕ, List, None, Some, Option, true, inl, inr, refl, sym, ap, ◌∙◌, subst}
use Rattle.hep_machine.specs.declared.event.Entry.{Entry}
use Rattle.hep_machine.specs.Words.{Units, living, state_after}
use Rattle.hep_commit.specs.TicketId.{TicketId}
use Rattle.hep_state.specs.declared.core_state.CoreState.{CoreState}
use Rattle.hep_commit.specs.OwnCells.{AreOwnCells}
use Rattle.hep_core.specs.Commits.{IsGivenTo, core_after_ticket}
use Rattle.hep_core.specs.Invariant.{AreLiving, CoreInvariant, core_value, placed_value}
use Rattle.hep_core.specs.ProcessPlaces.{PlacedCore}
use Rattle.hep_core.specs.Tickets.{is_out}
use Rattle.hep_core.proofs.AfterPrivate.{left-kept, left-value, roll-same, settled-room}
use Rattle.hep_core.proofs.Committing.{IsSettledIn, tops-of, where-now}
use Rattle.hep_core.proofs.GoodTickets.{AreSeen}
use Rattle.hep_core.proofs.ProcessesOut.{out-more}
use Rattle.hep_state.proofs.UnchangedStates.{on-err}
use Rattle.hep_commit.specs.SegmentStarts.{start_in}
use Rattle.hep_core.specs.CoreValues.{state_of}
use Rattle.hep_core.proofs.OutStates.{out-kept, settled-by, turn-in}
use Rattle.hep_core.proofs.run_core.Core.give.Goals as goal

-- those that are out live, with one more that lives
more-live : (program : Units) (history : List Entry) (p : ℕ) (id : TicketId) (out : List TicketId) → id.process ≡ p → living (state_after program history) p ≢ None → AreLiving program history out → AreLiving program history (out ++ id ∷ [])
more-live program history p id out own lives live q away = elim (out-more q id out away) [
  | inl before ↦ live q before
  | inr same ↦ subst (λ n. living (state_after program history) n ≢ None) (sym own ∙ same) lives
]

pub settle-requires : goal.settle-requires
settle-requires c = turn-in c.self.inside c.self.invariant c.args.self.now c.self.view_is c.requires.going c.args.p c.requires.lives c.args.p refl

pub start-requires : goal.start-requires
start-requires c =
    let i = c.self.inside in
    let is = settled-by i c.self.invariant c.args.self.now c.self.view_is c.requires.going c.args.p c.requires.lives c.args.p refl c.settle.new.self c.settle.ensures.after c.settle.ensures.top c.settle.ensures.made in
    (subst (AreOwnCells i.image) (sym c.deref.ensures.value) c.self.invariant.owned, is.turn)

pub invariant_of-self-in_err-ticket : goal.invariant_of-self-in_err-ticket
invariant_of-self-in_err-ticket c =
    let i = c.self.inside in
    let k = c.self.invariant in
    let first = settled-by i k c.args.self.now c.self.view_is c.requires.going c.args.p c.requires.lives c.args.p refl c.settle.new.self c.settle.ensures.after c.settle.ensures.top c.settle.ensures.made in
    let is = subst (IsSettledIn i c.args.p) (sym c.start.ensures.same) first in
    out-kept _ (left-kept i k i.history refl c.start.new.machine is.after i.roster (roll-same i.roster) (settled-room i k c.args.p c.start.new.machine is) i.saved i.stop k.named) c.reserve.new.self i.given (
    subst (AreLiving i.image i.history.items) (sym c.reserve.ensures.items) k.living)

pub returns-in_err-ticket-clause-refused : goal.returns-in_err-ticket-clause-refused
returns-in_err-ticket-clause-refused c =
    let i = c.self.inside in
    let k = c.self.invariant in
    let first = settled-by i k c.args.self.now c.self.view_is c.requires.going c.args.p c.requires.lives c.args.p refl c.settle.new.self c.settle.ensures.after c.settle.ensures.top c.settle.ensures.made in
    let is = subst (IsSettledIn i c.args.p) (sym c.start.ensures.same) first in
    let seen : AreSeen i.image i.cells = λ choices n. c.views_are_of_states.ensures i.image i.cells choices n c.is_runnable.ensures.accepted c.is_runnable.ensures.main in
    let left = left-value i k i.history refl c.start.new.machine is.after seen i.stop in
    on-err c.from_residual-in_err-ticket.result c.from_residual-in_err-ticket.ensures.0 (
    (λ j. record { core = record (left j) { out = c.reserve.ensures.items j }; places = is.places j }) ∙ c.self.view_is)

pub invariant_of-self-2 : goal.invariant_of-self-2
invariant_of-self-2 c =
    let i = c.self.inside in
    let k = c.self.invariant in
    let first = settled-by i k c.args.self.now c.self.view_is c.requires.going c.args.p c.requires.lives c.args.p refl c.settle.new.self c.settle.ensures.after c.settle.ensures.top c.settle.ensures.made in
    let is = subst (IsSettledIn i c.args.p) (sym c.start.ensures.same) first in
    let lives = subst (λ (v : PlacedCore). living (state_of v.core) c.args.p ≢ None) (sym c.self.view_is) c.requires.lives in
    let out = c.push_reserved.ensures.items ∙ ap (λ ts. ts ++ record { number = i.given + 1; process = c.args.p } ∷ []) c.reserve.ensures.items in
    out-kept _ (left-kept i k i.history refl c.start.new.machine is.after i.roster (roll-same i.roster) (settled-room i k c.args.p c.start.new.machine is) i.saved i.stop k.named) c.push_reserved.new.self (i.given + 1) (
    subst (AreLiving i.image i.history.items) (sym out) (more-live i.image i.history.items c.args.p (record { number = i.given + 1; process = c.args.p }) i.out.items refl lives k.living))

pub returns-clause-given : goal.returns-clause-given
returns-clause-given c =
    let i = c.self.inside in
    let k = c.self.invariant in
    let p = c.args.p in
    let first = settled-by i k c.args.self.now c.self.view_is c.requires.going p c.requires.lives p refl c.settle.new.self c.settle.ensures.after c.settle.ensures.top c.settle.ensures.made in
    let is = subst (IsSettledIn i p) (sym c.start.ensures.same) first in
    let tops = tops-of i.image _ c.tops_are_running.ensures.running c.is_runnable.ensures.accepted c.is_runnable.ensures.main in
    let seen : AreSeen i.image i.cells = λ choices n. c.views_are_of_states.ensures i.image i.cells choices n c.is_runnable.ensures.accepted c.is_runnable.ensures.main in
    let left = left-value i k i.history refl c.start.new.machine is.after seen i.stop in
    let out = c.push_reserved.ensures.items ∙ ap (λ ts. ts ++ record { number = i.given + 1; process = p } ∷ []) c.reserve.ensures.items in
    rw (← c.self.view_is) (
      start_in first.turn.living,
      where-now i p c.settle.new.self first tops,
      c.in_ok-ticket.ensures.ticket first.turn.living,
      λ j. record { core = record (left j) { out = out j; given = i.given + 1 }; places = is.places j },
    )
