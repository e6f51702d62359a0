use Rattle.std.proofs.Common.{◌≡◌, refl, sym, ap, ◌∙◌, subst}
use Rattle.hep_commit.specs.Offers.{offered}
use Rattle.hep_core.specs.Commits.{IsWhetherNext}
use Rattle.hep_core.specs.ProcessPlaces.{PlacedCore}
use Rattle.hep_core.proofs.AfterPrivate.{left-kept, roll-same, settled-room}
use Rattle.hep_core.proofs.Committing.{IsSettledIn, tops-of, whether-next}
use Rattle.hep_core.proofs.OutStates.{known-in, left-placed, made-offered, offered-in, settled-by, turn-in}
use Rattle.hep_commit.specs.Segments.{SegmentValue}
use Rattle.hep_state.specs.Words.{IsItsTurn}
use Rattle.hep_commit.specs.OwnCells.{AreOwnCells}
use Rattle.hep_core.proofs.run_core.Core.is_next.Goals as goal

pub settle-requires : goal.settle-requires
settle-requires c = turn-in c.self.inside c.self.invariant c.args.self.now c.self.view_is c.requires.going (offered c.args.self.now.core.program c.args.offer.now).id.process c.requires.lives c.ticket.result.process (ap (λ id. id.process) (c.ticket.ensures c.args.self.now.core.program))

pub comes_next-requires-clause-can : goal.comes_next-requires-clause-can
comes_next-requires-clause-can c = (
  subst (AreOwnCells c.self.inside.image) (sym c.deref.ensures.value) c.self.invariant.owned,
  subst (λ (s : SegmentValue). IsItsTurn c.self.inside.image s.id.process c.settle.new.self) (sym (offered-in c.self.inside c.args.self.now c.self.view_is c.args.offer.now)) (settled-by c.self.inside c.self.invariant c.args.self.now c.self.view_is c.requires.going (offered c.args.self.now.core.program c.args.offer.now).id.process c.requires.lives c.ticket.result.process (ap (λ id. id.process) (c.ticket.ensures c.args.self.now.core.program)) c.settle.new.self c.settle.ensures.after c.settle.ensures.top c.settle.ensures.made).turn,
)

pub comes_next-requires-clause-known : goal.comes_next-requires-clause-known
comes_next-requires-clause-known c = known-in c.self.inside c.args.self.now c.self.view_is c.args.offer.now c.requires.known

pub invariant_of-self : goal.invariant_of-self
invariant_of-self c =
    let i = c.self.inside in
    let k = c.self.invariant in
    let q = (offered c.args.self.now.core.program c.args.offer.now).id.process in
    let first = settled-by i k c.args.self.now c.self.view_is c.requires.going q c.requires.lives c.ticket.result.process (ap (λ id. id.process) (c.ticket.ensures c.args.self.now.core.program)) c.settle.new.self c.settle.ensures.after c.settle.ensures.top c.settle.ensures.made in
    let is = subst (IsSettledIn i q) (sym c.comes_next.ensures.same) first in
    left-kept i k i.history refl c.comes_next.new.machine is.after i.roster (roll-same i.roster) (settled-room i k q c.comes_next.new.machine is) i.saved i.stop k.named

pub returns-clause-next : goal.returns-clause-next
returns-clause-next c =
    let i = c.self.inside in
    let s = (offered c.args.self.now.core.program c.args.offer.now) in
    let first =
    settled-by i c.self.invariant c.args.self.now c.self.view_is c.requires.going s.id.process c.requires.lives c.ticket.result.process (ap (λ id. id.process) (c.ticket.ensures c.args.self.now.core.program)) c.settle.new.self c.settle.ensures.after c.settle.ensures.top c.settle.ensures.made in
    let tops = tops-of i.image _ c.tops_are_running.ensures.running c.is_runnable.ensures.accepted c.is_runnable.ensures.main in
    subst (λ (v : PlacedCore). IsWhetherNext c.comes_next.result v s) c.self.view_is (
    whether-next i s.id.process c.settle.new.self first tops (record { kept = c.segments_depend_on_reads.ensures.kept; made = c.segments_depend_on_reads.ensures.made }) s refl c.comes_next.result (made-offered c.self.inside c.args.self.now c.self.view_is c.args.offer.now c.comes_next.result c.settle.new.self c.comes_next.ensures.made))

pub returns-clause-same : goal.returns-clause-same
returns-clause-same c =
    let i = c.self.inside in
    let k = c.self.invariant in
    let q = (offered c.args.self.now.core.program c.args.offer.now).id.process in
    let first = settled-by i k c.args.self.now c.self.view_is c.requires.going q c.requires.lives c.ticket.result.process (ap (λ id. id.process) (c.ticket.ensures c.args.self.now.core.program)) c.settle.new.self c.settle.ensures.after c.settle.ensures.top c.settle.ensures.made in
    let is = subst (IsSettledIn i q) (sym c.comes_next.ensures.same) first in
    left-placed i k i.history refl c.comes_next.new.machine is.after is.places (λ choices n. c.views_are_of_states.ensures i.image i.cells choices n c.is_runnable.ensures.accepted c.is_runnable.ensures.main) i.stop ∙ c.self.view_is
