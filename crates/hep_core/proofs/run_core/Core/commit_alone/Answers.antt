use Rattle.std.proofs.Common.{◌≡◌, ◌∙◌, [], List, Result, Ok, Err, ap, refl, subst, sym, true, false}
use Rattle.hep_commit.specs.TicketId.{TicketId}
use Rattle.hep_commit.specs.Offers.{offered}
use Rattle.hep_core.proofs.OtherTickets.{next-between}
use Rattle.hep_core.proofs.ProcessesOut.{home-again, out-still}
use Rattle.hep_core.proofs.Returning.{alone-made, alone-refused, alone-stopped, not-good, with_out}
use Rattle.hep_core.proofs.UnchangedPlaces.{living-chosen}
use Rattle.hep_core.specs.Commits.{IsCommitted, IsGoodAt, LeavesNext}
use Rattle.hep_core.specs.Invariant.{AreLiving}
use Rattle.hep_core.specs.ProcessPlaces.{PlacedCore, with_core}
use Rattle.hep_core.specs.Tickets.{without_process}
use Rattle.hep_core.specs.CoreValues.{CoreValue, IsChoice, state_of}
use Rattle.hep_core.specs.declared.core_fault.ChooseFault.TheVariants as choosing
use Rattle.hep_core.specs.declared.core_fault.CommitFault.TheVariants as committing
use Rattle.hep_core.proofs.run_core.Core.commit_alone.Goals.{After-put_aside-out, After-turn, After-come_back}
use Rattle.hep_core.proofs.run_core.Core.commit_alone.Goals as goal

pub returns-then-not-is_next-clause-committed : goal.returns-then-not-is_next-clause-committed
returns-then-not-is_next-clause-committed c = (c.requires.out.0, not-good c.args.self.now (offered c.args.self.now.core.program c.args.offer.now) c.if-not-is_next.ensures.next, c.is_next.ensures.same)

-- the core from which the tickets were put aside
aside : (c : After-turn) → c.put_aside-out.new.self.core ≡ with_out c.args.self.now.core []
aside c = ap (λ (v : PlacedCore). v.core) c.put_aside-out.ensures.aside ∙ ap (λ (v : PlacedCore). with_out v.core []) c.is_next.ensures.same

-- the tickets
tickets : (c : After-turn) → c.put_aside-out.result.items ≡ c.args.self.now.core.out
tickets c = c.put_aside-out.ensures.tickets ∙ ap (λ (v : PlacedCore). v.core.out) c.is_next.ensures.same

own : (c : After-turn) → c.ticket-process.result.process ≡ (offered c.args.self.now.core.program c.args.offer.now).id.process
own c = ap (λ id. id.process) (c.ticket-process.ensures c.args.self.now.core.program)

left : (c : After-come_back) → c.come_back.new.out.items ≡ without_process (offered c.args.self.now.core.program c.args.offer.now).id.process c.args.self.now.core.out
left c = c.come_back.ensures ∙ (λ j. without_process (c.ticket-process.ensures c.args.self.now.core.program j).process ((c.put_aside-out.ensures.tickets ∙ ap (λ (v : PlacedCore). v.core.out) c.is_next.ensures.same) j))

chosen : (c : After-come_back) → IsChoice (with_out c.args.self.now.core []) (offered c.args.self.now.core.program c.args.offer.now).id.process (Ok c.in-Ok.turn) c.turn.new.self.core
chosen c =
    subst (λ (v : CoreValue). IsChoice v (offered c.args.self.now.core.program c.args.offer.now).id.process (Ok c.in-Ok.turn) c.turn.new.self.core) (ap (λ (v : PlacedCore). v.core) c.put_aside-out.ensures.aside ∙ ap (λ (v : PlacedCore). with_out v.core []) c.is_next.ensures.same) (
    subst (λ (id : TicketId). IsChoice c.put_aside-out.new.self.core id.process (Ok c.in-Ok.turn) c.turn.new.self.core) (c.ticket-process.ensures c.args.self.now.core.program) c.in-Ok.ensures.chosen)

pub put_back-requires : goal.put_back-requires
put_back-requires c =
    let at = (goal.at.put_back-requires c).After-come_back in
    let old = c.args.self.now.core in
    let p = (offered c.args.self.now.core.program c.args.offer.now).id.process in
    let out = without_process p old.out in
    let live : AreLiving old.program old.history old.out = subst (λ (v : PlacedCore). AreLiving v.core.program v.core.history v.core.out) c.is_next.ensures.same c.put_aside-out.ensures.living in
    let stay : AreLiving old.program old.history out = λ q away. live q (out-still p q old.out away).0 in
    subst (AreLiving c.turn.new.self.core.program c.turn.new.self.core.history) (sym (left at))
    (living-chosen (with_out old []) c.turn.new.self.core p c.in-Ok.turn.steps c.in-Ok.turn.blocked out (chosen at).3 (home-again p old.out) stay)

pub returns-in-Ok-clause-committed : goal.returns-in-Ok-clause-committed
returns-in-Ok-clause-committed c =
    let at = (goal.at.returns-in-Ok-clause-committed c).After-come_back in
    let s = (offered c.args.self.now.core.program c.args.offer.now) in
    let next = c.if-not-is_next.ensures.next in
    let good : IsGoodAt c.args.self.now s next.0 = ((c.requires.out.0, c.requires.out.1, c.requires.out.2), next.1, next.2) in
    let back = c.put_back.ensures ∙ ap (λ ts. with_core c.turn.new.self (with_out c.turn.new.self.core ts)) (left at) in
    subst (IsCommitted c.args.self.now s (Ok c.in-Ok.turn)) (sym back) (alone-made c.args.self.now s next.0 good c.requires.none c.turn.new.self c.in-Ok.turn (chosen at))

pub returns-in-Ok-clause-others : goal.returns-in-Ok-clause-others
returns-in-Ok-clause-others c =
    let at = (goal.at.returns-in-Ok-clause-others c).After-come_back in
    let old = c.args.self.now in
    let mid = c.put_aside-out.new.self in
    let new = c.turn.new.self in
    let p = (offered c.args.self.now.core.program c.args.offer.now).id.process in
    let put = c.put_aside-out.ensures.aside ∙ ap (λ (v : PlacedCore). with_core v (with_out v.core [])) c.is_next.ensures.same in
    let back = c.put_back.ensures in
    let leaves = subst (λ (id : TicketId). LeavesNext id.process mid new) (c.ticket-process.ensures c.args.self.now.core.program) c.turn.ensures.others in
    next-between p old mid new c.put_back.new.self (ap (λ (v : PlacedCore). v.places) put) (ap (λ (v : PlacedCore). v.core.program) put) (ap (λ (v : PlacedCore). state_of v.core) put) leaves
    (ap (λ (v : PlacedCore). v.places) back) (ap (λ (v : PlacedCore). v.core.program) back) (ap (λ (v : PlacedCore). state_of v.core) back) (ap (λ (v : PlacedCore). v.core.stop) back)
