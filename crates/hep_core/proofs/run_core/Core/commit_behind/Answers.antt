use Rattle.std.proofs.Common.{◌≡◌, ◌<◌, ◌≤◌, ◌++◌, ◌∷◌, ◌-◌, ◌∙◌, ℕ, suc, [], Bool, List, Some, true, false, inl, inr, is_some, ◌+◌, length, length-append, refl, sym, ap, subst, arith}
use Rattle.hep_machine.specs.declared.event.Entry.{Entry}
use Rattle.hep_machine.specs.Histories.{most_steps}
use Rattle.hep_machine.specs.Words.{is_waiting, run, schedule_of, state_after}
use Rattle.hep_state.specs.declared.core_state.CoreState.{CoreState}
use Rattle.hep_commit.specs.TicketId.{TicketId}
use Rattle.hep_state.specs.Words.{CanTurn, HasNoGap, HasTurned, IsItsTurn, IsMachineAfter, IsSameButTop, IsUnturned, LeavesAlone, LeavesOthers, LeavesRest, snapshot_of}
use Rattle.hep_state.proofs.OtherProcesses.{beside-again, beside-top}
use Rattle.hep_commit.specs.SegmentStarts.{start_in}
use Rattle.hep_commit.specs.OwnCells.{AreOwnCells}
use Rattle.hep_commit.specs.UndoLogs.{saved_in}
use Rattle.hep_commit.specs.Application.{HasRestored, HasTakenIn, IsNextPrivateIn}
use Rattle.hep_commit.proofs.AppliedSegments.{AreTurnsIn}
use Rattle.hep_commit.specs.Offers.{offered}
use Rattle.hep_core.specs.Commits.{HasMore, IsOutBy, LeavesNext, are_private}
use Rattle.hep_core.specs.ProcessPlaces.{places_of}
use Rattle.hep_core.specs.CoreValues.{CoreValue}
use Rattle.hep_core.specs.Tickets.{without_process}
use Rattle.hep_core.specs.Invariant.{core_value, placed_value}
use Rattle.hep_core.specs.declared.stop.ChoiceStop.TheVariants.{StepLimit}
use Rattle.hep_core.proofs.CallAnswers.{answer-full, answer-refused, whether-private}
use Rattle.hep_core.proofs.AfterPrivate.{HasTakenSteps, can-turn, left-kept, one-less, roll-same, settled-room, taken-steps, turn-behind}
use Rattle.hep_core.proofs.OtherTickets.{AreReadStill, entry-next, ok-not, rest-others}
use Rattle.hep_core.proofs.Histories.{schedule-several}
use Rattle.hep_core.proofs.Private.{further-after}
use Rattle.hep_core.proofs.Committing.{DependOnReads, IsSettledIn, tops-of, turns-of, whether-next}
use Rattle.hep_core.proofs.Exits.{left-answer, left-invariant, left-room, made-answer, made-invariant, more-is, noted-after, popped, restored-after, restored-places, room-there, turn-there}
use Rattle.hep_core.specs.Waking.{GoAlongTurn}
use Rattle.hep_core.proofs.GoodTickets.{AreSeen, in-arena, made-step, risen}
use Rattle.hep_core.proofs.Returning.{not-good}
use Rattle.hep_core.proofs.OutStates.{IsUnderway, can-restore, known-in, left-placed, lives-offered, out-offered, refused-so, saved-for, settled-by, some-offered, turn-in, underway}
use Rattle.hep_core.proofs.run_core.Core.commit_behind.Goals.{After-keep, After-is_next_private-arg-1, After-len-arg-1}
use Rattle.hep_core.proofs.run_core.Core.commit_behind.Goals as goal
use Rattle.hep_state.proofs.ReturnTurns.{IsRunningAlways}

-- ---- what is known from the beginning on

own : (c : After-len-arg-1) → c.ticket-p.result.process ≡ (offered c.self.inside.image c.args.offer.now).id.process
own c = ap (λ id. id.process) (c.ticket-p.ensures c.self.inside.image)

tops : (c : After-len-arg-1) → IsRunningAlways c.self.inside.image
tops c = tops-of c.self.inside.image _ c.tops_are_running.ensures.running c.is_runnable.ensures.accepted c.is_runnable.ensures.main

laws : (c : After-len-arg-1) → AreTurnsIn c.self.inside.image
laws c = turns-of c.self.inside.image _ c.private_steps_are_turns.ensures c.is_runnable.ensures.accepted c.is_runnable.ensures.main

reads : (c : After-len-arg-1) → DependOnReads
reads c = record { kept = c.segments_depend_on_reads.ensures.kept; made = c.segments_depend_on_reads.ensures.made }

seen : (c : After-len-arg-1) → AreSeen c.self.inside.image c.self.inside.cells
seen c choices n = c.views_are_of_states.ensures c.self.inside.image c.self.inside.cells choices n c.is_runnable.ensures.accepted c.is_runnable.ensures.main

settled : (c : After-len-arg-1) → IsSettledIn c.self.inside (offered c.self.inside.image c.args.offer.now).id.process c.settle.new.self
settled c =
    settled-by c.self.inside c.self.invariant c.args.self.now c.self.view_is c.requires.out.0 (offered c.self.inside.image c.args.offer.now).id.process (lives-offered c.self.inside c.args.self.now c.self.view_is c.args.offer.now c.requires.out.1) c.ticket-p.result.process (ap (λ id. id.process) (c.ticket-p.ensures c.self.inside.image)) c.settle.new.self c.settle.ensures.after c.settle.ensures.top
    c.settle.ensures.made

out : (c : After-len-arg-1) → IsOutBy (core_value c.self.inside) (offered c.self.inside.image c.args.offer.now)
out c = out-offered c.self.inside c.args.self.now c.self.view_is c.args.offer.now c.requires.out

many : (c : After-len-arg-1) → length (offered c.self.inside.image c.args.offer.now).records ≡ suc (length (offered c.self.inside.image c.args.offer.now).records - 1)
many c = one-less (length (offered c.self.inside.image c.args.offer.now).records) (some-offered c.self.inside c.args.self.now c.self.view_is c.args.offer.now c.requires.some)

pub settle-requires : goal.settle-requires
settle-requires c = turn-in c.self.inside c.self.invariant c.args.self.now c.self.view_is c.requires.out.0 (offered c.self.inside.image c.args.offer.now).id.process (lives-offered c.self.inside c.args.self.now c.self.view_is c.args.offer.now c.requires.out.1) c.ticket-p.result.process (ap (λ id. id.process) (c.ticket-p.ensures c.self.inside.image))

pub comes_next-requires-clause-can : goal.comes_next-requires-clause-can
comes_next-requires-clause-can c = (
  subst (AreOwnCells c.self.inside.image) (sym c.deref.ensures.value) c.self.invariant.owned,
  (settled-by c.self.inside c.self.invariant c.args.self.now c.self.view_is c.requires.out.0 (offered c.self.inside.image c.args.offer.now).id.process (lives-offered c.self.inside c.args.self.now c.self.view_is c.args.offer.now c.requires.out.1) c.ticket-p.result.process (ap (λ id. id.process) (c.ticket-p.ensures c.self.inside.image)) c.settle.new.self c.settle.ensures.after c.settle.ensures.top c.settle.ensures.made).turn,
)

pub comes_next-requires-clause-known : goal.comes_next-requires-clause-known
comes_next-requires-clause-known c = known-in c.self.inside c.args.self.now c.self.view_is c.args.offer.now c.requires.known

-- ---- the segment's steps don't come next

pub invariant_of-self : goal.invariant_of-self
invariant_of-self c =
    let i = c.self.inside in
    let k = c.self.invariant in
    let q = (offered c.self.inside.image c.args.offer.now).id.process in
    let is = subst (IsSettledIn i q) (sym c.comes_next.ensures.same) (settled-by c.self.inside c.self.invariant c.args.self.now c.self.view_is c.requires.out.0 (offered c.self.inside.image c.args.offer.now).id.process (lives-offered c.self.inside c.args.self.now c.self.view_is c.args.offer.now c.requires.out.1) c.ticket-p.result.process (ap (λ id. id.process) (c.ticket-p.ensures c.self.inside.image)) c.settle.new.self c.settle.ensures.after c.settle.ensures.top c.settle.ensures.made) in
    left-kept i k i.history refl c.comes_next.new.machine is.after i.roster (roll-same i.roster) (settled-room i k q c.comes_next.new.machine is) i.saved i.stop k.named

pub returns-then-not-comes_next-clause-committed : goal.returns-then-not-comes_next-clause-committed
returns-then-not-comes_next-clause-committed c =
    let i = c.self.inside in
    let k = c.self.invariant in
    let s = (offered c.self.inside.image c.args.offer.now) in
    let first = settled-by c.self.inside c.self.invariant c.args.self.now c.self.view_is c.requires.out.0 (offered c.self.inside.image c.args.offer.now).id.process (lives-offered c.self.inside c.args.self.now c.self.view_is c.args.offer.now c.requires.out.1) c.ticket-p.result.process (ap (λ id. id.process) (c.ticket-p.ensures c.self.inside.image)) c.settle.new.self c.settle.ensures.after c.settle.ensures.top c.settle.ensures.made in
    let is = subst (IsSettledIn i s.id.process) (sym c.comes_next.ensures.same) first in
    let other = whether-next i s.id.process c.settle.new.self first (tops-of c.self.inside.image _ c.tops_are_running.ensures.running c.is_runnable.ensures.accepted c.is_runnable.ensures.main) (record { kept = c.segments_depend_on_reads.ensures.kept; made = c.segments_depend_on_reads.ensures.made }) s refl false c.if-not-comes_next.ensures.made in
    rw (← c.self.view_is) ((out-offered c.self.inside c.args.self.now c.self.view_is c.args.offer.now c.requires.out).0, not-good (placed_value i) s other, left-placed i k i.history refl c.comes_next.new.machine is.after is.places (λ choices n. c.views_are_of_states.ensures i.image i.cells choices n c.is_runnable.ensures.accepted c.is_runnable.ensures.main) i.stop)

-- ---- they do, and the history is full

first-underway : (c : After-len-arg-1) → IsUnderway c.self.inside (offered c.self.inside.image c.args.offer.now) c.comes_next.new.machine
first-underway c =
    underway c.self.inside (offered c.self.inside.image c.args.offer.now) c.settle.new.self c.comes_next.new.machine (settled-by c.self.inside c.self.invariant c.args.self.now c.self.view_is c.requires.out.0 (offered c.self.inside.image c.args.offer.now).id.process (lives-offered c.self.inside c.args.self.now c.self.view_is c.args.offer.now c.requires.out.1) c.ticket-p.result.process (ap (λ id. id.process) (c.ticket-p.ensures c.self.inside.image)) c.settle.new.self c.settle.ensures.after c.settle.ensures.top c.settle.ensures.made)
    (tops-of c.self.inside.image _ c.tops_are_running.ensures.running c.is_runnable.ensures.accepted c.is_runnable.ensures.main) (record { kept = c.segments_depend_on_reads.ensures.kept; made = c.segments_depend_on_reads.ensures.made }) c.if-not-comes_next.ensures.made c.comes_next.ensures.same

pub invariant_of-self-then-self-len : goal.invariant_of-self-then-self-len
invariant_of-self-then-self-len c =
    let i = c.self.inside in
    let k = c.self.invariant in
    let at = goal.at.invariant_of-self-then-self-len c in
    let is = (first-underway at.After-len-arg-1).is in
    let full : length i.history.items ≡ i.limit = omega (arith, c.len.ensures.count, c.if-self-len.true, k.legal.within) in
    left-kept i k i.history refl c.comes_next.new.machine is.after i.roster (roll-same i.roster) (settled-room i k (offered c.self.inside.image c.args.offer.now).id.process c.comes_next.new.machine is) i.saved (Some StepLimit) ((out at.After-len-arg-1).0.1, full)

pub returns-then-self-len-clause-committed : goal.returns-then-self-len-clause-committed
returns-then-self-len-clause-committed c =
    let i = c.self.inside in
    let k = c.self.invariant in
    let s = (offered c.self.inside.image c.args.offer.now) in
    let at = goal.at.returns-then-self-len-clause-committed c in
    let now = first-underway at.After-len-arg-1 in
    let full : length i.history.items ≡ i.limit = omega (arith, c.len.ensures.count, c.if-self-len.true, k.legal.within) in
    rw (← c.self.view_is) (
    answer-full i s (out at.After-len-arg-1) c.comes_next.new.machine now.is (tops at.After-len-arg-1) (reads at.After-len-arg-1) now.made _ (many at.After-len-arg-1) _ full (
    left-placed i k i.history refl c.comes_next.new.machine now.is.after now.is.places (seen at.After-len-arg-1) (Some StepLimit)))

-- ---- what its process has for itself is kept, and there is room for an entry

pub keep-requires : goal.keep-requires
keep-requires c =
    let at = goal.at.keep-requires c in
    (subst (AreOwnCells c.self.inside.image) (sym c.deref.ensures.value) c.self.invariant.owned, subst (λ p. IsItsTurn c.self.inside.image p c.comes_next.new.machine) (sym (own at.After-len-arg-1)) (first-underway at.After-len-arg-1).is.turn)

kept-underway : (c : After-keep) → IsUnderway c.self.inside (offered c.self.inside.image c.args.offer.now) c.keep.new.machine
kept-underway c =
    underway c.self.inside (offered c.self.inside.image c.args.offer.now) c.settle.new.self c.keep.new.machine (settled-by c.self.inside c.self.invariant c.args.self.now c.self.view_is c.requires.out.0 (offered c.self.inside.image c.args.offer.now).id.process (lives-offered c.self.inside c.args.self.now c.self.view_is c.args.offer.now c.requires.out.1) c.ticket-p.result.process (ap (λ id. id.process) (c.ticket-p.ensures c.self.inside.image)) c.settle.new.self c.settle.ensures.after c.settle.ensures.top c.settle.ensures.made)
    (tops-of c.self.inside.image _ c.tops_are_running.ensures.running c.is_runnable.ensures.accepted c.is_runnable.ensures.main) (record { kept = c.segments_depend_on_reads.ensures.kept; made = c.segments_depend_on_reads.ensures.made }) c.if-not-comes_next.ensures.made (c.keep.ensures.same ∙ c.comes_next.ensures.same)

room : (c : After-keep) → length c.self.inside.history.items < c.self.inside.limit
room c = omega (arith, c.len.ensures.count, c.if-self-len.false)

pub invariant_of-self-in_err-keep : goal.invariant_of-self-in_err-keep
invariant_of-self-in_err-keep c =
    let i = c.self.inside in
    let k = c.self.invariant in
    let is = (kept-underway (goal.at.invariant_of-self-in_err-keep c).After-keep).is in
    left-kept i k i.history refl c.keep.new.machine is.after i.roster (roll-same i.roster) (settled-room i k (offered c.self.inside.image c.args.offer.now).id.process c.keep.new.machine is) c.keep.new.self i.stop k.named

pub returns-in_err-keep-clause-committed : goal.returns-in_err-keep-clause-committed
returns-in_err-keep-clause-committed c =
    let i = c.self.inside in
    let s = (offered c.self.inside.image c.args.offer.now) in
    let at = goal.at.returns-in_err-keep-clause-committed c in
    let now = kept-underway at.After-keep in
    let room : length i.history.items < i.limit = omega (arith, c.len.ensures.count, c.if-self-len.false) in
    rw (← c.self.view_is) (refused-so (placed_value i) s _ c.from_residual.result c.from_residual.ensures.1 (
    answer-refused i s (out at.After-len-arg-1) c.keep.new.machine now.is (tops at.After-len-arg-1) (reads at.After-len-arg-1) now.made _ (many at.After-len-arg-1) room _ (
    left-placed i c.self.invariant i.history refl c.keep.new.machine now.is.after now.is.places (seen at.After-len-arg-1) i.stop)))

pub invariant_of-self-in_err-reserve : goal.invariant_of-self-in_err-reserve
invariant_of-self-in_err-reserve c =
    let i = c.self.inside in
    let k = c.self.invariant in
    let is = (kept-underway (goal.at.invariant_of-self-in_err-reserve c).After-keep).is in
    left-kept i k c.reserve.new.self c.reserve.ensures.items c.keep.new.machine is.after i.roster (roll-same i.roster) (settled-room i k (offered c.self.inside.image c.args.offer.now).id.process c.keep.new.machine is) c.keep.new.self i.stop k.named

pub returns-in_err-reserve-clause-committed : goal.returns-in_err-reserve-clause-committed
returns-in_err-reserve-clause-committed c =
    let i = c.self.inside in
    let s = (offered c.self.inside.image c.args.offer.now) in
    let at = goal.at.returns-in_err-reserve-clause-committed c in
    let now = kept-underway at.After-keep in
    let room : length i.history.items < i.limit = omega (arith, c.len.ensures.count, c.if-self-len.false) in
    rw (← c.self.view_is) (refused-so (placed_value i) s _ c.from_residual-in_err-reserve.result c.from_residual-in_err-reserve.ensures.1 (
    answer-refused i s (out at.After-len-arg-1) c.keep.new.machine now.is (tops at.After-len-arg-1) (reads at.After-len-arg-1) now.made _ (many at.After-len-arg-1) room _ (
    left-placed i c.self.invariant c.reserve.new.self c.reserve.ensures.items c.keep.new.machine now.is.after now.is.places (seen at.After-len-arg-1) i.stop)))

-- ---- the steps are made and noted

pub take_private-requires-clause-tables : goal.take_private-requires-clause-tables
take_private-requires-clause-tables c = subst (AreOwnCells c.self.inside.image) (sym c.deref.ensures.value) c.self.invariant.owned

pub take_private-requires-clause-can : goal.take_private-requires-clause-can
take_private-requires-clause-can c =
    let now = kept-underway (goal.at.take_private-requires-clause-can c).After-keep in
    record { turn = now.is.turn; made = now.made }

pub take_private-requires-clause-known : goal.take_private-requires-clause-known
take_private-requires-clause-known c = known-in c.self.inside c.args.self.now c.self.view_is c.args.offer.now c.requires.known

pub note-requires-clause-room : goal.note-requires-clause-room
note-requires-clause-room c = c.in_ok-reserve.ensures.room

pub note-requires-clause-few : goal.note-requires-clause-few
note-requires-clause-few c = omega (arith, c.in_ok-reserve.ensures.few)

-- ---- so many of them

own-then : (c : After-is_next_private-arg-1) → c.ticket-p.result.process ≡ (offered c.self.inside.image c.args.offer.now).id.process
own-then c = ap (λ id. id.process) (c.ticket-p.ensures c.self.inside.image)

many-then : (c : After-is_next_private-arg-1) → length (offered c.self.inside.image c.args.offer.now).records ≡ suc (length (offered c.self.inside.image c.args.offer.now).records - 1)
many-then c = one-less (length (offered c.self.inside.image c.args.offer.now).records) (some-offered c.self.inside c.args.self.now c.self.view_is c.args.offer.now c.requires.some)

many-noted : (c : After-is_next_private-arg-1) → c.steps-steps.result ≡ suc (length (offered c.self.inside.image c.args.offer.now).records - 1)
many-noted c = c.steps-steps.ensures.count c.self.inside.image (known-in c.self.inside c.args.self.now c.self.view_is c.args.offer.now c.requires.known) ∙ one-less (length (offered c.self.inside.image c.args.offer.now).records) (some-offered c.self.inside c.args.self.now c.self.view_is c.args.offer.now c.requires.some)

out-then : (c : After-is_next_private-arg-1) → IsOutBy (core_value c.self.inside) (offered c.self.inside.image c.args.offer.now)
out-then c = out-offered c.self.inside c.args.self.now c.self.view_is c.args.offer.now c.requires.out

tops-then : (c : After-is_next_private-arg-1) → IsRunningAlways c.self.inside.image
tops-then c = tops-of c.self.inside.image _ c.tops_are_running.ensures.running c.is_runnable.ensures.accepted c.is_runnable.ensures.main

reads-then : (c : After-is_next_private-arg-1) → DependOnReads
reads-then c = record { kept = c.segments_depend_on_reads.ensures.kept; made = c.segments_depend_on_reads.ensures.made }

now-then : (c : After-is_next_private-arg-1) → IsUnderway c.self.inside (offered c.self.inside.image c.args.offer.now) c.keep.new.machine
now-then c =
    underway c.self.inside (offered c.self.inside.image c.args.offer.now) c.settle.new.self c.keep.new.machine (settled-by c.self.inside c.self.invariant c.args.self.now c.self.view_is c.requires.out.0 (offered c.self.inside.image c.args.offer.now).id.process (lives-offered c.self.inside c.args.self.now c.self.view_is c.args.offer.now c.requires.out.1) c.ticket-p.result.process (ap (λ id. id.process) (c.ticket-p.ensures c.self.inside.image)) c.settle.new.self c.settle.ensures.after c.settle.ensures.top c.settle.ensures.made)
    (tops-of c.self.inside.image _ c.tops_are_running.ensures.running c.is_runnable.ensures.accepted c.is_runnable.ensures.main) (record { kept = c.segments_depend_on_reads.ensures.kept; made = c.segments_depend_on_reads.ensures.made }) c.if-not-comes_next.ensures.made (c.keep.ensures.same ∙ c.comes_next.ensures.same)

room-then : (c : After-is_next_private-arg-1) → length c.self.inside.history.items < c.self.inside.limit
room-then c = omega (arith, c.len.ensures.count, c.if-self-len.false)

-- the entry that was noted
entry : (c : After-is_next_private-arg-1) → c.note.new.history.items ≡ c.self.inside.history.items ++ record { process = (offered c.self.inside.image c.args.offer.now).id.process; steps = suc (length (offered c.self.inside.image c.args.offer.now).records - 1) } ∷ []
entry c = c.note.ensures ∙ (λ j. c.reserve.ensures.items j ++ record { process = own-then c j; steps = many-noted c j } ∷ [])

taken : (c : After-is_next_private-arg-1) → HasTakenSteps c.self.inside (offered c.self.inside.image c.args.offer.now).id.process (length (offered c.self.inside.image c.args.offer.now).records - 1) c.take_private.new.machine
taken c =
    taken-steps c.self.inside c.self.invariant (offered c.self.inside.image c.args.offer.now) c.keep.new.machine c.take_private.new.machine (now-then c).is (out-then c).0 _ (many-then c) c.take_private.ensures.gone c.take_private.ensures.others c.take_private.ensures.taken

few-enough : (c : After-is_next_private-arg-1) → suc (suc (length (offered c.self.inside.image c.args.offer.now).records - 1)) ≤ most_steps
few-enough c = omega (arith, c.steps-steps.ensures.few, many-noted c)

pub is_next_private-requires : goal.is_next_private-requires
is_next_private-requires c =
    let at = goal.at.is_next_private-requires c in
    let z = at.After-is_next_private-arg-1 in
    subst (λ p. IsItsTurn c.self.inside.image p c.take_private.new.machine) (sym (own-then z)) (turn-behind c.self.inside (offered c.self.inside.image c.args.offer.now).id.process _ c.take_private.new.machine (taken z))

-- in a machine that is the same
asked : (c : After-is_next_private-arg-1) (m : CoreState) → m ≡ c.take_private.new.machine → HasTakenSteps c.self.inside (offered c.self.inside.image c.args.offer.now).id.process (length (offered c.self.inside.image c.args.offer.now).records - 1) m
asked c m same = subst (HasTakenSteps c.self.inside (offered c.self.inside.image c.args.offer.now).id.process (length (offered c.self.inside.image c.args.offer.now).records - 1)) (sym same) (taken c)

noted : (c : After-is_next_private-arg-1) (m : CoreState) → m ≡ c.take_private.new.machine → IsMachineAfter c.self.inside.image c.self.inside.cells (schedule_of c.note.new.history.items) m
noted c m same =
    noted-after c.lists_go_along_with_steps.ensures c.self.inside c.self.invariant (offered c.self.inside.image c.args.offer.now) (out-then c) c.keep.new.machine (now-then c) (tops-then c) (reads-then c) _ (many-then c) (room-then c) (few-enough c) m (asked c m same) c.note.new.history.items
    (entry c)

backs : (c : After-is_next_private-arg-1) → (items : List TicketId) → items ≡ without_process c.ticket-p.result.process c.self.inside.out.items → items ≡ without_process (offered c.self.inside.image c.args.offer.now).id.process c.self.inside.out.items
backs c items is = is ∙ ap (λ p. without_process p c.self.inside.out.items) (own-then c)

-- whether the next one is private
whether : (c : After-is_next_private-arg-1) (now : IsUnderway c.self.inside (offered c.self.inside.image c.args.offer.now) c.keep.new.machine) (b : Bool) → IsNextPrivateIn b c.self.inside.image c.ticket-p.result.process c.take_private.new.machine
    → b ≡ are_private c.self.inside.image (start_in now.is.turn.living) (suc (suc (length (offered c.self.inside.image c.args.offer.now).records - 1)))
whether c now b next =
    whether-private c.self.inside (offered c.self.inside.image c.args.offer.now) (out-then c) c.keep.new.machine now.is (tops-then c) (reads-then c) now.made _ (many-then c) (turns-of c.self.inside.image _ c.private_steps_are_turns.ensures c.is_runnable.ensures.accepted c.is_runnable.ensures.main)
    c.take_private.new.machine c.take_private.ensures.taken b (subst (λ p. IsNextPrivateIn b c.self.inside.image p c.take_private.new.machine) (own-then c) next)

-- ---- it is, and so it is left out

pub invariant_of-self-then-is_next_private : goal.invariant_of-self-then-is_next_private
invariant_of-self-then-is_next_private c =
    let i = c.self.inside in
    let k = c.self.invariant in
    let at = goal.at.invariant_of-self-then-is_next_private c in
    let b = at.After-len-arg-1 in
    let z = at.After-is_next_private-arg-1 in
    let m = c.is_next_private.new.machine in
    let t = asked z m c.is_next_private.ensures.same in
    left-invariant c.lists_go_along_with_steps.ensures i k (offered c.self.inside.image c.args.offer.now) (out b) c.keep.new.machine (kept-underway at.After-keep) (tops b) (reads b) _ (many b) (room at.After-keep) (few-enough z) m t c.note.new.history.items (entry z) m
    (noted z m c.is_next_private.ensures.same) c.note.new.history refl c.come_back.new.out (backs z c.come_back.new.out.items c.come_back.ensures) i.roster (roll-same i.roster) (record { room = omega (arith, t.made, k.room.room); last = omega (arith, t.made, k.room.last) })
    c.keep.new.self

pub returns-then-is_next_private-clause-committed : goal.returns-then-is_next_private-clause-committed
returns-then-is_next_private-clause-committed c =
    let i = c.self.inside in
    let k = c.self.invariant in
    let s = (offered c.self.inside.image c.args.offer.now) in
    let at = goal.at.returns-then-is_next_private-clause-committed c in
    let b = at.After-len-arg-1 in
    let z = at.After-is_next_private-arg-1 in
    let m = c.is_next_private.new.machine in
    let private = whether z (kept-underway at.After-keep) true c.if-is_next_private.ensures.private in
    let answer =
    left-answer c.lists_go_along_with_steps.ensures i k s (out b) c.keep.new.machine (kept-underway at.After-keep) (tops b) (reads b) _ (many b) (room at.After-keep) (few-enough z) m (asked z m c.is_next_private.ensures.same) c.note.new.history.items (entry z) m
    (noted z m c.is_next_private.ensures.same) c.note.new.history refl c.come_back.new.out (backs z c.come_back.new.out.items c.come_back.ensures) (seen b) i.roster c.keep.new.self (inl (sym private)) c.made_steps.result (c.made_steps.ensures ∙ λ j. record { steps = many-noted z j; blocked = false }) in
    rw (← c.self.view_is) answer

-- ---- it isn't, and a turn is taken

pub turn-requires : goal.turn-requires
turn-requires c =
    let i = c.self.inside in
    let k = c.self.invariant in
    let q = (offered c.self.inside.image c.args.offer.now).id.process in
    let at = goal.at.turn-requires c in
    let b = at.After-len-arg-1 in
    let z = at.After-is_next_private-arg-1 in
    let m = c.is_next_private.new.machine in
    let t = asked z m c.is_next_private.ensures.same in
    let long = ap (λ es. length es) (entry z) ∙ length-append i.history.items _ in
    subst (λ p. CanTurn i.image p m i.roster) (sym (own b)) (
    can-turn c.lists_go_along_with_steps.ensures i k q _ m t (room at.After-keep) (omega (arith, few-enough z)) c.note.new.history.items (entry z) i.roster (omega (arith, t.made, k.room.room)) (
    omega (arith, long, c.in_ok-reserve.ensures.few, ap (λ es. length es) c.reserve.ensures.items)))

-- ---- the process waits

pub invariant_of-self-in-Waits : goal.invariant_of-self-in-Waits
invariant_of-self-in-Waits c =
    let i = c.self.inside in
    let at = goal.at.invariant_of-self-in-Waits c in
    let b = at.After-len-arg-1 in
    let z = at.After-is_next_private-arg-1 in
    let m = c.is_next_private.new.machine in
    let t = asked z m c.is_next_private.ensures.same in
    let es = c.note.new.history.items in
    let done = c.in-Ok.ensures.turned i.cells (schedule_of es) (noted z m c.is_next_private.ensures.same) in
    let waited = subst (λ turned. HasTurned i.image i.cells (schedule_of es) c.ticket-p.result.process turned c.turn.new.self) c.in-Waits.is done in
    let k = c.self.invariant in
    let noted-room = left-room c.lists_go_along_with_steps.ensures i k (offered c.self.inside.image c.args.offer.now) (out b) c.keep.new.machine (kept-underway at.After-keep) (tops b) (reads b) _ (many b) (room at.After-keep) (few-enough z) m t es (entry z) c.turn.new.self waited.1 c.turn.new.roster c.turn.ensures.roster in
    left-invariant c.lists_go_along_with_steps.ensures i k (offered c.self.inside.image c.args.offer.now) (out b) c.keep.new.machine (kept-underway at.After-keep) (tops b) (reads b) _ (many b) (room at.After-keep) (few-enough z) m t es (entry z) c.turn.new.self waited.1 c.turn.new.history
    c.turn.ensures.entry.entries c.come_back-in-Waits.new.out (backs z c.come_back-in-Waits.new.out.items c.come_back-in-Waits.ensures) c.turn.new.roster c.turn.ensures.roster.kept noted-room c.keep.new.self

pub returns-in-Waits-clause-committed : goal.returns-in-Waits-clause-committed
returns-in-Waits-clause-committed c =
    let i = c.self.inside in
    let s = (offered c.self.inside.image c.args.offer.now) in
    let at = goal.at.returns-in-Waits-clause-committed c in
    let b = at.After-len-arg-1 in
    let z = at.After-is_next_private-arg-1 in
    let m = c.is_next_private.new.machine in
    let t = asked z m c.is_next_private.ensures.same in
    let es = c.note.new.history.items in
    let done = c.in-Ok.ensures.turned i.cells (schedule_of es) (noted z m c.is_next_private.ensures.same) in
    let waited = subst (λ turned. HasTurned i.image i.cells (schedule_of es) c.ticket-p.result.process turned c.turn.new.self) c.in-Waits.is done in
    let waiting = subst (λ p. is_waiting i.image (run i.image (schedule_of es)) p ≡ true) (own b) (ap is_some waited.0.waits) in
    let answer =
    left-answer c.lists_go_along_with_steps.ensures i c.self.invariant s (out b) c.keep.new.machine (kept-underway at.After-keep) (tops b) (reads b) _ (many b) (room at.After-keep) (few-enough z) m t es (entry z) c.turn.new.self waited.1 c.turn.new.history
    c.turn.ensures.entry.entries c.come_back-in-Waits.new.out (backs z c.come_back-in-Waits.new.out.items c.come_back-in-Waits.ensures) (seen b) c.turn.new.roster c.keep.new.self (inr (inl waiting)) c.made_steps-in-Waits.result (c.made_steps-in-Waits.ensures ∙ λ j. record { steps = many-noted z j; blocked = false }) in
    rw (← c.self.view_is) answer

-- ---- there is no gap

pub invariant_of-self-in-Err-ArenaFull : goal.invariant_of-self-in-Err-ArenaFull
invariant_of-self-in-Err-ArenaFull c =
    let i = c.self.inside in
    let k = c.self.invariant in
    let at = goal.at.invariant_of-self-in-Err-ArenaFull c in
    let b = at.After-len-arg-1 in
    let z = at.After-is_next_private-arg-1 in
    let m = c.is_next_private.new.machine in
    let t = asked z m c.is_next_private.ensures.same in
    let es = c.note.new.history.items in
    let after = c.in-Err-ArenaFull.ensures.unturned.1.after i.cells (schedule_of es) (noted z m c.is_next_private.ensures.same) in
    let noted-room = left-room c.lists_go_along_with_steps.ensures i k (offered c.self.inside.image c.args.offer.now) (out b) c.keep.new.machine (kept-underway at.After-keep) (tops b) (reads b) _ (many b) (room at.After-keep) (few-enough z) m t es (entry z) c.turn.new.self after c.turn.new.roster c.turn.ensures.roster in
    left-invariant c.lists_go_along_with_steps.ensures i k (offered c.self.inside.image c.args.offer.now) (out b) c.keep.new.machine (kept-underway at.After-keep) (tops b) (reads b) _ (many b) (room at.After-keep) (few-enough z) m t es (entry z) c.turn.new.self after c.turn.new.history
    c.turn.ensures.entry.entries c.come_back-in-Err-ArenaFull.new.out (backs z c.come_back-in-Err-ArenaFull.new.out.items c.come_back-in-Err-ArenaFull.ensures) c.turn.new.roster c.turn.ensures.roster.kept noted-room c.keep.new.self

pub returns-in-Err-ArenaFull-clause-committed : goal.returns-in-Err-ArenaFull-clause-committed
returns-in-Err-ArenaFull-clause-committed c =
    let i = c.self.inside in
    let s = (offered c.self.inside.image c.args.offer.now) in
    let at = goal.at.returns-in-Err-ArenaFull-clause-committed c in
    let b = at.After-len-arg-1 in
    let z = at.After-is_next_private-arg-1 in
    let m = c.is_next_private.new.machine in
    let t = asked z m c.is_next_private.ensures.same in
    let es = c.note.new.history.items in
    let before = noted z m c.is_next_private.ensures.same in
    let after = c.in-Err-ArenaFull.ensures.unturned.1.after i.cells (schedule_of es) before in
    let gap = subst (λ e. IsUnturned e i.image i.cells (schedule_of es) c.ticket-p.result.process) c.in-Err-ArenaFull.field-0-is (c.in-Err-ArenaFull.ensures.unturned.0 i.cells (schedule_of es) before) in
    let answer =
    left-answer c.lists_go_along_with_steps.ensures i c.self.invariant s (out b) c.keep.new.machine (kept-underway at.After-keep) (tops b) (reads b) _ (many b) (room at.After-keep) (few-enough z) m t es (entry z) c.turn.new.self after c.turn.new.history
    c.turn.ensures.entry.entries c.come_back-in-Err-ArenaFull.new.out (backs z c.come_back-in-Err-ArenaFull.new.out.items c.come_back-in-Err-ArenaFull.ensures) (seen b) c.turn.new.roster c.keep.new.self (inr (inr (subst (HasNoGap i.image i.cells (schedule_of es)) (own b) gap))) c.made_steps-in-Err-ArenaFull.result (c.made_steps-in-Err-ArenaFull.ensures ∙ λ j. record { steps = many-noted z j; blocked = false }) in
    rw (← c.self.view_is) answer

one-more-noted : (c : After-is_next_private-arg-1) → c.steps-steps.result + 1 ≡ suc (suc (length (offered c.self.inside.image c.args.offer.now).records - 1))
one-more-noted c = omega (arith, many-noted c)

-- with one step more
more-of : (c : After-is_next_private-arg-1) {old new : List Entry} → HasMore c.ticket-p.result.process (c.steps-steps.result + 1) old new → HasMore (offered c.self.inside.image c.args.offer.now).id.process (suc (suc (length (offered c.self.inside.image c.args.offer.now).records - 1))) old new
more-of c {old} {new} more = subst (λ (x : Type 0). x) (λ j. HasMore (own-then c j) (one-more-noted c j) old new) more

-- ---- the step is made

pub note_step-requires-clause-made : goal.note_step-requires-clause-made
note_step-requires-clause-made c =
    let i = c.self.inside in
    let k = c.self.invariant in
    let at = goal.at.note_step-requires-clause-made c in
    let z = at.After-is_next_private-arg-1 in
    let m = c.is_next_private.new.machine in
    let t = asked z m c.is_next_private.ensures.same in
    let es = c.note.new.history.items in
    let before = noted z m c.is_next_private.ensures.same in
    let done = c.in-Ok.ensures.turned i.cells (schedule_of es) before in
    let no_wait = c.in_default.not-Waits in
    let risen-so = risen i.image i.cells (schedule_of es) c.ticket-p.result.process c.in-Ok.turned m c.turn.new.self before.after no_wait done in
    record {
      last = omega (arith, c.turn.ensures.roster.kept.last, k.room.last, (kept-underway at.After-keep).is.made);
      more = omega (arith, risen-so, t.made, (kept-underway at.After-keep).is.made);
      room = c.turn.ensures.roster.numbers;
      numbers = (made-step i.image i.cells (schedule_of es) c.ticket-p.result.process c.in-Ok.turned c.turn.new.self no_wait done).1.numbers;
    }

pub note_step-requires-clause-few : goal.note_step-requires-clause-few
note_step-requires-clause-few c =
    let i = c.self.inside in
    let at = goal.at.note_step-requires-clause-few c in
    let z = at.After-is_next_private-arg-1 in
    let m = c.is_next_private.new.machine in
    let es = c.note.new.history.items in
    in-arena i.image i.cells (schedule_of es) c.ticket-p.result.process c.in-Ok.turned c.turn.new.self (c.in-Ok.ensures.turned i.cells (schedule_of es) (noted z m c.is_next_private.ensures.same))

pub invariant_of-self-in_default : goal.invariant_of-self-in_default
invariant_of-self-in_default c =
    let i = c.self.inside in
    let k = c.self.invariant in
    let s = (offered c.self.inside.image c.args.offer.now) in
    let at = goal.at.invariant_of-self-in_default c in
    let b = at.After-len-arg-1 in
    let z = at.After-is_next_private-arg-1 in
    let m = c.is_next_private.new.machine in
    let t = asked z m c.is_next_private.ensures.same in
    let es = c.note.new.history.items in
    let before = noted z m c.is_next_private.ensures.same in
    let done = subst (λ p. HasTurned i.image i.cells (schedule_of es) p c.in-Ok.turned c.turn.new.self) (own b) (c.in-Ok.ensures.turned i.cells (schedule_of es) before) in
    let made = (kept-underway at.After-keep).is.made ∙ sym t.made in
    let along = subst (λ n. GoAlongTurn s.id.process n c.in-Ok.turned c.turn.new.self c.turn.new.roster c.note_step.new.roster) made (subst (λ p. GoAlongTurn p c.keep.new.machine.made c.in-Ok.turned c.turn.new.self c.turn.new.roster c.note_step.new.roster) (own b) c.note_step.ensures.lists) in
    let entries = more-is i.history.items c.turn.new.history.items c.note_more.new.history.items s.id.process _ _ (c.turn.ensures.entry.entries ∙ entry z) (more-of z c.note_more.ensures) in
    made-invariant c.lists_go_along_with_steps.ensures i k s (out b) c.keep.new.machine (kept-underway at.After-keep) (tops b) (reads b) _ (many b) (room at.After-keep) (few-enough z) m t es (entry z) c.lists_go_along_with_purges.ensures c.in-Ok.turned c.in_default.not-Waits
    c.turn.new.self done c.turn.new.roster c.turn.ensures.roster c.note_step.new.roster along c.note_step.ensures.room c.note_more.new.history.items entries c.note_more.new.history refl c.come_back-in_default.new.out (backs z c.come_back-in_default.new.out.items c.come_back-in_default.ensures)
    c.stop_where-self-inside.result c.stop_where-self-inside.ensures c.keep.new.self

pub returns-in_default-clause-committed : goal.returns-in_default-clause-committed
returns-in_default-clause-committed c =
    let i = c.self.inside in
    let k = c.self.invariant in
    let s = (offered c.self.inside.image c.args.offer.now) in
    let at = goal.at.returns-in_default-clause-committed c in
    let b = at.After-len-arg-1 in
    let z = at.After-is_next_private-arg-1 in
    let m = c.is_next_private.new.machine in
    let t = asked z m c.is_next_private.ensures.same in
    let es = c.note.new.history.items in
    let before = noted z m c.is_next_private.ensures.same in
    let done = subst (λ p. HasTurned i.image i.cells (schedule_of es) p c.in-Ok.turned c.turn.new.self) (own b) (c.in-Ok.ensures.turned i.cells (schedule_of es) before) in
    let made = (kept-underway at.After-keep).is.made ∙ sym t.made in
    let along = subst (λ n. GoAlongTurn s.id.process n c.in-Ok.turned c.turn.new.self c.turn.new.roster c.note_step.new.roster) made (subst (λ p. GoAlongTurn p c.keep.new.machine.made c.in-Ok.turned c.turn.new.self c.turn.new.roster c.note_step.new.roster) (own b) c.note_step.ensures.lists) in
    let entries = more-is i.history.items c.turn.new.history.items c.note_more.new.history.items s.id.process _ _ (c.turn.ensures.entry.entries ∙ entry z) (more-of z c.note_more.ensures) in
    let answer =
    made-answer c.lists_go_along_with_steps.ensures i k s (out b) c.keep.new.machine (kept-underway at.After-keep) (tops b) (reads b) _ (many b) (room at.After-keep) (few-enough z) m t es (entry z) c.lists_go_along_with_purges.ensures c.in-Ok.turned c.in_default.not-Waits
    c.turn.new.self done c.turn.new.roster c.turn.ensures.roster c.note_step.new.roster along c.note_step.ensures.room c.note_more.new.history.items entries c.note_more.new.history refl c.come_back-in_default.new.out (backs z c.come_back-in_default.new.out.items c.come_back-in_default.ensures)
    (seen b) (sym (whether z (kept-underway at.After-keep) false c.if-is_next_private.ensures.private)) c.stop_where-self-inside.result c.stop_where-self-inside.ensures c.keep.new.self c.made_steps-in_default.result (c.made_steps-in_default.ensures ∙ λ j. record { steps = one-more-noted z j; blocked = false }) in
    rw (← c.self.view_is) answer

-- ---- memory was refused, and all is put back

pub put_back-requires : goal.put_back-requires
put_back-requires c =
    let i = c.self.inside in
    let at = goal.at.put_back-requires c in
    let b = at.After-len-arg-1 in
    let z = at.After-is_next_private-arg-1 in
    let m = c.is_next_private.new.machine in
    let now = kept-underway at.After-keep in
    let t = asked z m c.is_next_private.ensures.same in
    let left-alone = subst (λ p. LeavesAlone i.image p m c.turn.new.self) (own b) c.in-Err-NoMemory.ensures.unturned.1 in
    let from = subst (HasTakenIn (offered c.self.inside.image c.args.offer.now) c.keep.new.machine) (sym c.is_next_private.ensures.same) c.take_private.ensures.taken in
    let kept = saved-for i.image c.ticket-p.result.process (offered c.self.inside.image c.args.offer.now).id.process c.comes_next.new.machine c.keep.new.machine (saved_in c.keep.new.self) (own b) c.keep.ensures.same c.in_ok-keep.ensures.kept now.is.turn.living in
    let turn = turn-there c.lists_go_along_with_steps.ensures i c.self.invariant (offered c.self.inside.image c.args.offer.now) (out b) c.keep.new.machine now (tops b) (reads b) _ (many b) (room at.After-keep) (few-enough z) m t c.note.new.history.items (entry z) c.restored_machines_are_as_before.ensures from c.turn.new.self left-alone in
    let fits = room-there c.lists_go_along_with_steps.ensures i c.self.invariant (offered c.self.inside.image c.args.offer.now) (out b) c.keep.new.machine now (tops b) (reads b) _ (many b) (room at.After-keep) (few-enough z) m t c.note.new.history.items (entry z) c.restored_machines_are_as_before.ensures from c.turn.new.self left-alone (saved_in c.keep.new.self) kept in
    let tables = subst (AreOwnCells i.image) (sym c.deref.ensures.value) c.self.invariant.owned in
    can-restore _ _ (offered c.self.inside.image c.args.offer.now).id.process _ _ (sym (own b)) tables turn fits

pub invariant_of-self-in-Err-NoMemory : goal.invariant_of-self-in-Err-NoMemory
invariant_of-self-in-Err-NoMemory c =
    let i = c.self.inside in
    let k = c.self.invariant in
    let s = (offered c.self.inside.image c.args.offer.now) in
    let at = goal.at.invariant_of-self-in-Err-NoMemory c in
    let b = at.After-len-arg-1 in
    let z = at.After-is_next_private-arg-1 in
    let m = c.is_next_private.new.machine in
    let now = kept-underway at.After-keep in
    let t = asked z m c.is_next_private.ensures.same in
    let left-alone = subst (λ p. LeavesAlone i.image p m c.turn.new.self) (own b) c.in-Err-NoMemory.ensures.unturned.1 in
    let from = subst (HasTakenIn s c.keep.new.machine) (sym c.is_next_private.ensures.same) c.take_private.ensures.taken in
    let kept = saved-for i.image c.ticket-p.result.process s.id.process c.comes_next.new.machine c.keep.new.machine (saved_in c.keep.new.self) (own b) c.keep.ensures.same c.in_ok-keep.ensures.kept now.is.turn.living in
    let put = subst (λ p. HasRestored i.image p (saved_in c.keep.new.self) c.turn.new.self c.put_back.new.machine) (own b) c.put_back.ensures.restored in
    let after = restored-after c.lists_go_along_with_steps.ensures i k s (out b) c.keep.new.machine now (tops b) (reads b) _ (many b) (room at.After-keep) (few-enough z) m t c.note.new.history.items (entry z) c.restored_machines_are_as_before.ensures from c.turn.new.self left-alone (saved_in c.keep.new.self) kept c.put_back.new.machine put c.put_back.ensures.rooms in
    let items = popped i.history.items c.turn.new.history.items c.pop.new.self.items s.id.process _ c.pop.result (c.turn.ensures.entry.entries ∙ entry z) c.pop.ensures.items in
    left-kept i k c.pop.new.self items c.put_back.new.machine after c.turn.new.roster c.turn.ensures.roster.kept
    (record { room = omega (arith, c.turn.ensures.roster.numbers, c.put_back.ensures.made); last = omega (arith, c.turn.ensures.roster.kept.last, k.room.last, c.put_back.ensures.made, left-alone.made, t.made) }) c.keep.new.self i.stop k.named

pub returns-in-Err-NoMemory-clause-committed : goal.returns-in-Err-NoMemory-clause-committed
returns-in-Err-NoMemory-clause-committed c =
    let i = c.self.inside in
    let k = c.self.invariant in
    let s = (offered c.self.inside.image c.args.offer.now) in
    let at = goal.at.returns-in-Err-NoMemory-clause-committed c in
    let b = at.After-len-arg-1 in
    let z = at.After-is_next_private-arg-1 in
    let m = c.is_next_private.new.machine in
    let now = kept-underway at.After-keep in
    let t = asked z m c.is_next_private.ensures.same in
    let left-alone = subst (λ p. LeavesAlone i.image p m c.turn.new.self) (own b) c.in-Err-NoMemory.ensures.unturned.1 in
    let from = subst (HasTakenIn s c.keep.new.machine) (sym c.is_next_private.ensures.same) c.take_private.ensures.taken in
    let kept = saved-for i.image c.ticket-p.result.process s.id.process c.comes_next.new.machine c.keep.new.machine (saved_in c.keep.new.self) (own b) c.keep.ensures.same c.in_ok-keep.ensures.kept now.is.turn.living in
    let put = subst (λ p. HasRestored i.image p (saved_in c.keep.new.self) c.turn.new.self c.put_back.new.machine) (own b) c.put_back.ensures.restored in
    let after = restored-after c.lists_go_along_with_steps.ensures i k s (out b) c.keep.new.machine now (tops b) (reads b) _ (many b) (room at.After-keep) (few-enough z) m t c.note.new.history.items (entry z) c.restored_machines_are_as_before.ensures from c.turn.new.self left-alone (saved_in c.keep.new.self) kept c.put_back.new.machine put c.put_back.ensures.rooms in
    let items = popped i.history.items c.turn.new.history.items c.pop.new.self.items s.id.process _ c.pop.result (c.turn.ensures.entry.entries ∙ entry z) c.pop.ensures.items in
    let places = restored-places c.lists_go_along_with_steps.ensures i k s (out b) c.keep.new.machine now (tops b) (reads b) _ (many b) (room at.After-keep) (few-enough z) m t c.note.new.history.items (entry z) c.restored_machines_are_as_before.ensures from c.turn.new.self left-alone (saved_in c.keep.new.self) kept c.put_back.new.machine put c.put_back.ensures.rooms in
    rw (← c.self.view_is) (
    answer-refused i s (out b) c.keep.new.machine now.is (tops b) (reads b) now.made _ (many b) (room at.After-keep) _ (left-placed i k c.pop.new.self items c.put_back.new.machine after places (seen b) i.stop))

-- ---- what comes next of other processes

read-still : (c : After-is_next_private-arg-1) → AreReadStill
read-still c = c.others_leave_what_is_read.ensures

-- once these entries of the process stand, and what was taken of the others is left
noted-next : (c : After-is_next_private-arg-1) (n : ℕ) (es : List Entry) → es ≡ c.self.inside.history.items ++ record { process = (offered c.self.inside.image c.args.offer.now).id.process; steps = n } ∷ [] → (m : CoreState) → IsMachineAfter c.self.inside.image c.self.inside.cells (schedule_of es) m
    → LeavesOthers (offered c.self.inside.image c.args.offer.now).id.process (snapshot_of c.self.inside.machine) (snapshot_of m) → (core : CoreValue) → state_after c.self.inside.image core.history ≡ state_after c.self.inside.image es
    → LeavesNext (offered c.self.inside.image c.args.offer.now).id.process (placed_value c.self.inside) (record { core = record core { program = c.self.inside.image }; places = places_of c.self.inside.image (snapshot_of m) })
noted-next c n es is m after stay core same =
    let i = c.self.inside in
    let q = (offered c.self.inside.image c.args.offer.now).id.process in
    entry-next (read-still c) (reads-then c) i c.self.invariant (out-then c).0 q n es (ap schedule_of is ∙ schedule-several i.history.items q n) m after stay core same

-- the machine behind the segment's steps leaves them
taken-beside : (c : After-is_next_private-arg-1) (m : CoreState) → m ≡ c.take_private.new.machine → LeavesOthers (offered c.self.inside.image c.args.offer.now).id.process (snapshot_of c.self.inside.machine) (snapshot_of m)
taken-beside c m same = (asked c m same).others

pub returns-then-is_next_private-clause-others : goal.returns-then-is_next_private-clause-others
returns-then-is_next_private-clause-others c =
    let z = (goal.at.returns-then-is_next_private-clause-others c).After-is_next_private-arg-1 in
    let m = c.is_next_private.new.machine in
    let same = c.is_next_private.ensures.same in
    rw (← c.self.view_is) (noted-next z _ c.note.new.history.items (entry z) m (noted z m same) (taken-beside z m same) (core_value (record c.self.inside { history = c.note.new.history; machine = m; out = c.come_back.new.out })) refl)

-- and so does a turn that makes no step
left-beside : (c : After-is_next_private-arg-1) (m later : CoreState) → m ≡ c.take_private.new.machine → IsSameButTop c.self.inside.image c.ticket-p.result.process (snapshot_of m) (snapshot_of later)
    → LeavesOthers (offered c.self.inside.image c.args.offer.now).id.process (snapshot_of c.self.inside.machine) (snapshot_of later)
left-beside c m later same top =
    let i = c.self.inside in
    let q = (offered c.self.inside.image c.args.offer.now).id.process in
    let t = asked c m same in
    beside-again q (snapshot_of i.machine) (snapshot_of m) (snapshot_of later) t.others (
    beside-top q i.image (snapshot_of m) (snapshot_of later) t.living (subst (λ p. IsSameButTop i.image p (snapshot_of m) (snapshot_of later)) (own-then c) top))

pub returns-in-Waits-clause-others : goal.returns-in-Waits-clause-others
returns-in-Waits-clause-others c =
    let i = c.self.inside in
    let z = (goal.at.returns-in-Waits-clause-others c).After-is_next_private-arg-1 in
    let m = c.is_next_private.new.machine in
    let same = c.is_next_private.ensures.same in
    let es = c.note.new.history.items in
    let p = c.ticket-p.result.process in
    let waited = subst (λ turned. HasTurned i.image i.cells (schedule_of es) p turned c.turn.new.self) c.in-Waits.is (c.in-Ok.ensures.turned i.cells (schedule_of es) (noted z m same)) in
    let top = subst (λ turned. LeavesRest turned i.image p (snapshot_of m) (snapshot_of c.turn.new.self)) c.in-Waits.is c.in-Ok.ensures.rest in
    rw (← c.self.view_is) (noted-next z _ es (entry z) c.turn.new.self waited.1 (left-beside z m c.turn.new.self same top) (core_value (record i { history = c.turn.new.history; machine = c.turn.new.self; out = c.come_back-in-Waits.new.out })) (ap (state_after i.image) c.turn.ensures.entry.entries))

pub returns-in-Err-ArenaFull-clause-others : goal.returns-in-Err-ArenaFull-clause-others
returns-in-Err-ArenaFull-clause-others c =
    let i = c.self.inside in
    let z = (goal.at.returns-in-Err-ArenaFull-clause-others c).After-is_next_private-arg-1 in
    let m = c.is_next_private.new.machine in
    let same = c.is_next_private.ensures.same in
    let es = c.note.new.history.items in
    let after = c.in-Err-ArenaFull.ensures.unturned.1.after i.cells (schedule_of es) (noted z m same) in
    rw (← c.self.view_is) (noted-next z _ es (entry z) c.turn.new.self after (left-beside z m c.turn.new.self same c.in-Err-ArenaFull.ensures.unturned.1.top) (core_value (record i { history = c.turn.new.history; machine = c.turn.new.self; out = c.come_back-in-Err-ArenaFull.new.out })) (ap (state_after i.image) c.turn.ensures.entry.entries))

pub returns-in_default-clause-others : goal.returns-in_default-clause-others
returns-in_default-clause-others c =
    let i = c.self.inside in
    let k = c.self.invariant in
    let s = (offered c.self.inside.image c.args.offer.now) in
    let q = s.id.process in
    let at = goal.at.returns-in_default-clause-others c in
    let b = at.After-len-arg-1 in
    let z = at.After-is_next_private-arg-1 in
    let m = c.is_next_private.new.machine in
    let same = c.is_next_private.ensures.same in
    let t = asked z m same in
    let es = c.note.new.history.items in
    let before = noted z m same in
    let done = subst (λ p. HasTurned i.image i.cells (schedule_of es) p c.in-Ok.turned c.turn.new.self) (own b) (c.in-Ok.ensures.turned i.cells (schedule_of es) before) in
    let stepped = made-step i.image i.cells (schedule_of es) q c.in-Ok.turned c.turn.new.self c.in_default.not-Waits done in
    let entries = more-is i.history.items c.turn.new.history.items c.note_more.new.history.items q _ _ (c.turn.ensures.entry.entries ∙ entry z) (more-of z c.note_more.ensures) in
    let after =
    further-after c.lists_go_along_with_steps.ensures i k q _ t.turns t.gone (room at.After-keep) (omega (arith, few-enough z)) m t.kept t.activations t.made es (entry z) stepped.0 c.turn.new.self stepped.1 c.note_more.new.history.items entries in
    let rest = subst (λ p. LeavesRest c.in-Ok.turned i.image p (snapshot_of m) (snapshot_of c.turn.new.self)) (own b) c.in-Ok.ensures.rest in
    let stay = beside-again q (snapshot_of i.machine) (snapshot_of m) (snapshot_of c.turn.new.self) t.others (rest-others i.image q c.in-Ok.turned (snapshot_of m) (snapshot_of c.turn.new.self) c.in_default.not-Waits rest) in
    rw (← c.self.view_is) (noted-next z _ c.note_more.new.history.items entries c.turn.new.self after stay (core_value (record i { history = c.note_more.new.history; stop = c.stop_where-self-inside.result; machine = c.turn.new.self; out = c.come_back-in_default.new.out })) refl)

-- ---- where memory was refused nothing was made

pub returns-in_err-keep-clause-others : goal.returns-in_err-keep-clause-others
returns-in_err-keep-clause-others c = ok-not _ c.from_residual.result c.from_residual.ensures.0

pub returns-in_err-reserve-clause-others : goal.returns-in_err-reserve-clause-others
returns-in_err-reserve-clause-others c = ok-not _ c.from_residual-in_err-reserve.result c.from_residual-in_err-reserve.ensures.0
