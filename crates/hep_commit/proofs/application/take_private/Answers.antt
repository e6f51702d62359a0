use Rattle.std.proofs.Common.{◌≡◌, ◌<◌, ◌++◌, ◌∙◌, ap, arith, is_some, length, refl, replicate, subst, sym}
use Rattle.std.specs.Vec.{with_item}
use Rattle.hep_machine.specs.Words.{main_among}
use Rattle.hep_conditions.specs.Words.{IsAccepted}
use Rattle.hep_proc.proofs.Levels.{last-there}
use Rattle.hep_proc.specs.Stacks.{stack_with}
use Rattle.hep_state.specs.Words.{HasLevels, IsAfter, snapshot_of}
use Rattle.hep_state.proofs.Processes.{IsAt, process-at, room-moved}
use Rattle.hep_state.proofs.TakenTurns.{inside}
use Rattle.hep_state.proofs.UnchangedStates.{machine-of, rooms-of, rooms-set}
use Rattle.hep_commit.specs.SegmentStarts.{snapshot_taken}
use Rattle.hep_commit.specs.Offers.{offered}
use Rattle.hep_commit.proofs.StandingProcesses.{its-levels, its-place, standing, turns}
use Rattle.hep_commit.proofs.AppliedSegments.{AreTurnsIn, few-at-end, gone, kept, shown-now}
use Rattle.hep_commit.proofs.application.take_private.Goals as goal
use Rattle.hep_commit.proofs.application.take_private.Goals.{After-index_mut-process, After-private_steps_are_turns, After-take}

-- what the law called says of the program
laws : (c : After-private_steps_are_turns) → AreTurnsIn c.args.owned.now.image.now
laws c t n records end same few turns is =
    c.private_steps_are_turns.ensures t n records end (subst IsAccepted (sym same) c.is_runnable.ensures.accepted) (ap (λ program. is_some (main_among program)) same ∙ c.is_runnable.ensures.main) few turns is

pub place-at-requires : goal.place-at-requires
place-at-requires c = record { numbers = c.requires.can.turn.after.2.numbers; living = its-levels (sym (ap (λ id. id.process) (c.ticket.ensures c.args.owned.now.image.now))) c.requires.can.turn.living }

-- the process
found : (c : After-index_mut-process) (e : HasLevels (snapshot_of c.args.machine.now) (offered c.args.owned.now.image.now c.args.offer.now).id.process)
    → IsAt c.args.machine.now.processes.items (offered c.args.owned.now.image.now c.args.offer.now).id.process c.place-at.result (stack_with e.level e.below e.operands e.pending) c.index_mut-process.result.now
found c e =
    process-at c.args.machine.now (offered c.args.owned.now.image.now c.args.offer.now).id.process c.requires.can.turn.after.2.numbers (its-place (ap (λ id. id.process) (c.ticket.ensures c.args.owned.now.image.now)) c.place-at.ensures) e.kept c.index_mut-process.ensures.value

pub take-requires-clause-owned : goal.take-requires-clause-owned
take-requires-clause-owned c = (
  c.requires.tables,
  standing c.requires.can.turn (its-place (ap (λ id. id.process) (c.ticket.ensures c.args.owned.now.image.now)) c.place-at.ensures) c.index_mut-process.ensures.value,
)

pub take-requires-clause-fits : goal.take-requires-clause-fits
take-requires-clause-fits c =
    let program = c.args.owned.now.image.now in
    let s = offered program c.args.offer.now in
    let turn = c.requires.can.turn in
    let h = turn.after.2 in
    let q = c.index_mut-process.result.now in
    let e = turn.living in
    let it = found (goal.at.take-requires-clause-fits c).After-index_mut-process e in
    let few = few-at-end (laws (goal.at.take-requires-clause-fits c).After-private_steps_are_turns) h.few h.after turn.running e s c.requires.can.made in
    record {
      inside = subst (λ u. u < length program) (sym c.requires.can.made.0.unit) (inside (turns turn));
      room = omega (arith, few, h.room c.place-at.result q it.there _ e.level (last-there q e.level e.below e.operands e.pending it.stack));
    }

-- what the machine shows then
shown : (c : After-take) (e : HasLevels (snapshot_of c.args.machine.now) (offered c.args.owned.now.image.now c.args.offer.now).id.process)
    → IsAt c.args.machine.now.processes.items (offered c.args.owned.now.image.now c.args.offer.now).id.process c.place-at.result (stack_with e.level e.below e.operands e.pending) c.index_mut-process.result.now
    → snapshot_of (record c.args.machine.now { frames = c.take.new.frames; processes = with_item c.args.machine.now.processes c.place-at.result c.take.new.process }) ≡ snapshot_taken e (offered c.args.owned.now.image.now c.args.offer.now)
shown c e it =
    let s = offered c.args.owned.now.image.now c.args.offer.now in
    let done = c.take.ensures in
    shown-now c.args.machine.now s.id.process c.take.new.process c.take.new.frames _ e.level e.below s.end_operands e.pending s.end_index c.requires.can.turn.after.2.numbers it done.same.number (
    done.stack e.level e.below e.operands e.pending it.stack) (done.cells e.level e.below e.operands e.pending it.stack) done.holes done.nodes

pub returns-clause-taken : goal.returns-clause-taken
returns-clause-taken c e = shown (goal.at.returns-clause-taken c).After-take e (found (goal.at.returns-clause-taken c).After-index_mut-process e)

pub returns-clause-gone : goal.returns-clause-gone
returns-clause-gone c cells choices h =
    let program = c.args.owned.now.image.now in
    let s = offered c.args.owned.now.image.now c.args.offer.now in
    let m = c.args.machine.now in
    let q = c.index_mut-process.result.now in
    let r = c.take.new.process in
    let e = c.requires.can.turn.living in
    let it = found (goal.at.returns-clause-gone c).After-index_mut-process e in
    let done = c.take.ensures in
    let known = laws (goal.at.returns-clause-gone c).After-private_steps_are_turns in
    let after = choices ++ replicate (length s.records) s.id.process in (
      after,
      (gone known h.few h.after c.requires.can.turn.running e s c.requires.can.made).gone,
      machine-of program cells after _ (subst (IsAfter program cells after) (sym (shown (goal.at.returns-clause-gone c).After-take e it)) (kept known h.few h.after c.requires.can.turn.running e s c.requires.can.made)) (
          rooms-set program cells m _ r it done.same.number refl refl refl (
          room-moved program q r e.level s.end_index e.below e.operands s.end_operands e.pending it.stack (done.stack e.level e.below e.operands e.pending it.stack) done.same.room (h.room c.place-at.result q it.there)) (rooms-of program cells choices m h)),
    )
