use Rattle.std.proofs.Common.{refl, arith}
use Rattle.hep_proc.proofs.Levels.{last-there}
use Rattle.hep_state.proofs.Processes.{process-at, room-moved}
use Rattle.hep_state.proofs.UnchangedStates.{rooms-set}
use Rattle.hep_commit.proofs.StandingProcesses.{standing}
use Rattle.hep_commit.proofs.AppliedSegments.{shown-now}
use Rattle.hep_commit.proofs.undo_log.UndoLog.put_back.Goals as goal

pub place-at-requires : goal.place-at-requires
place-at-requires c = record { numbers = c.requires.turn.after.2.numbers; living = c.requires.turn.living }

pub put_back-requires : goal.put_back-requires
put_back-requires c =
    let m = c.args.machine.now in
    let q = c.index_mut-process.result.now in
    let turn = c.requires.turn in
    let e = turn.living in
    let h = turn.after.2 in
    let it = process-at m c.args.p h.numbers c.place-at.ensures e.kept c.index_mut-process.ensures.value in
    record {
      owned = (c.requires.tables, standing turn c.place-at.ensures c.index_mut-process.ensures.value);
      room = omega (arith, c.requires.room, h.room c.place-at.result q it.there _ e.level (last-there q e.level e.below e.operands e.pending it.stack));
    }

pub returns-clause-restored : goal.returns-clause-restored
returns-clause-restored c e =
    let m = c.args.machine.now in
    let h = c.requires.turn.after.2 in
    let it = process-at m c.args.p h.numbers c.place-at.ensures e.kept c.index_mut-process.ensures.value in
    let done = c.put_back.ensures in
    shown-now m c.args.p c.put_back.new.process c.put_back.new.frames _ e.level e.below c.args.self.now.operands.items e.pending c.args.self.now.index h.numbers it done.same.number (
    done.stack e.level e.below e.operands e.pending it.stack) (done.cells e.level e.below e.operands e.pending it.stack) done.holes done.nodes

pub returns-clause-rooms : goal.returns-clause-rooms
returns-clause-rooms c program cells h =
    let m = c.args.machine.now in
    let q = c.index_mut-process.result.now in
    let e = c.requires.turn.living in
    let it = process-at m c.args.p c.requires.turn.after.2.numbers c.place-at.ensures e.kept c.index_mut-process.ensures.value in
    let done = c.put_back.ensures in
    rooms-set program cells m _ c.put_back.new.process it done.same.number refl refl refl (
    room-moved program q c.put_back.new.process e.level c.args.self.now.index e.below e.operands c.args.self.now.operands.items e.pending it.stack (done.stack e.level e.below e.operands e.pending it.stack) done.same.room (
    h.room c.place-at.result q it.there)) h
