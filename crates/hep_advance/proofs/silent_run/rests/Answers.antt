use Rattle.hep_state.proofs.Processes.{process-at}
use Rattle.hep_state.proofs.TakenTurns.{inside}
use Rattle.hep_state.proofs.TopActivations.{turning}
use Rattle.hep_state.specs.Words.{snapshot_of}
use Rattle.hep_advance.proofs.silent_run.rests.Goals as goal

pub place-at-requires : goal.place-at-requires
place-at-requires c = record { numbers = c.requires.turn.after.2.numbers; living = c.requires.turn.living }

pub top_rests-requires : goal.top_rests-requires
top_rests-requires c =
    let p = c.args.p in
    let e = c.requires.turn.living in
    let h = c.requires.turn.after.2 in
    let it = process-at c.args.machine.now p c.requires.turn.after.2.numbers c.place-at.ensures e.kept c.index-process.ensures in
    let turn = turning p h.after e c.requires.turn.running in
    record {
      tables = c.requires.tables;
      l = e.level;
      ls = e.below;
      operands = e.operands;
      pending = e.pending;
      stack = it.stack;
      inside = inside turn.1;
    }

pub returns : goal.returns
returns c is =
    let m = snapshot_of c.args.machine.now in
    let e = c.requires.turn.living in
    let it = process-at c.args.machine.now c.args.p c.requires.turn.after.2.numbers c.place-at.ensures e.kept c.index-process.ensures in
    record { living = e; none = c.top_rests.ensures is e.level e.below e.operands e.pending it.stack m.nodes m.arena.contents }
