use Rattle.std.proofs.Common.{◌∙◌, sym, subst}
use Rattle.hep_code.specs.Words.{deepest}
use Rattle.hep_image.specs.Addressing.{address_of, cells_in}
use Rattle.hep_step.specs.Cells.{HasFrame}
use Rattle.hep_step.specs.StepReady.{IsOperationReady}
use Rattle.hep_step.specs.Simulation.{unit_code}
use Rattle.hep_state.specs.Words.{turn_with}
use Rattle.hep_state.proofs.Processes.{process-at}
use Rattle.hep_state.proofs.UnchangedStates.{carry}
use Rattle.hep_event.specs.NextAccesses.{replied}
use Rattle.hep_event.proofs.TopPositions.{level-there, ready-there, settled-there, settled-turn, turn}
use Rattle.hep_event.proofs.next_access.reply_ahead.Goals as goal

pub place-requires-2 : goal.place-requires-2
place-requires-2 c =
    let w = c.requires.levels in
    let it = process-at c.args.machine.now c.args.p c.requires.after.2.numbers c.place.ensures w.kept c.index-process.ensures in
    (w.level, w.below, w.operands, w.pending, it.stack, level-there c.args.machine.now c.requires.after.2 c.requires.running w)

pub reply_by-requires-clause-frame : goal.reply_by-requires-clause-frame
reply_by-requires-clause-frame c =
    let w = c.requires.levels in
    let m = c.args.machine.now in
    let after = c.requires.after.2 in
    let running = c.requires.running in
    let k = c.requires.coming w in
    let it = process-at m c.args.p after.numbers c.place.ensures w.kept c.index-process.ensures in
    let at = c.place-2.ensures w.level w.below w.operands w.pending it.stack in
    let t = turn m after running w in
    let runs = c.tops_are_running.ensures.running (settled-turn m after running w c.args.coming.now k) c.is_runnable.ensures.accepted c.is_runnable.ensures.main (settled-there m after running w c.args.coming.now k) in
    let arrays = c.tops_are_running.ensures.arrays (turn_with c.args.image.now c.requires.after.0 c.requires.after.1 w t.0) c.is_runnable.ensures.accepted c.is_runnable.ensures.main t.1 in
    subst (HasFrame m.frames.arena) (sym at.framed) (ready-there m after running w c.args.coming.now k runs arrays).0

pub reply_by-requires-clause-ready : goal.reply_by-requires-clause-ready
reply_by-requires-clause-ready c =
    let w = c.requires.levels in
    let m = c.args.machine.now in
    let after = c.requires.after.2 in
    let running = c.requires.running in
    let k = c.requires.coming w in
    let it = process-at m c.args.p after.numbers c.place.ensures w.kept c.index-process.ensures in
    let at = c.place-2.ensures w.level w.below w.operands w.pending it.stack in
    let t = turn m after running w in
    let runs = c.tops_are_running.ensures.running (settled-turn m after running w c.args.coming.now k) c.is_runnable.ensures.accepted c.is_runnable.ensures.main (settled-there m after running w c.args.coming.now k) in
    let arrays = c.tops_are_running.ensures.arrays (turn_with c.args.image.now c.requires.after.0 c.requires.after.1 w t.0) c.is_runnable.ensures.accepted c.is_runnable.ensures.main t.1 in
    let room = deepest (unit_code c.args.image.now w.level.unit) in
    let listed = sym (c.as_slice.ensures ∙ at.code.arrays) in (
      room,
      carry (λ i. IsOperationReady m.frames.arena (listed i) (sym at.framed i) room (sym c.deref.ensures.value i) c.args.coming.now.operation) (ready-there m after running w c.args.coming.now k runs arrays).1,
    )

pub returns : goal.returns
returns c levels =
    let m = c.args.machine.now in
    let contents = m.frames.arena.contents in
    let it = process-at m c.args.p c.requires.after.2.numbers c.place.ensures levels.kept c.index-process.ensures in
    let at = c.place-2.ensures levels.level levels.below levels.operands levels.pending it.stack in
    let arrays = c.as_slice.ensures ∙ at.code.arrays in
    c.reply_by.ensures
    ∙ (λ i. replied (cells_in contents) (address_of (cells_in contents) (at.framed i).first (arrays i)) c.args.coming.now.operation (c.deref.ensures.value i))
