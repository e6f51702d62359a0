use Rattle.std.proofs.Common.{◌∙◌, sym, subst}
use Rattle.hep_image.specs.Addressing.{address_of, cells_in}
use Rattle.hep_image.specs.FrameBounds.{LiesIn}
use Rattle.hep_proc.specs.declared.process.Local.{Local}
use Rattle.hep_state.proofs.Processes.{process-at, some-levels-at}
use Rattle.hep_state.proofs.UnchangedStates.{carry}
use Rattle.hep_step.specs.Cells.{HasFrame, IsReached}
use Rattle.hep_views.specs.CellOwners.{IsPlaceSought, IsSought}
use Rattle.hep_event.proofs.TopPositions.{level-there}
use Rattle.hep_event.proofs.FoundVariables.{frame-there, levels-of, lies-there, none-is, reached-there, site-is, sought-there}
use Rattle.hep_event.proofs.sites.site_of.Goals as goal

pub place-requires-clause-living : goal.place-requires-clause-living
place-requires-clause-living c = levels-of c.requires.3

pub place-requires-2 : goal.place-requires-2
place-requires-2 c =
    let lives = c.requires.3 in
    let w = levels-of lives in
    let it = process-at c.args.machine.now c.args.p lives.after.numbers c.place.ensures w.kept c.index-process.ensures in
    (w.level, w.below, w.operands, w.pending, it.stack, level-there c.args.machine.now lives.after lives.running w)

pub top-key-requires : goal.top-key-requires
top-key-requires c =
    let lives = c.requires.3 in
    some-levels-at (process-at c.args.machine.now c.args.p lives.after.numbers c.place.ensures (levels-of lives).kept c.index-process.ensures)

pub address-requires-clause-frame : goal.address-requires-clause-frame
address-requires-clause-frame c =
    let m = c.args.machine.now in
    let lives = c.requires.3 in
    let w = levels-of lives in
    let it = process-at m c.args.p lives.after.numbers c.place.ensures w.kept c.index-process.ensures in
    let at = c.place-2.ensures w.level w.below w.operands w.pending it.stack in
    subst (HasFrame m.frames.arena) (sym at.framed) (
    frame-there m lives c.is_runnable.ensures.accepted c.is_runnable.ensures.main c.tops_are_running.ensures.running c.tops_are_running.ensures.arrays w c.requires.4 c.args.variable c.requires.5 c.args.subscripts.now)

pub address-requires-clause-inside : goal.address-requires-clause-inside
address-requires-clause-inside c =
    let m = c.args.machine.now in
    let lives = c.requires.3 in
    let w = levels-of lives in
    let it = process-at m c.args.p lives.after.numbers c.place.ensures w.kept c.index-process.ensures in
    let at = c.place-2.ensures w.level w.below w.operands w.pending it.stack in
    let listed = sym (c.as_slice.ensures ∙ at.code.arrays) in
    carry (λ i. LiesIn (sym at.framed i).cells (listed i) c.args.variable) (
    lies-there m lives c.is_runnable.ensures.accepted c.is_runnable.ensures.main c.tops_are_running.ensures.running c.tops_are_running.ensures.arrays w c.requires.4 c.args.variable c.requires.5 c.args.subscripts.now)

pub address-requires-clause-reached : goal.address-requires-clause-reached
address-requires-clause-reached c =
    let m = c.args.machine.now in
    let lives = c.requires.3 in
    let w = levels-of lives in
    let it = process-at m c.args.p lives.after.numbers c.place.ensures w.kept c.index-process.ensures in
    let at = c.place-2.ensures w.level w.below w.operands w.pending it.stack in
    let listed = sym (c.as_slice.ensures ∙ at.code.arrays) in
    carry (λ i. IsReached m.frames.arena (address_of (cells_in m.frames.arena.contents) (sym at.framed i).first (listed i) c.args.variable c.args.subscripts.now)) (
    reached-there m lives c.is_runnable.ensures.accepted c.is_runnable.ensures.main c.tops_are_running.ensures.running c.tops_are_running.ensures.arrays w c.requires.4 c.args.variable c.requires.5 c.args.subscripts.now)

pub place_at-requires : goal.place_at-requires
place_at-requires c =
    let program = c.args.image.now in
    let m = c.args.machine.now in
    let lives = c.requires.3 in
    let w = levels-of lives in
    let it = process-at m c.args.p lives.after.numbers c.place.ensures w.kept c.index-process.ensures in
    let at = c.place-2.ensures w.level w.below w.operands w.pending it.stack in
    let listed = sym (c.as_slice.ensures ∙ at.code.arrays) in
    let same = c.top-key.ensures w.level w.below w.operands w.pending it.stack in
    let is = (λ i. address_of (cells_in m.frames.arena.contents) (sym at.framed i).first (listed i) c.args.variable c.args.subscripts.now) ∙ sym c.in-Ok.ensures in
    let found = sought-there m lives c.is_runnable.ensures.accepted c.is_runnable.ensures.main c.tops_are_running.ensures.running c.tops_are_running.ensures.arrays w c.requires.4 c.args.variable c.requires.5 c.args.subscripts.now c.in-Ok.cell is in
    (c.requires.0, c.requires.1, found.0, subst (λ (l : Local). IsSought program c.requires.0 c.requires.1 m l.key c.in-Ok.cell found.0) (sym same) found.1)

pub returns-in-Ok : goal.returns-in-Ok
returns-in-Ok c cells choices top lives x named =
    let program = c.args.image.now in
    let m = c.args.machine.now in
    let w = levels-of lives in
    let it = process-at m c.args.p lives.after.numbers c.place.ensures w.kept c.index-process.ensures in
    let at = c.place-2.ensures w.level w.below w.operands w.pending it.stack in
    let listed = sym (c.as_slice.ensures ∙ at.code.arrays) in
    let same = c.top-key.ensures w.level w.below w.operands w.pending it.stack in
    let is = (λ i. address_of (cells_in m.frames.arena.contents) (sym at.framed i).first (listed i) c.args.variable c.args.subscripts.now) ∙ sym c.in-Ok.ensures in
    let place = subst (λ (l : Local). IsPlaceSought program m l.key c.in-Ok.cell c.place_at.result) same c.place_at.ensures in
    site-is m lives c.is_runnable.ensures.accepted c.is_runnable.ensures.main c.tops_are_running.ensures.running c.tops_are_running.ensures.arrays w x c.args.variable named c.args.subscripts.now c.in-Ok.cell c.place_at.result is place

pub returns-in-Err : goal.returns-in-Err
returns-in-Err c cells choices top lives x named =
    let m = c.args.machine.now in
    let w = levels-of lives in
    let it = process-at m c.args.p lives.after.numbers c.place.ensures w.kept c.index-process.ensures in
    let at = c.place-2.ensures w.level w.below w.operands w.pending it.stack in
    let listed = sym (c.as_slice.ensures ∙ at.code.arrays) in
    let is = (λ i. address_of (cells_in m.frames.arena.contents) (sym at.framed i).first (listed i) c.args.variable c.args.subscripts.now) ∙ sym c.in-Err.ensures in
    none-is m lives c.is_runnable.ensures.accepted c.is_runnable.ensures.main c.tops_are_running.ensures.running c.tops_are_running.ensures.arrays w x c.args.variable named c.args.subscripts.now c.in-Err.field-0 is
