use Rattle.std.proofs.Common.{◌≡◌, ◌∙◌, ◌++◌, List, OnOk, Result, Ok, Err, append-nil, is_some, sym, ap, subst, true}
use Rattle.hep_code.specs.Words.{by_reference}
use Rattle.hep_conditions.specs.Words.{IsAccepted}
use Rattle.hep_event.proofs.FoundVariables.{itself, levels-of, turns}
use Rattle.hep_event.proofs.TopPositions.{level-there}
use Rattle.hep_image.specs.Addressing.{cells_in}
use Rattle.hep_machine.specs.Words.{Location, Value, main_among, run}
use Rattle.hep_proc.specs.declared.process.Local.{Local}
use Rattle.hep_races.proofs.PurgedUnits.{AreUnitsBy, frame-there, passable-there, target-found}
use Rattle.hep_races.proofs.purged_places.append_target.Goals.{After-activations_are_bound_in_runs}
use Rattle.hep_races.proofs.purged_places.append_target.Goals as goal
use Rattle.hep_races.specs.FullUnits.{AreUnitsAt, full_places}
use Rattle.hep_races.specs.StepChanges.{units_of_target}
use Rattle.hep_state.proofs.Processes.{process-at, some-levels-at}
use Rattle.hep_state.proofs.UnchangedStates.{carry}
use Rattle.hep_state.specs.Words.{AreRunning}
use Rattle.hep_step.specs.Cells.{HasFrame}
use Rattle.hep_step.specs.PurgedRanges.{range_for}
use Rattle.hep_step.specs.ReadyToPass.{IsPassable}
use Rattle.hep_trace.specs.References.{top_after}

pub place-requires-clause-living : goal.place-requires-clause-living
place-requires-clause-living c = levels-of c.requires.4.lives

pub place-requires-2 : goal.place-requires-2
place-requires-2 c =
    let a = c.args.ahead.now in
    let lives = c.requires.4.lives in
    let w = levels-of lives in
    let it = process-at a.machine.now a.process lives.after.numbers c.place.ensures w.kept c.index-process.ensures in
    (w.level, w.below, w.operands, w.pending, it.stack, level-there a.machine.now lives.after lives.running w)

pub top-key-requires : goal.top-key-requires
top-key-requires c =
    let a = c.args.ahead.now in
    let lives = c.requires.4.lives in
    some-levels-at (process-at a.machine.now a.process lives.after.numbers c.place.ensures (levels-of lives).kept c.index-process.ensures)

-- what is known of activations in runs
known : (c : After-activations_are_bound_in_runs) → AreRunning c.args.ahead.now.image.now
known c =
    let program = c.args.ahead.now.image.now in
    let accepted = c.is_runnable.ensures.accepted in
    let main = c.is_runnable.ensures.main in
    record {
      closed = c.programs_are_closed.ensures.closed program accepted;
      units = λ choices a one made. c.units_are_there.ensures program choices a accepted main one made;
      bound = λ choices a one made. c.activations_are_bound_in_runs.ensures program choices a accepted main one made;
      running = λ t same turning.
          c.tops_are_running.ensures.running t (subst IsAccepted (sym same) accepted) (subst (λ units. is_some (main_among units)
          ≡ true) (sym same) main) turning;
    }

pub from_passed-requires-clause-frame : goal.from_passed-requires-clause-frame
from_passed-requires-clause-frame c =
    let a = c.args.ahead.now in
    let h = c.requires.4 in
    let w = levels-of h.lives in
    let it = process-at a.machine.now a.process h.lives.after.numbers c.place.ensures w.kept c.index-process.ensures in
    let at = c.place-2.ensures w.level w.below w.operands w.pending it.stack in
    let so = known (goal.at.from_passed-requires-clause-frame c).After-activations_are_bound_in_runs in
    subst (HasFrame a.machine.now.frames.arena) (sym at.framed) (frame-there c.requires.0 c.requires.1 a c.requires.2 h so)

pub from_passed-requires-clause-passable : goal.from_passed-requires-clause-passable
from_passed-requires-clause-passable c =
    let a = c.args.ahead.now in
    let m = a.machine.now in
    let h = c.requires.4 in
    let w = levels-of h.lives in
    let it = process-at m a.process h.lives.after.numbers c.place.ensures w.kept c.index-process.ensures in
    let at = c.place-2.ensures w.level w.below w.operands w.pending it.stack in
    let so = known (goal.at.from_passed-requires-clause-passable c).After-activations_are_bound_in_runs in
    let listed = sym (c.as_slice.ensures ∙ at.code.arrays) in
    let placed = c.tops_are_running.ensures.arrays (itself m h.lives.after h.lives.running w) c.is_runnable.ensures.accepted
    c.is_runnable.ensures.main (turns m h.lives.after h.lives.running w) in (
      carry (λ i. IsPassable m.frames.arena (listed i) (sym at.framed i) c.args.variable c.args.subscripts.now) (
          passable-there c.requires.0 c.requires.1 a c.requires.2 h so placed c.requires.3.0 c.args.variable c.requires.5
          c.args.subscripts.now),
      tt,
    )

pub append_full-requires : goal.append_full-requires
append_full-requires c =
    let a = c.args.ahead.now in
    let program = a.image.now in
    let m = a.machine.now in
    let cells = c.requires.0 in
    let choices = c.requires.1 in
    let top = c.requires.2 in
    let x = c.requires.3 in
    let h = c.requires.4 in
    let w = levels-of h.lives in
    let it = process-at m a.process h.lives.after.numbers c.place.ensures w.kept c.index-process.ensures in
    let at = c.place-2.ensures w.level w.below w.operands w.pending it.stack in
    let so = known (goal.at.append_full-requires c).After-activations_are_bound_in_runs in
    let listed = sym (c.as_slice.ensures ∙ at.code.arrays) in
    let placed = c.tops_are_running.ensures.arrays (itself m h.lives.after h.lives.running w) c.is_runnable.ensures.accepted
    c.is_runnable.ensures.main (turns m h.lives.after h.lives.running w) in
    let is = (λ i. range_for (cells_in m.frames.arena.contents) (sym at.framed i).first (listed i)
    (by_reference c.args.variable c.args.subscripts.now)) ∙ sym c.in-Ok.ensures in
    let units = units_of_target program (top_after program choices a.process top) (x.0, c.args.subscripts.now) in
    let own = target-found cells choices a top h so placed x.0 c.args.variable c.requires.5 c.args.subscripts.now in
    let same = c.top-key.ensures w.level w.below w.operands w.pending it.stack in
    let found = subst (λ q. AreUnitsBy cells choices a top h so placed x.0 c.args.variable c.requires.5 c.args.subscripts.now q units) is
    own in
    (cells, choices, units, subst (λ (l : Local). AreUnitsAt program cells choices m l.key c.in-Ok.range units) (sym same) found)

weaker : {A E : Type 0} {P Q : Type 0} (r : Result A E) → OnOk r P → (P → Q) → OnOk r Q
weaker (Ok x) h f = f h
weaker (Err e) h f = tt

pub returns-in-Ok : goal.returns-in-Ok
returns-in-Ok c =
    weaker c.append_full.result c.append_full.ensures (λ made cells choices top x h named same.
    let a = c.args.ahead.now in
    let program = a.image.now in
    let m = a.machine.now in
    let w = levels-of h.lives in
    let it = process-at m a.process h.lives.after.numbers c.place.ensures w.kept c.index-process.ensures in
    let at = c.place-2.ensures w.level w.below w.operands w.pending it.stack in
    let so = known (goal.at.returns-in-Ok c).After-activations_are_bound_in_runs in
    let listed = sym (c.as_slice.ensures ∙ at.code.arrays) in
    let placed = c.tops_are_running.ensures.arrays (itself m h.lives.after h.lives.running w) c.is_runnable.ensures.accepted
    c.is_runnable.ensures.main (turns m h.lives.after h.lives.running w) in
    let is = (λ i. range_for (cells_in m.frames.arena.contents) (sym at.framed i).first (listed i)
    (by_reference c.args.variable c.args.subscripts.now)) ∙ sym c.in-Ok.ensures in
    let own = target-found cells choices a top h so placed x.0 c.args.variable named c.args.subscripts.now in
    let key = c.top-key.ensures w.level w.below w.operands w.pending it.stack in
    let units = units_of_target program (top_after program choices a.process top) (x.0, c.args.subscripts.now) in
    let found = subst (λ q. AreUnitsBy cells choices a top h so placed x.0 c.args.variable named c.args.subscripts.now q units) is own in
    made cells choices units (subst (λ (l : Local). AreUnitsAt program cells choices m l.key c.in-Ok.range units) (sym key) found)
    ∙ ap (λ (vs : List Value). c.args.places.now.items ++ full_places program (run program choices)
    (units_of_target program (top_after program choices a.process top) (x.0, vs))) (sym same))

pub returns-in-Err : goal.returns-in-Err
returns-in-Err c cells choices top x h named same =
    let a = c.args.ahead.now in
    let program = a.image.now in
    let m = a.machine.now in
    let w = levels-of h.lives in
    let it = process-at m a.process h.lives.after.numbers c.place.ensures w.kept c.index-process.ensures in
    let at = c.place-2.ensures w.level w.below w.operands w.pending it.stack in
    let so = known (goal.at.returns-in-Err c).After-activations_are_bound_in_runs in
    let listed = sym (c.as_slice.ensures ∙ at.code.arrays) in
    let placed = c.tops_are_running.ensures.arrays (itself m h.lives.after h.lives.running w) c.is_runnable.ensures.accepted
    c.is_runnable.ensures.main (turns m h.lives.after h.lives.running w) in
    let is = (λ i. range_for (cells_in m.frames.arena.contents) (sym at.framed i).first (listed i)
    (by_reference c.args.variable c.args.subscripts.now)) ∙ sym c.in-Err.ensures in
    let own = target-found cells choices a top h so placed x.0 c.args.variable named c.args.subscripts.now in
    let units = units_of_target program (top_after program choices a.process top) (x.0, c.args.subscripts.now) in
    let none = subst (λ q. AreUnitsBy cells choices a top h so placed x.0 c.args.variable named c.args.subscripts.now q units) is own in
    sym (append-nil c.args.places.now.items)
    ∙ ap (λ (us : List Location). c.args.places.now.items ++ full_places program (run program choices) us) (sym none)
    ∙ ap (λ (vs : List Value). c.args.places.now.items ++ full_places program (run program choices)
    (units_of_target program (top_after program choices a.process top) (x.0, vs))) (sym same)
