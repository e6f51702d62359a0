use Rattle.std.proofs.Common.{◌≡◌, ◌∙◌, Ok, Err, ap, arith, is_some, refl, subst, sym, true}
use Rattle.hep_conditions.specs.Words.{IsAccepted}
use Rattle.hep_event.proofs.FoundVariables.{levels-of}
use Rattle.hep_event.proofs.TopPositions.{level-there}
use Rattle.hep_image.specs.Addressing.{cells_in}
use Rattle.hep_machine.specs.Words.{main_among}
use Rattle.hep_races.proofs.ActualsGiven.{HasCallLaws, called, given-ahead, t}
use Rattle.hep_races.proofs.bound_reads.given_ahead.Goals.{After-all_actuals_are_passed}
use Rattle.hep_races.proofs.bound_reads.given_ahead.Goals as goal
use Rattle.hep_state.proofs.Processes.{process-at}
use Rattle.hep_state.proofs.UnchangedStates.{carry}
use Rattle.hep_step.specs.ArgumentPassing.{given_by}
use Rattle.hep_step.specs.NextCalls.{last_operands}
use Rattle.hep_step.specs.Cells.{HasFrame}
use Rattle.hep_step.specs.ReadyToPass.{ArePassable}
use Rattle.hep_code.specs.Words.{passed_from}

pub place-requires-clause-living : goal.place-requires-clause-living
place-requires-clause-living c = levels-of c.requires.ahead.3.lives

pub place-requires-2 : goal.place-requires-2
place-requires-2 c =
    let a = c.args.ahead.now in
    let lives = c.requires.ahead.3.lives in
    let w = levels-of lives in
    let it = process-at a.machine.now a.process lives.after.numbers c.place.ensures w.kept c.index-process.ensures in
    (w.level, w.below, w.operands, w.pending, it.stack, level-there a.machine.now lives.after lives.running w)

-- the laws that were stated
laws : (c : After-all_actuals_are_passed) → HasCallLaws c.args.ahead.now.image.now
laws c =
    let program = c.args.ahead.now.image.now in
    let accepted = c.is_runnable.ensures.accepted in
    let main = c.is_runnable.ensures.main in
    record {
      accepted = accepted;
      main = main;
      running = record {
        closed = c.programs_are_closed.ensures.closed program accepted;
        units = λ choices a one made. c.units_are_there.ensures program choices a accepted main one made;
        bound = λ choices a one made. c.activations_are_bound_in_runs.ensures program choices a accepted main one made;
        running = λ t same turning.
            c.tops_are_running.ensures.running t (subst IsAccepted (sym same) accepted) (subst (λ units. is_some (main_among units)
            ≡ true) (sym same) main) turning;
      };
      placed = λ u i x inside at. c.variables_of_the_code_are_placed.ensures.all program u i x accepted inside at;
      ahead = c.calls_are_ahead.ensures.ahead;
      last = c.calls_are_ahead.ensures.last;
      inside = λ t call same at. c.calls_can_be_made.ensures.inside t call (subst IsAccepted (sym same) accepted) (subst (λ units. is_some
          (main_among units) ≡ true) (sym same) main) at;
      counted = λ t call same at. c.calls_can_be_made.ensures.counted t call (subst IsAccepted (sym same) accepted) (subst (λ units. is_some
          (main_among units) ≡ true) (sym same) main) at;
      given = c.all_actuals_are_passed.ensures.entries;
    }

pub give_actuals-requires-clause-frame : goal.give_actuals-requires-clause-frame
give_actuals-requires-clause-frame c =
    let a = c.args.ahead.now in
    let m = a.machine.now in
    let cells = c.requires.ahead.0 in
    let choices = c.requires.ahead.1 in
    let top = c.requires.ahead.2 in
    let h = c.requires.ahead.3 in
    let w = levels-of h.lives in
    let it = process-at m a.process h.lives.after.numbers c.place.ensures w.kept c.index-process.ensures in
    let at = c.place-2.ensures w.level w.below w.operands w.pending it.stack in
    let so = laws (goal.at.give_actuals-requires-clause-frame c).After-all_actuals_are_passed in
    let q = called cells choices a top h so a.coming.now.operation refl c.args.unit c.args.count c.requires.called in
    subst (HasFrame m.frames.arena) (sym at.framed) (
    c.calls_can_be_made.ensures.framed (t cells choices a top h so) q.call so.accepted so.main
    (omega (arith, h.lives.after.after.size, h.lives.after.few)) q.step)

pub give_actuals-requires-clause-passable : goal.give_actuals-requires-clause-passable
give_actuals-requires-clause-passable c =
    let a = c.args.ahead.now in
    let m = a.machine.now in
    let cells = c.requires.ahead.0 in
    let choices = c.requires.ahead.1 in
    let top = c.requires.ahead.2 in
    let h = c.requires.ahead.3 in
    let w = levels-of h.lives in
    let it = process-at m a.process h.lives.after.numbers c.place.ensures w.kept c.index-process.ensures in
    let at = c.place-2.ensures w.level w.below w.operands w.pending it.stack in
    let so = laws (goal.at.give_actuals-requires-clause-passable c).After-all_actuals_are_passed in
    let q = called cells choices a top h so a.coming.now.operation refl c.args.unit c.args.count c.requires.called in
    let listed = sym (c.as_slice.ensures ∙ at.code.arrays) in
    let passed = (λ i. last_operands (q.count i) (q.behind i) a.coming.now.operands.items)
    ∙ sym (c.passed_operands-operands.ensures ∙ ap (last_operands c.args.count a.coming.now.behind.now) c.deref.ensures.value) in
    carry (λ i. ArePassable m.frames.arena (listed i) (sym at.framed i) (passed_from (q.count i) (q.behind i) (passed i))) (
    c.calls_can_be_made.ensures.passable (t cells choices a top h so) q.call so.accepted so.main q.step)

pub returns-in-Ok : goal.returns-in-Ok
returns-in-Ok c cells choices top h =
    let a = c.args.ahead.now in
    let m = a.machine.now in
    let w = levels-of h.lives in
    let it = process-at m a.process h.lives.after.numbers c.place.ensures w.kept c.index-process.ensures in
    let at = c.place-2.ensures w.level w.below w.operands w.pending it.stack in
    let so = laws (goal.at.returns-in-Ok c).After-all_actuals_are_passed in
    let q = called cells choices a top h so a.coming.now.operation refl c.args.unit c.args.count c.requires.called in
    let listed = sym (c.as_slice.ensures ∙ at.code.arrays) in
    let passed = (λ i. last_operands (q.count i) (q.behind i) a.coming.now.operands.items)
    ∙ sym (c.passed_operands-operands.ensures ∙ ap (last_operands c.args.count a.coming.now.behind.now) c.deref.ensures.value) in
    given-ahead cells choices a top h so c.args.unit c.args.count q (Ok c.give_actuals.new.given.items) (sym (
    (λ i. given_by (cells_in m.frames.arena.contents) (sym at.framed i).first (listed i) (passed_from (q.count i) (q.behind i) (passed i)))
    ∙ c.in-Ok.ensures.given))

pub returns-in-Err : goal.returns-in-Err
returns-in-Err c cells choices top h =
    let a = c.args.ahead.now in
    let m = a.machine.now in
    let w = levels-of h.lives in
    let it = process-at m a.process h.lives.after.numbers c.place.ensures w.kept c.index-process.ensures in
    let at = c.place-2.ensures w.level w.below w.operands w.pending it.stack in
    let so = laws (goal.at.returns-in-Err c).After-all_actuals_are_passed in
    let q = called cells choices a top h so a.coming.now.operation refl c.args.unit c.args.count c.requires.called in
    let listed = sym (c.as_slice.ensures ∙ at.code.arrays) in
    let passed = (λ i. last_operands (q.count i) (q.behind i) a.coming.now.operands.items)
    ∙ sym (c.passed_operands-operands.ensures ∙ ap (last_operands c.args.count a.coming.now.behind.now) c.deref.ensures.value) in
    given-ahead cells choices a top h so c.args.unit c.args.count q (Err c.in-Err.field-0) (sym (
    (λ i. given_by (cells_in m.frames.arena.contents) (sym at.framed i).first (listed i) (passed_from (q.count i) (q.behind i) (passed i)))
    ∙ c.in-Err.ensures.fault))
