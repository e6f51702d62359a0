use Rattle.std.proofs.Common.{◌∙◌, ap, arith, length, refl, subst, sym}
use Rattle.std.proofs.lemmas.Option.{none-some, same_Some}
use Rattle.hep_core.proofs.GoodTickets.{as-many}
use Rattle.hep_core.specs.CoreValues.{state_of}
use Rattle.hep_machine.specs.Words.{Top, schedule_of}
use Rattle.hep_trace.specs.Ancestry.{IsAncestryOf}
use Rattle.hep_trace.specs.FreedFrames.{top_in}
use Rattle.hep_state.specs.Words.{snapshot_of}
use Rattle.hep_state.proofs.UnchangedStates.{carry}
use Rattle.hep_event.specs.CoreStanding.{whereabouts_at, whereabouts_with}
use Rattle.hep_trace.specs.declared.observation.BeforeTurn.{BeforeTurn}
use Rattle.hep_trace.specs.Observations.{IsAheadSeen, IsLoopAhead, IsToldWith}
use Rattle.hep_trace.proofs.ObservedProcesses.{lives-in, top-same}
use Rattle.hep_trace.proofs.observing.look_at.Goals as goal

pub unreachable-requires : goal.unreachable-requires
unreachable-requires c =
    let core = c.args.core.now.core in
    let ahead = c.args.ahead.now in
    let top = c.requires.ahead.0 in
    none-some _ (sym c.in_default.is ∙ c.whereabouts.ensures ∙ ap (whereabouts_with core.program (state_of core) ahead.process) (lives-in core ahead top c.requires.ahead.1))

pub numbers_before-requires-clause-activations : goal.numbers_before-requires-clause-activations
numbers_before-requires-clause-activations c =
    let core = c.args.core.now.core in
    let ahead = c.args.ahead.now in
    let after = c.requires.ahead.1.ahead_is.lives.after.after in
    let made = c.activations_are_few.ensures.activations ahead.image.now core.cells (schedule_of core.history) (snapshot_of ahead.machine.now) after in
    omega (arith, made, c.requires.few)

pub numbers_before-requires-clause-processes : goal.numbers_before-requires-clause-processes
numbers_before-requires-clause-processes c =
    let core = c.args.core.now.core in
    let ahead = c.args.ahead.now in
    let after = c.requires.ahead.1.ahead_is.lives.after.after in
    let made = c.activations_are_few.ensures.processes ahead.image.now core.cells (schedule_of core.history) (snapshot_of ahead.machine.now) after in
    let many = as-many ahead.image.now core.cells (schedule_of core.history) ahead.machine.now after in
    omega (arith, made, many, after.shows.processes, c.requires.few)

pub returns : goal.returns
returns c top h =
    let core = c.args.core.now.core in
    let ahead = c.args.ahead.now in
    let choices = schedule_of core.history in
    let same = top-same core ahead top h in
    let t : Top = top_in core ahead.process top in
    let reference = c.in_ok-reference.ensures core.cells choices top h.ahead_is in
    let place = same_Some c.in-Some.place (whereabouts_at core.program t.state ahead.process top.0) (
    sym c.in-Some.is ∙ c.whereabouts.ensures ∙ ap (whereabouts_with core.program t.state ahead.process) (lives-in core ahead top h)) in
    let b : BeforeTurn = record {
      unit = c.in-Some.place.unit;
      line = c.in-Some.place.line;
      operation = ahead.coming.now.operation;
      operands = c.in_ok-operands.operands;
      reference = c.in_ok-reference.reference;
      value = c.value_before-value.result;
      list = c.in_ok-list.list;
      numbers = c.numbers_before.result;
      waiting = c.in_ok-waiting.waiting;
      ancestry = c.in_ok-ancestry.ancestry;
      faults = length c.faults.result.now;
    } in
    let seen : IsAheadSeen core.cells choices ahead top b = record {
      operation = refl;
      operands = c.in_ok-operands.ensures.items_if_clones_equal (λ x y e. e) ∙ c.as_slice.ensures.value;
      reference = reference;
      value = c.value_before-value.ensures core.cells choices top h.ahead_is reference;
      list = c.in_ok-list.ensures core.cells choices top h.ahead_is;
      numbers = c.numbers_before.ensures core.cells choices top h.ahead_is;
    } in
    let told = c.turns_are_told.ensures core.cells choices ahead top b c.is_runnable.ensures.accepted c.is_runnable.ensures.main h.ahead_is seen in
    record {
      unit = ap (λ w. w.unit) place;
      line = ap (λ w. w.line) place;
      told = carry (λ i. IsToldWith (h.program i) (same i) b) told.0;
      loop = carry (λ i. IsLoopAhead (h.program i) (same i) b.operation) told.1;
      waiting = c.in_ok-waiting.ensures;
      ancestry = subst (λ (z : Top). IsAncestryOf z b.ancestry.items) same (c.in_ok-ancestry.ensures core.cells choices top h.ahead_is);
      faults = ap length c.faults.ensures;
    }
