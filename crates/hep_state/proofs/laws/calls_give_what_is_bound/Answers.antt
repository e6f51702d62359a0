use Rattle.std.proofs.Common.{◌≡◌, ℕ, true, is_some, List, Some, slice_get}
use Rattle.hep_machine.specs.Words.{Actual, Name, Units, Work, dummies_of, next_of, main_among, unit_at, next_activation, scope_of}
use Rattle.hep_machine.specs.declared.event.Kind.TheVariants.{Shape}
use Rattle.hep_state.specs.Words.{state_before}
use Rattle.hep_conditions.specs.Words.{IsAccepted}
use Rattle.hep_image.specs.Dummies.{dummy_arguments}
use Rattle.hep_binding.specs.DummyShapes.{shapes_of}
use Rattle.hep_step.specs.declared.call_kind.CallKind.{CallKind}
use Rattle.hep_step.specs.declared.call_kind.CallKind.TheVariants.{Calls, Creates, Refers}
use Rattle.hep_step.specs.NextCalls.{comes_by, unit_by}
use Rattle.hep_binding.specs.AcceptedLawsActuals.{FitsDummy}
use Rattle.hep_binding.specs.AcceptedLawsWorkOrigins.{ComesFrom}
use Rattle.hep_state.proofs.CallerRoom.{IsKnownToBind, actuals, called-so, dummies-given, fault-ends, frameless, range-bound, called-inside}
use Rattle.hep_image.proofs.Numbers.{unit-there}
use Rattle.hep_state.proofs.laws.calls_give_what_is_bound.Goals as goal

-- the actual arguments of a CALL, of a CREATE, and of a reference, fit
fit-so : goal.After-programs_are_known → (program : Units) → IsAccepted program → (way : CallKind) (u k j : ℕ) (work : Work) (x y : Name) (actuals : List Actual) (a : Actual) → ComesFrom (unit_at program u) k work → next_of (unit_at program u) work ≡ comes_by way x actuals
    → slice_get (dummies_of (unit_at program (unit_by way program x))) j ≡ Some y → slice_get actuals j ≡ Some a → FitsDummy (unit_at program u) (unit_at program (unit_by way program x)) y a
fit-so c program accepted Calls u k j work x y actuals a from is = c.actual_arguments_fit.ensures.called program u k j x y actuals a accepted (c.calls_come_from_statements.ensures.called (unit_at program u) k work x actuals from is)
fit-so c program accepted Creates u k j work x y actuals a from is = c.actual_arguments_fit.ensures.called program u k j x y actuals a accepted (c.calls_come_from_statements.ensures.created (unit_at program u) k work x actuals from is)
fit-so c program accepted Refers u k j work x y actuals a from is = c.actual_arguments_fit.ensures.referred program u k j x y actuals a accepted (c.references_come_from_statements.ensures (unit_at program u) k work x actuals from is)

all-known : goal.After-programs_are_known → (program : Units) → IsAccepted program → is_some (main_among program) ≡ true → IsKnownToBind program
all-known c program accepted main =
    record {
      known = c.programs_are_known.ensures program accepted main;
      distinct = λ u inside i j x. c.names_are_given_once.ensures.dummies program u i j (unit_at program u) x accepted (unit-there program u inside);
      fits = fit-so c program accepted;
      placed = λ unit x. c.variables_are_placed.ensures program unit x;
      passed = c.all_actuals_are_passed.ensures.entries;
      made = c.calls_make_activations.ensures;
      faults = c.calls_are_ahead.ensures.fails;
    }

pub returns-clause-shapable : goal.returns-clause-shapable
returns-clause-shapable c t call given room accepted main at gives few =
    let all = all-known c t.program accepted main in
    let s = state_before t in
    let dummies = dummies-given call at all given gives in
    c.calls_are_shapable.ensures t.program s at.step.turning.after.layout t.machine.arena.contents t.machine.arena.holes call.unit (next_activation s) room (actuals call at all) given dummies.0 accepted (called-inside call at all.known)
    at.step.turning.after.shows.keeps.memory dummies.2 few

pub returns-clause-making : goal.returns-clause-making
returns-clause-making c t call given accepted main at gives fit =
    let all = all-known c t.program accepted main in
    let s = state_before t in
    let dummies = dummies-given call at all given gives in
    let bound =
    c.shapes_decide_bindings.ensures.fit t.program s at.step.turning.after.layout t.machine.arena.contents call.unit (next_activation s) (scope_of t.program s t.top.0.activation) (actuals call at all) given dummies.0 accepted (called-inside call at all.known)
    (frameless call at all) at.step.turning.after.shows.keeps.memory.holds dummies.2 dummies.1 fit in
    called-so call at all given (shapes_of t.machine.arena.contents given (dummy_arguments t.program (unit_at t.program call.unit))) bound.0 gives bound.1 bound.2

pub returns-clause-range : goal.returns-clause-range
returns-clause-range c t call kind accepted main at gives =
    let all = all-known c t.program accepted main in
    fault-ends call at all kind (range-bound call at all kind gives)

pub returns-clause-shape : goal.returns-clause-shape
returns-clause-shape c t call given accepted main at gives unfit =
    let all = all-known c t.program accepted main in
    let s = state_before t in
    let dummies = dummies-given call at all given gives in
    fault-ends call at all Shape (
    c.shapes_decide_bindings.ensures.unfit t.program s at.step.turning.after.layout t.machine.arena.contents call.unit (next_activation s) (scope_of t.program s t.top.0.activation) (actuals call at all) given dummies.0 accepted (called-inside call at all.known)
    (frameless call at all) at.step.turning.after.shows.keeps.memory.holds dummies.2 dummies.1 unfit)
