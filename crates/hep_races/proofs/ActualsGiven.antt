-- What the actual arguments of the next CALL, CREATE or reference of a process give.
use Rattle.std.proofs.Common.{◌≡◌, ◌≢◌, ℕ, suc, ◌+◌, ◌<◌, true, List, [], ◌∷◌, length, map, Option, Some, None}
use Rattle.std.proofs.Common.{Result, Ok, Err, refl, sym, ap, ◌∙◌, subst, is_some, slice_get}
use Rattle.std.proofs.lemmas.Option.{none-some, same_Some, slice_get-map}
use Rattle.std.specs.List.{flat_map}
use Rattle.std.specs.Option.{option_map}
use Rattle.hep_accepted_laws.specs.Instructions.{variables_in}
use Rattle.hep_accepted_laws.specs.PlacedCode.{ArePlaced as AreAllPlaced, code_in}
use Rattle.hep_accesses.specs.Exchanges.{next_on_top}
use Rattle.hep_code.specs.declared.instruction.Instruction.{Instruction}
use Rattle.hep_code.specs.declared.instruction.Instruction.TheVariants.{Pass, Step}
use Rattle.hep_code.specs.declared.instruction.Operation.{Operation}
use Rattle.hep_code.specs.declared.instruction.Operation.TheVariants.{Call, Create, Refer}
use Rattle.hep_code.specs.declared.variable.Variable.{Variable}
use Rattle.hep_code.specs.declared.variable.Variable.TheVariants.{Absent}
use Rattle.hep_code.specs.Words.{argument_of_actual, operands_of_actual, passed_from}
use Rattle.hep_conditions.specs.Words.{IsAccepted}
use Rattle.hep_event.proofs.FoundVariables.{levels-of, same-top}
use Rattle.hep_event.proofs.TopPositions.{settled-there, settled-turn, unit-inside}
use Rattle.hep_event.specs.NextOperations.{IsNextOperation}
use Rattle.hep_image.specs.Addressing.{cells_in}
use Rattle.hep_machine.specs.declared.event.Kind.{Kind}
use Rattle.hep_machine.specs.Words.{Actual, Dummy, Layout, Level, Name, Process, Reference, State, Top, Units, dummies_for, dummies_of}
use Rattle.hep_machine.specs.Words.{Value, evaluated, main_among, next_activation, referred, run, scope_of, unit_at}
use Rattle.hep_races.specs.BoundReads.{AreGivenOr, IsGivenAhead, called_by}
use Rattle.hep_source.proofs.Tests.{at-front}
use Rattle.hep_state.proofs.CallerRoom.{ahead-on-top, caller_at, calls-so, runs}
use Rattle.hep_state.proofs.SilentTurns.{unit-is}
use Rattle.hep_state.proofs.TopActivations.{dropped-behind}
use Rattle.hep_state.specs.declared.core_state.CoreState.{CoreState}
use Rattle.hep_state.specs.declared.next_step.NextCall.{NextCall}
use Rattle.hep_state.specs.Words.{AreRunning, HasLevels, IsAtCall, IsAtStep, IsTurning, TurnOf, given_of, running_top, snapshot_of}
use Rattle.hep_state.specs.Words.{top_before}
use Rattle.hep_step.specs.ArgumentAgreement.{AreGivenAs, ArePlaced, CallerOf, IsCaller, given_passed, passed_by_entries, scope_calling}
use Rattle.hep_step.specs.ArgumentAgreement.{variables_calling}
use Rattle.hep_step.specs.ArgumentPassing.{given_by}
use Rattle.hep_step.specs.NextCalls.{IsBehindEntries, IsCallAhead, last_operands, making}
use Rattle.hep_step.specs.Simulation.{IsRunning, RunningTop, code_ahead, unit_addressed, unit_arrays}
use Rattle.hep_step.specs.declared.call_kind.CallKind.{CallKind}
use Rattle.hep_step.specs.declared.call_kind.CallKind.TheVariants.{Calls, Creates, Refers}
use Rattle.hep_step.specs.declared.dummy_storage.DummyStorage.{DummyStorage}
use Rattle.hep_trace.specs.References.{IsAhead, top_after}
use Rattle.hep_trace.specs.declared.reference.LiveProcess.{LiveProcess}

-- a result as an option
abbrev pub given_in : Result (List DummyStorage) Kind → Option (List DummyStorage)
given_in (Ok gs) = Some gs
given_in (Err k) = None

-- either is given, or there is a fault
pub given-or : (program : Units) (s : State) (layout : Layout) (xs : List Name) (ys : List Actual) (r : Result (List DummyStorage) Kind)
    (o : Result (List Dummy) Kind) → AreGivenAs program s layout (next_activation s) xs ys r o
    → AreGivenOr program s layout xs ys (given_in r) o
given-or program s layout xs ys (Ok gs) (Ok ds) h = h
given-or program s layout xs ys (Err k) (Err l) h = tt
given-or program s layout xs ys (Ok gs) (Err l) h = absurd h
given-or program s layout xs ys (Err k) (Ok ds) h = absurd h

-- laws of an accepted program
pub record HasCallLaws (program : Units) : Type 0 where
  pub accepted : IsAccepted program
  pub main : is_some (main_among program) ≡ true
  pub running : AreRunning program
  pub placed : (u i : ℕ) (x : Instruction) → u < length program → slice_get (code_in program u) i ≡ Some x → AreAllPlaced (variables_in x)
  pub ahead : (way : CallKind) (r : RunningTop) (line u count next : ℕ) (behind : List Instruction)
      → IsRunning r → code_ahead r ≡ Step line (making way u count next) ∷ behind → IsBehindEntries way r.index count next
      → IsCallAhead way r.program r.top r.operands u count next behind
  pub last : (way : CallKind) (program : Units) (t : Top) (operands : List Value) (u count next : ℕ) (behind : List Instruction)
      → (calls : IsCallAhead way program t operands u count next behind)
      → last_operands count behind operands ≡ flat_map operands_of_actual calls.actuals
  pub inside : (t : TurnOf) (call : NextCall) → t.program ≡ program → IsAtCall t call → call.unit < length t.program
  pub counted : (t : TurnOf) (call : NextCall) → t.program ≡ program → IsAtCall t call
      → call.count ≡ length (dummies_of (unit_at t.program call.unit))
  pub given : (c : CallerOf) (b : ℕ) (xs : List Name) (actuals : List Actual) (more : List Instruction) → IsCaller c
      → ArePlaced (variables_calling c) actuals → length xs ≡ length actuals
      → AreGivenAs c.program c.state c.layout b xs actuals (given_passed c (passed_by_entries c actuals more))
      (dummies_for (scope_calling c) b xs actuals)

-- ---- actual arguments have storage units

module _ (variables : Name → Variable) where
  -- they have where each name that is passed is that of a variable or an array
  placed-from : (ys : List Actual) → ((j : ℕ) (r : Reference) → slice_get ys j ≡ Some (referred r) → variables r.0 ≢ Absent)
      → ArePlaced variables ys
  placed-from [] each = tt
  placed-from (evaluated v ∷ ys) each = placed-from ys (λ j r e. each (suc j) r e)
  placed-from (referred r ∷ ys) each = (each 0 r refl, placed-from ys (λ j s e. each (suc j) s e))

module _ (cells : ℕ) (choices : List ℕ) (ahead : LiveProcess) (top : Level × Process) (h : IsAhead cells choices ahead top)
    (laws : HasCallLaws ahead.image.now) where
  abbrev program : Units
  program = ahead.image.now

  abbrev m : CoreState
  m = ahead.machine.now

  abbrev s : State
  s = run program choices

  abbrev pub levels : HasLevels (snapshot_of m) ahead.process
  levels = levels-of h.lives

  abbrev k : IsNextOperation (unit_addressed program levels.level.unit) levels.operands levels.level.index ahead.coming.now
  k = h.coming levels

  abbrev pub t : TurnOf
  t = settled-turn m h.lives.after h.lives.running levels ahead.coming.now k

  turning : IsTurning t
  turning = settled-there m h.lives.after h.lives.running levels ahead.coming.now k

  -- the call that comes next
  pub record IsCalled (u n : ℕ) : Type 0 where
    pub call : NextCall
    pub step : IsAtCall t call
    pub unit : call.unit ≡ u
    pub count : call.count ≡ n
    pub behind : step.step.behind ≡ ahead.coming.now.behind.now

  abbrev step-at : (o : Operation) → o ≡ ahead.coming.now.operation → IsAtStep t ahead.coming.now.line o
  step-at o e =
      record {
        turning = turning;
        behind = ahead.coming.now.behind.now;
        ahead = k.ahead ∙ ap (λ q. Step ahead.coming.now.line q ∷ ahead.coming.now.behind.now) (sym e);
      }

  pub called : (o : Operation) → o ≡ ahead.coming.now.operation → (u n : ℕ) → called_by o ≡ Some (u, n) → IsCalled u n
  called (Call v c next) e u n f =
      let pair : (v, c) ≡ (u, n) = same_Some (v, c) (u, n) f in
      record {
        call = record { line = ahead.coming.now.line; way = Calls; unit = v; count = c; next = next };
        step = record { step = step-at (Call v c next) e; onward = tt };
        unit = ap (λ (q : ℕ × ℕ). q.0) pair;
        count = ap (λ (q : ℕ × ℕ). q.1) pair;
        behind = refl;
      }
  called (Create v c next) e u n f =
      let pair : (v, c) ≡ (u, n) = same_Some (v, c) (u, n) f in
      record {
        call = record { line = ahead.coming.now.line; way = Creates; unit = v; count = c; next = next };
        step = record { step = step-at (Create v c next) e; onward = tt };
        unit = ap (λ (q : ℕ × ℕ). q.0) pair;
        count = ap (λ (q : ℕ × ℕ). q.1) pair;
        behind = refl;
      }
  called (Refer v c) e u n f =
      let pair : (v, c) ≡ (u, n) = same_Some (v, c) (u, n) f in
      record {
        call = record { line = ahead.coming.now.line; way = Refers; unit = v; count = c; next = (k.index + 1) + c };
        step = record { step = step-at (Refer v c) e; onward = refl };
        unit = ap (λ (q : ℕ × ℕ). q.0) pair;
        count = ap (λ (q : ℕ × ℕ). q.1) pair;
        behind = refl;
      }
  called _ e u n f = absurd (none-some (u, n) f)

  module _ (u n : ℕ) (q : IsCalled u n) where
    calls : IsCallAhead q.call.way program (top_before t) t.operands q.call.unit q.call.count q.call.next q.step.step.behind
    calls =
        laws.ahead q.call.way (running_top t q.step.step.turning) q.call.line q.call.unit q.call.count q.call.next q.step.step.behind
        (runs q.step.step laws.running) (ahead-on-top q.step.step) q.step.onward

    abbrev caller : CallerOf
    caller = caller_at q.step.step

    abbrev xs : List Name
    xs = dummies_of (unit_at program q.call.unit)

    each-placed : (j : ℕ) (r : Reference) → slice_get calls.actuals j ≡ Some (referred r) → variables_calling caller r.0 ≢ Absent
    each-placed j r e =
        let variables = variables_calling caller in
        let pass : Actual → Instruction = λ a. Pass (argument_of_actual variables a) in
        let entry : Instruction = pass (referred r) in
        let behind : slice_get q.step.step.behind j ≡ Some entry = ap (λ is. slice_get is j) calls.entries
        ∙ at-front (map pass calls.actuals) calls.more j entry (slice_get-map pass calls.actuals j ∙ ap (option_map pass) e) in
        let code = dropped-behind (code_in program levels.level.unit) k.index j _ q.step.step.behind entry q.step.step.ahead behind in
        laws.placed levels.level.unit (suc (k.index + j)) entry (unit-inside m h.lives.after levels) code 0 (variables r.0) refl

    same : t.top ≡ top
    same = same-top h.lives levels

    -- what they give
    given-there : AreGivenAs program s q.step.step.turning.after.layout (next_activation s) xs calls.actuals (given_of q.call q.step)
        (dummies_for (scope_calling caller) (next_activation s) xs calls.actuals)
    given-there =
        let own = laws.given caller (next_activation s) xs calls.actuals calls.more (calls-so q.step.step laws.running)
        (placed-from (variables_calling caller) calls.actuals each-placed)
        (sym (laws.counted t q.call refl q.step) ∙ calls.counted) in
        let passed : passed_by_entries caller calls.actuals calls.more
        ≡ passed_from q.call.count q.step.step.behind (last_operands q.call.count q.step.step.behind t.operands) =
        λ i. passed_from (sym calls.counted i) (sym calls.entries i)
        (sym (laws.last q.call.way program (top_before t) t.operands q.call.unit
        q.call.count q.call.next q.step.step.behind calls) i) in
        subst (λ ps. AreGivenAs program s q.step.step.turning.after.layout (next_activation s) xs calls.actuals
        (given_by (cells_in m.frames.arena.contents) caller.frame.first (unit_arrays program levels.level.unit) ps)
        (dummies_for (scope_calling caller) (next_activation s) xs calls.actuals)) passed (
        subst (λ v. AreGivenAs program s q.step.step.turning.after.layout (next_activation s) xs calls.actuals
        (given_by (cells_in m.frames.arena.contents) caller.frame.first (unit_arrays program v)
        (passed_by_entries caller calls.actuals calls.more))
        (dummies_for (scope_calling caller) (next_activation s) xs calls.actuals)) (unit-is q.step.step.turning) own)

    same-layout : q.step.step.turning.after.layout ≡ h.lives.after.after.layout
    same-layout =
        same_Some q.step.step.turning.after.layout h.lives.after.after.layout (
        sym q.step.step.turning.after.laid ∙ h.lives.after.after.laid)

    pub given-ahead : (r : Result (List DummyStorage) Kind) → r ≡ given_of q.call q.step
        → IsGivenAhead cells choices ahead top h u (given_in r)
    given-ahead r is =
        let moved = subst (λ (z : Level × Process). AreGivenAs program s q.step.step.turning.after.layout
        (next_activation s) xs calls.actuals
        (given_of q.call q.step) (dummies_for (scope_of program s z.0.activation) (next_activation s) xs calls.actuals)) same given-there in
        let laid = subst (λ (l : Layout). AreGivenAs program s l (next_activation s) xs calls.actuals
        (given_of q.call q.step) (dummies_for (scope_of program s top.0.activation) (next_activation s) xs calls.actuals)) same-layout
        moved in
        let own = given-or program s h.lives.after.after.layout xs calls.actuals r
        (dummies_for (scope_of program s top.0.activation) (next_activation s) xs calls.actuals) (
        subst (λ g. AreGivenAs program s h.lives.after.after.layout (next_activation s) xs calls.actuals g
        (dummies_for (scope_of program s top.0.activation) (next_activation s) xs calls.actuals)) (sym is) laid) in
        record {
          way = q.call.way;
          name = calls.name;
          actuals = calls.actuals;
          does_so = ap (λ (z : Level × Process). next_on_top program (top_after program choices ahead.process z)) (sym same)
              ∙ calls.does_so;
          unit = sym q.unit ∙ calls.unit;
          inside = subst (λ v. v < length program) q.unit (laws.inside t q.call refl q.step);
          bound = subst (λ v. AreGivenOr program s h.lives.after.after.layout (dummies_of (unit_at program v)) calls.actuals (given_in r)
              (dummies_for (scope_of program s top.0.activation) (next_activation s) (dummies_of (unit_at program v)) calls.actuals))
              q.unit own;
        }
