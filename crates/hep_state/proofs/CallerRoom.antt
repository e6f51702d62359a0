-- What a process calls whose top activation is at a CALL, what its actual arguments give and bind, and what a machine reads of it there.
use Rattle.std.proofs.Common.{◌≡◌, ℕ, ◌<◌, ◌≤◌, List, ◌∷◌, drop, length, length-append, length-drop, take, sym, ap, ◌∙◌, subst, ◌≢◌, suc, false, [], Option, Some, None, Result, Ok, Err, refl, arith, ◌-◌, get_or, slice_get}
use Rattle.hep_machine.specs.Words.{Name, Units, Work, dummies_of, function_name, unit_at, unit_of, State, Dummy, Top, binding_of, next_activation, scope_of, step, unit_on_top, Statement, Value, Binding, binding_with_shapes, dummies_for, dummy_before, dummy_for, with_actuals, Actual, Reference, evaluated, next_of, referred, Frame, Layout, Scope, Bounds}
use Rattle.hep_code.specs.declared.instruction.Operation.{Operation}
use Rattle.hep_code.specs.declared.instruction.Instruction.TheVariants.{Step}
use Rattle.hep_code.specs.declared.variable.Variable.{Variable}
use Rattle.std.specs.List.{flat_map}
use Rattle.std.proofs.Math.Seq.{take-append_seam}
use Rattle.hep_code.specs.Words.{deepest, most_operands, operands_of_actual, operands_of_entries, PassedArgument, passed_from}
use Rattle.hep_code.proofs.OperandCounts.{stands_within}
use Rattle.hep_image.specs.declared.array.Array.{Array}
use Rattle.hep_image.specs.Places.{variable_of}
use Rattle.hep_step.specs.ArgumentAgreement.{CallerOf, IsCaller, AreGiven, AreGivenAs, ArePlaced, IsGiven, arrays_calling, caller_running, given_passed, passed_by_entries, scope_calling, variables_calling}
use Rattle.hep_step.specs.declared.call_kind.CallKind.{CallKind}
use Rattle.hep_step.specs.NextCalls.{GoesOn, IsCallAhead, comes_by, is_creation, last_operands, making, unit_by}
use Rattle.hep_step.specs.Simulation.{IsRunning, code_on_top, unit_addressed, unit_arrays, unit_code, Simulates, RunningTop, code_ahead}
use Rattle.hep_binding.specs.AcceptedLawsWorkOrigins.{ComesFrom}
use Rattle.hep_state.specs.declared.next_step.NextCall.{NextCall}
use Rattle.hep_state.specs.Words.{AreNumbered, HasResultBy, HoldsInTurn, IsAfterCall, IsAtCall, IsAtStep, IsMadeOf, IsTopRunning, IsTurning, TurnOf, given_of, AreRunning, IsKnown, snapshot_of, state_before, top_before, top_frame, turn_of, IsMaking, call_in, IsEnding, IsBehind, IsPlaceOf, IsThere, running_top}
use Rattle.hep_state.proofs.SettledPositions.{are-on}
use Rattle.hep_state.proofs.SilentTurns.{standing-before, unit-is, top-node}
use Rattle.hep_state.proofs.Runs.{there}
use Rattle.hep_machine.specs.declared.event.Kind.{Kind}
use Rattle.hep_arena.specs.Gaps.{frame_among}
use Rattle.hep_code.specs.declared.instruction.Instruction.{Instruction}
use Rattle.hep_code.specs.declared.variable.Variable.TheVariants.{Absent}
use Rattle.hep_layout.specs.Words.{IsMemory, RunsFrom}
use Rattle.hep_image.specs.Addressing.{cells_in}
use Rattle.hep_step.specs.declared.dummy_storage.DummyStorage.{DummyStorage}
use Rattle.hep_step.specs.declared.dummy_storage.DummyStorage.TheVariants as giving
use Rattle.hep_step.specs.ArgumentPassing.{given_by}
use Rattle.hep_step.specs.Shapes.{AreShapesOf}
use Rattle.hep_step.specs.Effects.{fails}
use Rattle.hep_step.proofs.Operations.{passed_last}
use Rattle.hep_binding.specs.AcceptedLawsActuals.{FitsDummy, IsVariableOf}
use Rattle.hep_binding.specs.Calling.{AreActualsPassed, CallOf, IsPassed, IsPassing, caller, state_before_call, state_made_by}
use Rattle.hep_state.proofs.TopActivations.{there-too}
use Rattle.std.proofs.lemmas.Option.{slice_get_within}
use Rattle.hep_code.proofs.ControlFlow.{drop_one_more}
use Rattle.hep_proc.specs.Nodes.{nodes_of}
use Rattle.hep_step.specs.declared.frame.Frame.{Frame as CellFrame}
use Rattle.hep_step.specs.StepReady.{frame_in_arena}
use Rattle.hep_proc.specs.declared.process.Local.{Local}
use Rattle.hep_state.specs.declared.core_state.CoreState.{CoreState}
use Rattle.hep_proc.specs.declared.process.Process.{Process}
use Rattle.hep_proc.specs.Stacks.{stack_of, stack_with}
use Rattle.hep_proc.proofs.Levels.{operands-are}
use Rattle.hep_state.proofs.UnchangedStates.{carry}
use Rattle.hep_state.proofs.Processes.{process-at}
use Rattle.hep_state.proofs.TakenTurns.{inside}
use Rattle.hep_source.proofs.Tests.{dropped-first}
use Rattle.hep_code.specs.Sources.{IsNamedOnce}

-- at any operation
module _ {t : TurnOf} {line : ℕ} {o : Operation} (at : IsAtStep t line o) where
  pub ahead-on-top : drop t.level.index (code_on_top t.program (top_before t)) ≡ Step line o ∷ at.behind
  ahead-on-top = ap (λ u. drop t.level.index (unit_code t.program u)) (unit-is at.turning) ∙ at.ahead

  -- the caller
  abbrev pub caller_at : CallerOf
  caller_at = caller_running (running_top t at.turning)

  module _ (known : AreRunning t.program) where
    pub runs : IsTopRunning t at.turning
    runs = known.running t refl at.turning

    pub calls-so : IsCaller caller_at
    calls-so =
        let made = (standing-before at.turning).0.here.made in
        let stacked = (are-on t.program t.choices t.process (t.top.0 ∷ t.top.1) (there at.turning)).1 in
        record {
          closed = known.closed;
          unit = known.units t.choices t.top.0.activation made.0 made.1;
          framed = runs.framed;
          described = runs.described;
          bound = known.bound t.choices t.top.0.activation made.0 made.1;
          kept = at.turning.after.shows.kept t.top.0.activation stacked;
        }

-- at a CALL, CREATE or reference
module _ {t : TurnOf} (call : NextCall) (at : IsAtCall t call) (known : IsKnown t.program) where
  abbrev old : State
  old = state_before t

  abbrev top : Top
  top = top_before t

  -- what is called, created or referred to
  pub calls : IsCallAhead call.way t.program top t.operands call.unit call.count call.next at.step.behind
  calls =
      known.ahead call.way (running_top t at.step.turning) call.line call.unit call.count call.next at.step.behind (runs at.step known.running) (ahead-on-top at.step) at.onward

  pub comes-from : ComesFrom (unit_at t.program (unit_of old t.top.0.activation)) t.top.0.statement t.top.0.work
  comes-from = known.works t.choices t.process t.top at.step.turning.lives

  made-of : IsMadeOf call.way t.program calls.name calls.actuals
  made-of = known.made call.way (unit_of old t.top.0.activation) t.top.0.statement t.top.0.work calls.name calls.actuals comes-from calls.does_so

  pub called-inside : call.unit < length t.program
  called-inside = subst (λ u. u < length t.program) (sym calls.unit) made-of.inside

  -- it has as many dummy arguments as are passed
  pub as-many : length calls.actuals ≡ length (dummies_of (unit_at t.program call.unit))
  as-many = made-of.as_many ∙ ap (λ u. length (dummies_of (unit_at t.program u))) (sym calls.unit)

  -- ---- the operands in front of those that are passed

  abbrev pub kept : ℕ
  kept = length t.operands - operands_of_entries (take call.count at.step.behind)

  kept-is : kept ≡ length calls.before
  kept-is =
      let own = flat_map operands_of_actual calls.actuals in
      omega (arith, length-drop kept t.operands, ap length (passed_last calls), ap length calls.operands_are, length-append calls.before own)

  front-is : take kept t.operands ≡ calls.before
  front-is =
      let own = flat_map operands_of_actual calls.actuals in
      ap (λ n. take n t.operands) kept-is ∙ (ap (take (length calls.before)) calls.operands_are ∙ take-append_seam calls.before own)

  -- with these the top activation goes on
  pub goes-on : IsAfterCall call.way t call.unit kept call.next
  goes-on =
      let unit = unit-is at.step.turning in
      record {
        few = omega arith;
        onward = carry (λ i. GoesOn call.way (unit_addressed t.program (unit i)) t.top.0 (sym front-is i) call.next) calls.onward;
        result = subst (λ u. HasResultBy call.way (function_name (unit_at t.program u))) (sym calls.unit) made-of.result;
      }

  -- ---- what is passed

  -- by the entries behind the operation and the last operands
  pub passed-by : (P : List Array → List PassedArgument → Type 0) → P (arrays_calling (caller_at at.step)) (passed_by_entries (caller_at at.step) calls.actuals calls.more)
      → P (unit_arrays t.program t.level.unit) (passed_from call.count at.step.behind (last_operands call.count at.step.behind t.operands))
  passed-by P h =
      let passed : passed_by_entries (caller_at at.step) calls.actuals calls.more ≡ passed_from call.count at.step.behind (last_operands call.count at.step.behind t.operands) =
      λ i. passed_from (sym calls.counted i) (sym calls.entries i) (sym (passed_last calls) i) in
      subst (P (unit_arrays t.program t.level.unit)) passed (subst (λ u. P (unit_arrays t.program u) (passed_by_entries (caller_at at.step) calls.actuals calls.more)) (unit-is at.step.turning) h)

-- no activation has more operands than its unit's deepest stack
pub operands-few : {t : TurnOf} → IsTurning t → length t.operands ≤ deepest (unit_code t.program t.level.unit)
operands-few {t} h = stands_within (unit_code t.program t.level.unit) (unit_addressed t.program t.level.unit) t.top.0.statement t.top.0.work t.operands t.level.index refl (standing-before h).0.stands

-- ---- actual arguments have storage units

all-placed : (variables : Name → Variable) (ys : List Actual) → ((j : ℕ) (r : Reference) → slice_get ys j ≡ Some (referred r) → variables r.0 ≢ Absent) → ArePlaced variables ys
all-placed variables [] each = tt
all-placed variables (evaluated v ∷ ys) each = all-placed variables ys (λ j r e. each (suc j) r e)
all-placed variables (referred r ∷ ys) each = (each 0 r refl, all-placed variables ys (λ j s e. each (suc j) s e))

-- ---- dummy arguments one by one

both-bound : (r : Result Dummy Kind) (o : Result (List Dummy) Kind) (d : Dummy) (ds : List Dummy) → dummy_before r o ≡ Ok (d ∷ ds) → (r ≡ Ok d) × (o ≡ Ok ds)
both-bound (Err k) o d ds e = absurd cc
both-bound (Ok c) (Err k) d ds e = absurd cc
both-bound (Ok c) (Ok cs) d ds e = (cc, cc)

module _ (program : Units) (s : State) (layout : Layout) (scope : Scope) (b : ℕ) where
  one-passed : (x : Name) (y : Actual) (g : DummyStorage) (d : Dummy) → dummy_for scope b x y ≡ Ok d → IsGiven program s layout b x y g d → IsPassed program s layout scope y g
  one-passed x (evaluated v) (giving.Value w) d e h = sym h.0
  one-passed x (referred r) (giving.Units first count) d e h =
      (h.some, λ c f. let same : d ≡ c = cc in subst (λ (z : Dummy). (z.rest ≡ count) × RunsFrom program s layout z.start count first) same (h.rest, subst (λ n. RunsFrom program s layout d.start n first) h.rest h.run))
  one-passed x (evaluated v) (giving.Units first count) d e h = absurd h
  one-passed x (referred r) (giving.Value w) d e h = absurd h

  -- what is given is what is passed
  all-passed : (xs : List Name) (ys : List Actual) (gs : List DummyStorage) (ds : List Dummy) → dummies_for scope b xs ys ≡ Ok ds → AreGiven program s layout b xs ys gs ds → AreActualsPassed program s layout scope ys gs
  all-passed [] [] [] [] e h = tt
  all-passed (x ∷ xs) (y ∷ ys) (g ∷ gs) (d ∷ ds) e h =
      let both = both-bound (dummy_for scope b x y) (dummies_for scope b xs ys) d ds e in
      (one-passed x y g d both.0 h.0, all-passed xs ys gs ds both.1 h.1)
  all-passed _ _ _ _ e h = absurd h

-- ---- all of them, or a fault

module _ (program : Units) (s : State) (layout : Layout) (b : ℕ) where
  same-fault : (xs : List Name) (ys : List Actual) (r : Result (List DummyStorage) Kind) (o : Result (List Dummy) Kind) (k : Kind) → AreGivenAs program s layout b xs ys r o → r ≡ Err k → o ≡ Err k
  same-fault xs ys (Err l) (Err n) k h e = cc
  same-fault xs ys (Err l) (Ok ds) k h e = absurd h
  same-fault xs ys (Ok gs) o k h e = absurd cc

  given-so : (xs : List Name) (ys : List Actual) (r : Result (List DummyStorage) Kind) (o : Result (List Dummy) Kind) (gs : List DummyStorage) → AreGivenAs program s layout b xs ys r o → r ≡ Ok gs → (ds : List Dummy) × (o ≡ Ok ds) × AreGiven program s layout b xs ys gs ds
  given-so xs ys (Ok hs) (Ok ds) gs h e = let same : hs ≡ gs = cc in (ds, refl, subst (λ z. AreGiven program s layout b xs ys z ds) same h)
  given-so xs ys (Ok hs) (Err l) gs h e = absurd h
  given-so xs ys (Err k) o gs h e = absurd cc

-- ---- a CALL, CREATE or reference ahead

-- what is known besides of an accepted program with a main program
pub record IsKnownToBind (program : Units) : Type 0 where
  pub known : IsKnown program
  -- of dummy arguments, and of the actual arguments that are given to them
  pub distinct : (u : ℕ) → u < length program → IsNamedOnce (dummies_of (unit_at program u))
  pub fits : (way : CallKind) (u k j : ℕ) (work : Work) (x y : Name) (actuals : List Actual) (a : Actual) → ComesFrom (unit_at program u) k work → next_of (unit_at program u) work ≡ comes_by way x actuals → slice_get (dummies_of (unit_at program (unit_by way program x))) j ≡ Some y → slice_get actuals j ≡ Some a
      → FitsDummy (unit_at program u) (unit_at program (unit_by way program x)) y a
  pub placed : (unit : List Statement) (x : Name) → IsVariableOf unit x → variable_of program unit x ≢ Absent
  -- of what they give
  pub passed : (c : CallerOf) (b : ℕ) (xs : List Name) (actuals : List Actual) (more : List Instruction) → IsCaller c → ArePlaced (variables_calling c) actuals → length xs ≡ length actuals
      → AreGivenAs c.program c.state c.layout b xs actuals (given_passed c (passed_by_entries c actuals more)) (dummies_for (scope_calling c) b xs actuals)
  -- of the step
  pub made : (way : CallKind) (call : CallOf) (x : Name) → (state_before_call call).halted ≡ false → call.unit ≡ unit_by way call.program x → IsPassing call
      → next_of (unit_on_top call.program (caller call)) call.top.0.work ≡ comes_by way x call.actuals → step call.program call.process (state_before_call call) ≡ Some (state_made_by (is_creation way) call)
  pub faults : (way : CallKind) (r : RunningTop) (line u count next : ℕ) (behind : List Instruction) → IsRunning r → code_ahead r ≡ Step line (making way u count next) ∷ behind
      → (ahead : IsCallAhead way r.program r.top r.operands u count next behind) (k : Kind) → binding_of r.program r.top u ahead.actuals ≡ Err k → Simulates r (fails line k)

module _ {t : TurnOf} (call : NextCall) (at : IsAtCall t call) (all : IsKnownToBind t.program) where
  abbrev before : State
  before = state_before t

  abbrev layout : Layout
  layout = at.step.turning.after.layout

  abbrev pub actuals : List Actual
  actuals = (calls call at all.known).actuals

  abbrev xs : List Name
  xs = dummies_of (unit_at t.program call.unit)

  abbrev bound : Result (List Dummy) Kind
  bound = dummies_for (scope_of t.program before t.top.0.activation) (next_activation before) xs actuals

  abbrev pub binding : Result Binding Kind
  binding = binding_of t.program (top_before t) call.unit actuals

  actuals-placed : ArePlaced (variable_of t.program (unit_at t.program (unit_of before t.top.0.activation))) actuals
  actuals-placed =
      let ahead = calls call at all.known in
      let u = unit_of before t.top.0.activation in
      all-placed (variable_of t.program (unit_at t.program u)) actuals (λ j r e.
      let dummy = there-too actuals xs j (referred r) (as-many call at all.known) e in
      let named = subst (λ v. slice_get (dummies_of (unit_at t.program v)) j ≡ Some dummy.0) ahead.unit dummy.1 in
      all.placed (unit_at t.program u) r.0 (all.fits call.way u t.top.0.statement j t.top.0.work ahead.name dummy.0 actuals (referred r) (comes-from call at all.known) ahead.does_so named e).variable)

  -- what they give is what the dummy arguments of the new activation stand for, or there is the same fault
  given-as : AreGivenAs t.program before layout (next_activation before) xs actuals (given_of call at) bound
  given-as =
      passed-by call at all.known (λ arrays passed. AreGivenAs t.program before layout (next_activation before) xs actuals (given_by (cells_in t.machine.arena.contents) (top_frame t).first arrays passed) bound) (
      all.passed (caller_at at.step) (next_activation before) xs actuals (calls call at all.known).more (calls-so at.step all.known.running) actuals-placed (sym (as-many call at all.known)))

  -- ---- a fault

  pub range-bound : (k : Kind) → given_of call at ≡ Err k → binding ≡ Err k
  range-bound k e =
      ap (binding_with_shapes (unit_at t.program call.unit) (next_activation before) (with_actuals before.store (next_activation before) xs actuals)) (
      same-fault t.program before layout (next_activation before) xs actuals (given_of call at) bound k given-as e)

  pub fault-ends : (k : Kind) → binding ≡ Err k → IsEnding t (fails call.line k)
  fault-ends k e =
      let ahead = calls call at all.known in
      let simulated = all.faults call.way (running_top t at.step.turning) call.line call.unit call.count call.next at.step.behind (runs at.step all.known.running) (ahead-on-top at.step) ahead k e in
      record { turning = at.step.turning; simulated = simulated }

  -- ---- none

  abbrev memory : IsMemory t.program before layout t.machine.arena.contents t.machine.arena.holes
  memory = at.step.turning.after.shows.keeps.memory

  -- the new activation has no frame yet
  pub frameless : frame_among (next_activation before) layout ≡ None
  frameless = by_frame (frame_among (next_activation before) layout) refl where
    by_frame : (o : Option Frame) → frame_among (next_activation before) layout ≡ o → o ≡ None
    by_frame None e = refl
    by_frame (Some f) e = absurd (omega (arith, (memory.laid.made (next_activation before) f e).1))

  pub dummies-given : (gs : List DummyStorage) → given_of call at ≡ Ok gs → (ds : List Dummy) × (bound ≡ Ok ds) × AreGiven t.program before layout (next_activation before) xs actuals gs ds
  dummies-given gs e = given-so t.program before layout (next_activation before) xs actuals (given_of call at) bound gs given-as e

  pub called-so : (gs : List DummyStorage) (shapes : List (Option Bounds)) (b : Binding) → given_of call at ≡ Ok gs → binding ≡ Ok b → AreShapesOf (unit_at t.program call.unit) b.dummies shapes
      → IsMaking call.way t call.unit (kept call at all.known) call.next gs shapes
  called-so gs shapes b e bound_so shaped =
      let ahead = calls call at all.known in
      let dummies = dummies-given gs e in
      let it = call_in t call.unit actuals b in
      let passing : IsPassing it =
      record {
        lives = at.step.turning.lives;
        bound = bound_so;
        as_many = as-many call at all.known;
        distinct = all.distinct call.unit (called-inside call at all.known);
      } in
      record {
        turning = at.step.turning;
        actuals = actuals;
        binding = b;
        passing = passing;
        shaped = shaped;
        passed = all-passed t.program before layout (scope_of t.program before t.top.0.activation) (next_activation before) xs actuals gs dummies.0 dummies.1 dummies.2;
        made = all.made call.way it ahead.name at.step.turning.running ahead.unit passing ahead.does_so;
        after = goes-on call at all.known;
      }

-- ---- what is read of a machine where a process is at a CALL, CREATE or PURGE, and what its entries and operands give by that

-- what is read of process p of a machine, with the operands past so many
pub record IsRead (program : Units) (m : CoreState) (p at : ℕ) (q : Process) (entries : List Instruction) (arrays : List Array) (frame : CellFrame) (past : ℕ) (vs : List Value) : Type 0 where
  pub numbers : AreNumbered m
  pub place : IsPlaceOf m.processes.items p at
  pub process : q ≡ get_or m.processes.items at q
  pub behind : (l : Local) (ls : List Local) (before pending : List Value) → stack_of q ≡ stack_with l ls before pending → IsBehind program (nodes_of m.frames.nodes) l entries arrays frame
  pub operands : vs ≡ drop past q.operands.items

module _ {program : Units} {cells : ℕ} {choices : List ℕ} {p : ℕ} (m : CoreState) {line : ℕ} {o : Operation} (at : HoldsInTurn program cells choices p (snapshot_of m) (λ t. IsAtStep t line o)) where
  pub unit-inside : at.levels.level.unit < length program
  unit-inside = inside at.holds.turning

  pub can-read : {place : ℕ} {q : Process} → AreNumbered m → IsPlaceOf m.processes.items p place → q ≡ get_or m.processes.items place q
      → (l : Local) × (ls : List Local) × (operands : List Value) × (pending : List Value) × (stack_of q ≡ stack_with l ls operands pending) × IsThere program (nodes_of m.frames.nodes) l × (l.index < length (unit_code program l.unit))
  can-read {place} {q} numbers found is =
      let l = at.levels.level in
      let code = unit_code program l.unit in
      let there = process-at m p numbers found at.levels.kept is in
      (l, at.levels.below, at.levels.operands, at.levels.pending, there.stack, (unit-inside, top-node at.holds.turning), slice_get_within code l.index _ (dropped-first code l.index _ at.holds.behind at.holds.ahead))

-- what is said of the frame, the arrays and the actual arguments of the caller is said of what was read
module _ {program : Units} {cells : ℕ} {choices : List ℕ} {p : ℕ} {m : CoreState} {line : ℕ} {o : Operation} {place : ℕ} {q : Process} {entries : List Instruction} {arrays : List Array} {frame : CellFrame} {past : ℕ} {operands : List Value}
    (read : IsRead program m p place q entries arrays frame past operands) (count : ℕ) (at : HoldsInTurn program cells choices p (snapshot_of m) (λ t. IsAtStep t line o)) where
  abbrev t : TurnOf
  t = turn_of at

  stack : stack_of q ≡ stack_with t.level t.below t.operands t.pending
  stack = (process-at m p read.numbers read.place at.levels.kept read.process).stack

  here : IsBehind program (nodes_of m.frames.nodes) t.level entries arrays frame
  here = read.behind t.level t.below t.operands t.pending stack

  pub behind-there : entries ≡ at.holds.behind
  behind-there = here.behind ∙ drop_one_more (unit_code program t.level.unit) t.level.index _ at.holds.behind at.holds.ahead

  pub deepest-few : deepest (unit_code program t.level.unit) ≤ most_operands
  deepest-few = here.few

  pub operands-there : q.operands.items ≡ t.operands
  operands-there = operands-are q t.level t.below t.operands t.pending stack

  passed-there : passed_from count entries operands ≡ passed_from count at.holds.behind (drop past t.operands)
  passed-there i =
      passed_from count (behind-there i) ((read.operands ∙ ap (drop past) operands-there) i)

  pub of-read : (P : CellFrame → List Array → List PassedArgument → Type 0) → P (frame_in_arena (top_frame (turn_of at))) (unit_arrays program at.levels.level.unit) (passed_from count at.holds.behind (drop past at.levels.operands))
      → P frame arrays (passed_from count entries operands)
  of-read P = carry (λ i. P (sym here.framed i) (sym here.arrays_are i) (sym passed-there i))

  pub found-read : {A : Type 0} (found : ℕ → List Array → List PassedArgument → A) (r : A) → found frame.first arrays (passed_from count entries operands) ≡ r
      → found (top_frame (turn_of at)).first (unit_arrays program at.levels.level.unit) (passed_from count at.holds.behind (drop past at.levels.operands)) ≡ r
  found-read found r = carry (λ i. found (here.framed i).first (here.arrays_are i) (passed-there i) ≡ r)
