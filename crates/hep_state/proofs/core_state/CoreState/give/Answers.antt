use Rattle.std.proofs.Common.{◌≡◌, ℕ, ◌-◌, ◌≤◌, List, drop, length, take, sym, ap, ◌∙◌, subst, arith, Result, Ok, Err, IfErr, IsErr, IsErrAnd, vec_capacity}
use Rattle.hep_machine.specs.Words.{unit_at}
use Rattle.hep_machine.specs.declared.event.Kind.{Kind}
use Rattle.hep_code.specs.Words.{operands_of_entries, passed_from}
use Rattle.hep_image.specs.Addressing.{cells_in}
use Rattle.hep_image.specs.Dummies.{dummy_arguments}
use Rattle.hep_image.specs.Image.{most_cells}
use Rattle.hep_step.specs.declared.dummy_storage.DummyStorage.{DummyStorage}
use Rattle.hep_step.specs.ArgumentPassing.{given_by}
use Rattle.hep_step.specs.ReadyToPass.{ArePassable}
use Rattle.hep_binding.specs.DummyShapes.{AreShapable, are_fitting, shapes_of}
use Rattle.hep_step.specs.Cells.{HasFrame}
use Rattle.hep_step.specs.Effects.{fails}
use Rattle.hep_step.specs.StepReady.{frame_in_arena}
use Rattle.hep_step.specs.Simulation.{unit_arrays}
use Rattle.hep_state.specs.Words.{HasCallAhead, HoldsInTurn, IsAtStep, IsMaking, given_of, operation_of, IsMachineAfter, snapshot_of, IsToEnd, top_frame, turn_of}
use Rattle.hep_state.proofs.UnchangedStates.{carry}
use Rattle.hep_state.proofs.CallerRoom.{IsRead, behind-there, can-read, deepest-few, found-read, of-read, operands-there}
use Rattle.hep_state.proofs.core_state.CoreState.give.Goals.{After-find_shapes, After-past}
use Rattle.hep_state.proofs.core_state.CoreState.give.Goals as goal

pub place-at-requires : goal.place-at-requires
place-at-requires c = record { numbers = c.requires.at.2.numbers; living = c.requires.at.3.levels }

-- ---- what is passed

-- by what was read
read : (c : After-past) → IsRead c.args.image.now c.args.self.now c.args.p c.place-at.result c.index-process.result.now c.behind.result.0.now c.behind.result.1.now c.behind.result.2 c.in_front-kept.result c.past.result.now
read c = record { numbers = c.requires.at.2.numbers; place = c.place-at.ensures; process = c.index-process.ensures; behind = c.behind.ensures; operands = c.past.ensures ∙ ap (drop c.in_front-kept.result) c.deref.ensures.value }

module _ (c : After-past) {cells : ℕ} {choices : List ℕ} (at : HasCallAhead c.args.image.now cells choices c.args.p (snapshot_of c.args.self.now) c.args.call) where
  -- where its operation is ahead
  abbrev pub at-step : HoldsInTurn c.args.image.now cells choices c.args.p (snapshot_of c.args.self.now) (λ t. IsAtStep t c.args.call.line (operation_of c.args.call))
  at-step = record { levels = at.levels; top = at.top; holds = at.holds.step }

  -- the operands in front of those that are passed
  pub front-is : c.in_front-kept.result ≡ length at.levels.operands - operands_of_entries (take c.args.call.count at.holds.step.behind)
  front-is =
      let q = c.index-process.result.now in
      let many : c.len.result ≡ length at.levels.operands = c.len.ensures ∙ (q.operands.ok.0 ∙ ap length (operands-there (read c) c.args.call.count at-step)) in
      c.in_front-kept.ensures ∙ (λ i. many i - operands_of_entries (take c.args.call.count (behind-there (read c) c.args.call.count at-step i)))

  -- what the actual arguments give
  pub gives : (r : Result (List DummyStorage) Kind) → given_by (cells_in c.args.self.now.frames.arena.contents) c.behind.result.2.first c.behind.result.1.now (passed_from c.args.call.count c.behind.result.0.now c.past.result.now) ≡ r
      → given_of c.args.call at.holds ≡ r
  gives r e =
      ap (λ n. given_by (cells_in c.args.self.now.frames.arena.contents) (top_frame (turn_of at)).first (unit_arrays c.args.image.now at.levels.level.unit) (passed_from c.args.call.count at.holds.step.behind (drop n at.levels.operands))) (sym front-is)
      ∙ found-read (read c) c.args.call.count at-step (given_by (cells_in c.args.self.now.frames.arena.contents)) r e

pub behind-requires : goal.behind-requires
behind-requires c =
    let at = c.requires.at.3 in
    can-read c.args.self.now (record { levels = at.levels; top = at.top; holds = at.holds.step }) c.requires.at.2.numbers c.place-at.ensures c.index-process.ensures

pub past-requires : goal.past-requires
past-requires c = omega (arith, c.in_front-kept.ensures, c.len.ensures, c.deref.ensures.len)

pub give_actuals-requires : goal.give_actuals-requires
give_actuals-requires c =
    let r = c.requires.at in
    let call = c.args.call in
    let m = snapshot_of c.args.self.now in
    let law = c.calls_can_be_made.ensures in
    let accepted = c.is_runnable.ensures.accepted in
    let main = c.is_runnable.ensures.main in
    let before = (goal.at.give_actuals-requires c).After-past in
    let here = read before in
    let step = at-step before r.3 in
    let few : length m.arena.contents ≤ most_cells = omega (arith, r.2.few, r.2.after.size) in
    record {
      frame = of-read here call.count step (λ f xs ps. HasFrame m.arena f) (law.framed (turn_of r.3) call accepted main few r.3.holds);
      passable = of-read here call.count step (λ f xs ps. ArePassable m.arena xs f ps) (
          subst (λ n. ArePassable m.arena (unit_arrays c.args.image.now r.3.levels.level.unit) (frame_in_arena (top_frame (turn_of r.3))) (passed_from call.count r.3.holds.step.behind (drop n r.3.levels.operands))) (sym (front-is before r.3)) (law.passable (turn_of r.3) call accepted main r.3.holds));
      room = omega (arith, law.counted (turn_of r.3) call accepted main r.3.holds, r.2.to_pass.given call.unit);
    }

-- ---- what comes of it

of-fault : {A E : Type 0} (r : Result A E) (e : E) (P : E → Type 0) → IsErr r × IsErrAnd r (λ f. f ≡ e) → P e → IfErr r P
of-fault (Ok x) e P h p = tt
of-fault (Err f) e P h p = subst P (sym h.1) p

pub returns-in_err-give_actuals-clause-fault : goal.returns-in_err-give_actuals-clause-fault
returns-in_err-give_actuals-clause-fault c =
    let program = c.args.image.now in
    let m = snapshot_of c.args.self.now in
    let kind = c.in_err-give_actuals.field-0.0 in
    of-fault c.from_residual.result kind (λ k. (cells : ℕ) (choices : List ℕ) → IsMachineAfter program cells choices c.args.self.now → HasCallAhead program cells choices c.args.p m c.args.call → IsToEnd program cells choices c.args.p m (fails c.args.call.line k)) c.from_residual.ensures (
    λ cells choices h at.
    let given = gives (goal.at.returns-in_err-give_actuals-clause-fault c).After-past at (Err kind) c.in_err-give_actuals.ensures.fault in
    record { levels = at.levels; top = at.top; holds = c.calls_give_what_is_bound.ensures.range (turn_of at) c.args.call kind c.is_runnable.ensures.accepted c.is_runnable.ensures.main at.holds given })

pub unit-called-requires : goal.unit-called-requires
unit-called-requires c =
    let r = c.requires.at in
    c.calls_can_be_made.ensures.inside (turn_of r.3) c.args.call c.is_runnable.ensures.accepted c.is_runnable.ensures.main r.3.holds

-- the dummy arguments of the unit that is called, and what is given to them
dummies-are : (c : After-find_shapes) → c.as_slice-dummies.result.now ≡ dummy_arguments c.args.image.now (unit_at c.args.image.now c.args.call.unit)
dummies-are c = c.as_slice-dummies.ensures ∙ c.unit-called.ensures.dummies

pub find_shapes-requires-clause-readable : goal.find_shapes-requires-clause-readable
find_shapes-requires-clause-readable c =
    let r = c.requires.at in
    let program = c.args.image.now in
    let room = vec_capacity c.args.self.now.passing.values in
    let accepted = c.is_runnable.ensures.accepted in
    let main = c.is_runnable.ensures.main in
    let given = c.give_actuals.new.given.items in
    let inside = c.calls_can_be_made.ensures.inside (turn_of r.3) c.args.call accepted main r.3.holds in
    let gives_so = gives (goal.at.find_shapes-requires-clause-readable c).After-past r.3 (Ok given) c.in_ok-give_actuals.ensures.given in
    let shapable = c.calls_give_what_is_bound.ensures.shapable (turn_of r.3) c.args.call given room accepted main r.3.holds gives_so (r.2.to_pass.values c.args.call.unit inside) in
    carry (λ i. AreShapable c.args.self.now.frames.arena (sym c.deref-2.ensures.value i) room (sym (c.as_slice-dummies.ensures ∙ c.unit-called.ensures.dummies) i)) shapable

-- whether the arrays fit is told of what is given
fit : (c : After-find_shapes) → c.find_shapes.result ≡ are_fitting c.args.self.now.frames.arena.contents c.give_actuals.new.given.items (dummy_arguments c.args.image.now (unit_at c.args.image.now c.args.call.unit))
fit c = c.find_shapes.ensures.fit ∙ (λ i. are_fitting c.args.self.now.frames.arena.contents (c.deref-2.ensures.value i) (dummies-are c i))

-- no activation has so many operands
pub narrowed-requires : goal.narrowed-requires
narrowed-requires c =
    let at = c.requires.at.3 in
    let before = (goal.at.narrowed-requires c).After-past in
    let few = c.calls_can_be_made.ensures.few (turn_of at) c.args.call c.is_runnable.ensures.accepted c.is_runnable.ensures.main at.holds in
    let deep = deepest-few (read before) c.args.call.count (at-step before at) in
    omega (arith, front-is before at, few, deep)

pub returns-then-find_shapes-clause-given : goal.returns-then-find_shapes-clause-given
returns-then-find_shapes-clause-given c cells choices h at =
    let given = c.give_actuals.new.given.items in
    let before = (goal.at.returns-then-find_shapes-clause-given c).After-find_shapes in
    let found = c.find_shapes.ensures.found c.if-find_shapes.true ∙ (λ i. shapes_of c.args.self.now.frames.arena.contents (c.deref-2.ensures.value i) (dummies-are before i)) in
    let making = c.calls_give_what_is_bound.ensures.making (turn_of at) c.args.call given c.is_runnable.ensures.accepted c.is_runnable.ensures.main at.holds
    (gives (goal.at.returns-then-find_shapes-clause-given c).After-past at (Ok given) c.in_ok-give_actuals.ensures.given)
    (sym (fit before) ∙ c.if-find_shapes.true) in
    let kept : length at.levels.operands - operands_of_entries (take c.args.call.count at.holds.step.behind) ≡ c.narrowed.result = sym (front-is (goal.at.returns-then-find_shapes-clause-given c).After-past at) ∙ sym c.narrowed.ensures in
    record { levels = at.levels; top = at.top; holds = carry (λ i. IsMaking c.args.call.way (turn_of at) c.args.call.unit (kept i) c.args.call.next given (sym found i)) making }

pub returns-else-find_shapes-clause-fault : goal.returns-else-find_shapes-clause-fault
returns-else-find_shapes-clause-fault c cells choices h at =
    let given = c.give_actuals.new.given.items in
    let ends = c.calls_give_what_is_bound.ensures.shape (turn_of at) c.args.call given c.is_runnable.ensures.accepted c.is_runnable.ensures.main at.holds
    (gives (goal.at.returns-else-find_shapes-clause-fault c).After-past at (Ok given) c.in_ok-give_actuals.ensures.given)
    (sym (fit (goal.at.returns-else-find_shapes-clause-fault c).After-find_shapes) ∙ c.if-find_shapes.false) in
    record { levels = at.levels; top = at.top; holds = ends }
