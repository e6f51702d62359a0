-- The operation ahead of a process whose turn it is can be done, what is left of the turn then, and what its step touches and makes.
use Rattle.std.proofs.Common.{◌≡◌, ℕ, ◌+◌, ◌<◌, ◌≤◌, List, [], ◌∷◌, ◌++◌, drop, length, Option, Some, None, refl, sym, ap, ◌∙◌, subst, arith, ◌≢◌, if◌then◌else◌, slice_get}
use Rattle.std.specs.Option.{unwrap_or}
use Rattle.std.proofs.lemmas.Option.{none-some}
use Rattle.hep_machine.specs.Words.{unit_at, unset_cell, Layout, is_held, layout_of, unit_of, run, state_after_turn, Location, State, Store, step, Top, Wanted, state_made, step_result_of, waiting}
use Rattle.hep_machine.specs.declared.slot.Slot.{Slot}
use Rattle.hep_code.specs.Words.{IsPastPushes, values_ahead, deepest}
use Rattle.hep_code.proofs.OperandCounts.{room_for}
use Rattle.hep_image.specs.Arrays.{ArePlacedArrays}
use Rattle.hep_layout.specs.Words.{address}
use Rattle.hep_layout.proofs.HeldFrames.{run-last}
use Rattle.hep_image.specs.Addressing.{cells_in}
use Rattle.hep_image.specs.Image.{most_cells}
use Rattle.hep_cells.specs.declared.want.Want.{Want}
use Rattle.hep_step.specs.declared.effect.Effect.{Effect}
use Rattle.hep_step.specs.Effects as effects
use Rattle.hep_step.specs.Effects.{answers, effect_at, fails, moves, prints, returns, stops, left_out, waits}
use Rattle.hep_step.specs.PerformedSteps as performed
use Rattle.hep_step.specs.PerformedSteps.{performed as done, snapshot}
use Rattle.hep_step.specs.StepReady.{IsReady, frame_in_arena}
use Rattle.hep_step.specs.Simulation.{IsNotLeftOut, unit_addressed, unit_arrays, unit_code}
use Rattle.hep_step.proofs.Operations.{operation_simulated}
use Rattle.hep_step.proofs.ReadySteps.{is_ready}
use Rattle.hep_proc.specs.Stacks.{stack_with}
use Rattle.hep_state.specs.Words.{Snapshot, IsEnding, IsLeft, IsToEnd, IsEffectOf, IsTopRunning, IsTurning, TurnOf, snapshot_moved, snapshot_stopped, state_before, top_before, top_frame, HasMadeTurn, HasWaited, running_top}
use Rattle.hep_state.proofs.UnchangedStates.{carry}
use Rattle.hep_state.proofs.SilentTurns.{next-is, moved-shown, printed-shown, standing-before, stopped-shown, unit-is, waited-shown}
use Rattle.hep_state.proofs.Runs.{in-turn, layout-stays, set-same}
use Rattle.hep_machine.proofs.Others.{step-is}

module _ {t : TurnOf} (turning : IsTurning t) where
  abbrev old : State
  old = state_before t

  abbrev top : Top
  top = top_before t

  abbrev layout : Layout
  layout = turning.after.layout

  unit-here : unit_of old t.top.0.activation ≡ t.level.unit
  unit-here = unit-is turning

  abbrev Runs : Type 0
  Runs = IsTopRunning t turning

  abbrev Does : effects.Effect → Type 0
  Does = IsEffectOf t turning

  pub inside : t.level.unit < length t.program
  inside = (standing-before turning).0.here.inside

  -- there is room for the values that stand ahead
  pub room-ahead : length t.operands + values_ahead (drop t.level.index (unit_code t.program t.level.unit)) ≤ deepest (unit_code t.program t.level.unit)
  room-ahead = room_for (unit_addressed t.program t.level.unit) t.top.0.statement t.top.0.work t.operands t.level.index (standing-before turning).0.stands

  -- ---- an operation stands ahead

  pub ready : Runs → (capacity : ℕ) → ArePlacedArrays t.program (unit_at t.program t.level.unit) → t.cells ≤ most_cells → deepest (unit_code t.program t.level.unit) ≤ capacity
      → IsReady (unit_code t.program t.level.unit) (unit_arrays t.program t.level.unit) t.machine.arena (frame_in_arena (top_frame t)) t.operands capacity t.level.index
  ready runs capacity placed few =
      subst (λ u. ArePlacedArrays t.program (unit_at t.program u) → deepest (unit_code t.program u) ≤ capacity → IsReady (unit_code t.program u) (unit_arrays t.program u) t.machine.arena (frame_in_arena (top_frame t)) t.operands capacity t.level.index) unit-here
      (λ all room. is_ready (running_top t turning) runs all capacity room (omega (arith, few, turning.after.size))) placed

  pub ahead-simulated : Runs → IsPastPushes (unit_code t.program t.level.unit) t.level.index → IsNotLeftOut (unit_code t.program t.level.unit) t.level.index
      → Does (effect_at (unit_code t.program t.level.unit) (unit_arrays t.program t.level.unit) (top_frame t).first t.machine.arena.contents t.operands t.level.index)
  ahead-simulated runs =
      subst (λ u. IsPastPushes (unit_code t.program u) t.level.index → IsNotLeftOut (unit_code t.program u) t.level.index → Does (effect_at (unit_code t.program u) (unit_arrays t.program u) (top_frame t).first t.machine.arena.contents t.operands t.level.index)) unit-here
      (λ past others. operation_simulated (running_top t turning) runs others past)

  -- ---- and was performed

  -- the process stands elsewhere, and cells have changed
  abbrev pub with_performed : performed.Snapshot → Snapshot
  with_performed x = snapshot_moved t x.contents x.operands x.index

  abbrev IsDone : Effect × performed.Snapshot → Type 0
  IsDone x = IsLeft t.program t.cells t.choices t.process (with_performed x.1) x.0

  abbrev pub before : performed.Snapshot
  before = snapshot t.machine.arena.contents t.operands t.level.index

  -- nothing was performed
  pub unperformed : with_performed before ≡ t.machine
  unperformed = λ i. record t.machine { processes = sym (set-same t.machine.processes t.process (stack_with t.level t.below t.operands t.pending) turning.kept) i }

  ends-so : (e : effects.Effect) → Does e → IsToEnd t.program t.cells t.choices t.process (with_performed before) e
  ends-so e sim =
      subst (λ (n : Snapshot). IsToEnd t.program t.cells t.choices t.process n e) (sym unperformed) (in-turn turning (λ t. IsEnding t e) (record { turning = turning; simulated = sim }))

  done-by : (e : effects.Effect) (changed : Option Want) → Does e → length (done e changed before).1.contents ≡ length t.machine.arena.contents → IsDone (done e changed before)
  done-by (moves contents new next) changed sim size = moved-shown turning contents new next size sim
  done-by (prints items next) changed sim size = printed-shown turning items next sim
  done-by (fails line kind) changed sim size = ends-so (fails line kind) sim
  done-by (waits at full) changed sim size = carry (λ i. HasWaited t.program t.cells t.choices t.process at full (sym unperformed i)) (waited-shown turning at full sim)
  done-by returns changed sim size = ends-so returns sim
  done-by (answers v) changed sim size = ends-so (answers v) sim
  done-by stops changed sim size = subst (λ (n : Snapshot). HasMadeTurn t (snapshot_stopped n)) (sym unperformed) (stopped-shown turning sim)
  done-by left_out changed sim size = absurd sim

  pub left-over : (e : effects.Effect) (changed : Option Want) (effect : Effect) (after : performed.Snapshot) → Does e → length after.contents ≡ length t.machine.arena.contents → (effect, after) ≡ done e changed before → IsLeft t.program t.cells t.choices t.process (with_performed after) effect
  left-over e changed effect after sim size is =
      subst IsDone (sym is) (done-by e changed sim (subst (λ (x : Effect × performed.Snapshot). length x.1.contents ≡ length t.machine.arena.contents) is size))

  -- ---- the storage unit that is kept in a cell

  -- the store after the step, whatever its effect, and what is in the cell then
  abbrev pub AreAlike : Effect × performed.Snapshot → Type 0
  AreAlike x = (at : Location) (c : ℕ) → address t.program old layout at ≡ Some c → ((run t.program (t.choices ++ t.process ∷ [])).store at).full ≡ (cells_in x.1.contents c).full

  -- a cell that holds what is stored there is as full as that
  pub full-there : (store : Store) (contents : List Slot) (at : Location) (c : ℕ) → slice_get contents c ≡ Some (store at) → (store at).full ≡ (cells_in contents c).full
  full-there store contents at c e = ap (λ o. (unwrap_or o unset_cell).full) (sym e)

  -- no state is made where it waits
  unmade : (w : Wanted) → step_result_of t.program t.process old ≡ waiting w → step t.program t.process old ≡ None
  unmade w is = ap (λ b. if b then None else state_made (step_result_of t.program t.process old)) turning.running ∙ ap state_made is

  stored-same : (s : State) → run t.program (t.choices ++ t.process ∷ []) ≡ s → s.store ≡ old.store → (at : Location) (c : ℕ) → address t.program old layout at ≡ Some c → ((run t.program (t.choices ++ t.process ∷ [])).store at).full ≡ (cells_in t.machine.arena.contents c).full
  stored-same s next same at c there =
      ap (λ (z : State). (z.store at).full) next ∙ (ap (λ (store : Store). (store at).full) same ∙ full-there old.store t.machine.arena.contents at c (turning.after.shows.keeps.memory.holds at c there))

  pub alike-by : (e : effects.Effect) (changed : Option Want) → Does e → AreAlike (done e changed before)
  alike-by (moves contents new next) changed sim = λ at c there. ap (λ (z : State). (z.store at).full) (next-is turning _ sim.2) ∙ full-there sim.0 contents at c (sim.3.memory.holds at c there)
  alike-by (prints items next) changed sim = stored-same _ (next-is turning _ sim.1) refl
  alike-by (fails line kind) changed sim = stored-same _ (next-is turning _ sim.0) refl
  alike-by (waits cell full) changed sim = stored-same old (run-last t.program t.choices t.process ∙ ap (λ o. unwrap_or o old) (unmade _ sim.1)) refl
  alike-by returns changed sim = stored-same _ (next-is turning _ sim.1) refl
  alike-by (answers v) changed sim = stored-same _ (next-is turning _ sim.2) refl
  alike-by stops changed sim = stored-same _ (next-is turning _ sim) refl
  alike-by left_out changed sim = absurd sim

  module _ (runs : Runs) (past : IsPastPushes (unit_code t.program t.level.unit) t.level.index) (others : IsNotLeftOut (unit_code t.program t.level.unit) t.level.index) where
    -- ---- it makes no activation, and so each frame has its gap after the turn

    stay : (o : Option State) → step t.program t.process old ≡ o → (unwrap_or o old).activations ≡ old.activations → (state_after_turn t.program t.process old).activations ≡ old.activations
    stay o made same = ap (λ o. (unwrap_or o old).activations) made ∙ same

    activations-stay : (e : effects.Effect) → Does e → (state_after_turn t.program t.process old).activations ≡ old.activations
    activations-stay (moves new operands index) (store, after, is, reaches) = stay _ (step-is t.program t.process old _ turning.running is) refl
    activations-stay (prints items index) (after, is, reaches) = stay _ (step-is t.program t.process old _ turning.running is) refl
    activations-stay (fails line k) (is, at) = stay _ (step-is t.program t.process old _ turning.running is) refl
    activations-stay (waits cell full) (at, is, found) = stay None (unmade _ is) refl
    activations-stay returns (none, is) = stay _ (step-is t.program t.process old _ turning.running is) refl
    activations-stay (answers v) (x, result, is) = stay _ (step-is t.program t.process old _ turning.running is) refl
    activations-stay stops is = stay _ (step-is t.program t.process old _ turning.running is) refl
    activations-stay left_out h = absurd h

    pub gap-kept : layout_of t.program t.cells is_held (t.choices ++ t.process ∷ []) ≢ None
    gap-kept none = none-some _ (sym none ∙ layout-stays t.program t.cells t.choices t.process layout turning.after.laid (activations-stay _ (ahead-simulated runs past others)))
