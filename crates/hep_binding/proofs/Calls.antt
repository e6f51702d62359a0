-- The state after a CALL, CREATE or reference: that the step leads to it, what is on stacks in it, and what its frames keep.
use Rattle.std.proofs.Common.{◌≡◌, ℕ, false, List, None, Some, ap, ◌∙◌, suc, Bool, true, [], ◌∷◌, ◌++◌, length, refl, sym, arith, zero, ◌-◌, ◌<◌, ◌≤◌, Option, Result, Ok, subst, if◌then◌else◌, nat_eq, slice_get, slice_set, length-append}
use Rattle.hep_machine.specs.Words.{Name, dummies_of, Binding, binding_of, Next, calling, creating, does, function_unit, next_of, referring, wants, unit_of, unit_on_top, living, with_process, activation_of, numbered, top_of, with_numbered, run, Level, Process, State, result_after_call, result_after_create, result_after_next, state_made, step, step_result_of, step_result_of_top, stepped, unit_called, next_activation, with_activation, Layout, activations_on, index_among, unset_cell}
use Rattle.hep_machine.specs.declared.event.Kind.{Kind}
use Rattle.hep_step.specs.declared.call_kind.CallKind.{CallKind}
use Rattle.hep_step.specs.declared.call_kind.CallKind.TheVariants.{Calls, Creates, Refers}
use Rattle.hep_step.specs.NextCalls.{comes_by, is_creation, unit_by}
use Rattle.hep_binding.specs.Calling.{CallOf, caller, frames_before_call, frames_with, IsPassing, level_behind, level_called, state_before_call, state_begun, state_called, state_created, state_made_by, called_activation, IsWritten, unit_begun}
use Rattle.hep_arena.specs.Space.{Space}
use Rattle.hep_code.proofs.CodePositions.{after_statement_keeps}
use Rattle.hep_layout.specs.Words.{level_of, descriptor_slots, slot_by_dummy, slot_of_bounds, slot_of_dummy, slot_on_level, Nodes, also, is_stacked, FramePart, argument, bounds, header, iteration, variable, place_of_part}
use Rattle.hep_layout.proofs.StackChanges.{stacks-begun, stacks-created, stacks-same}
use Rattle.hep_layout.proofs.Stacks.{top-numbered, level-found}
use Rattle.hep_proc.specs.FrameTable.{FramesOf, Keeps}
use Rattle.hep_step.specs.Simulation.{unit_addressed}
use Rattle.std.specs.Option.{unwrap_or}
use Rattle.std.proofs.lemmas.Option.{none-some, same_Some}
use Rattle.hep_machine.specs.declared.slot.Slot.{Slot}
use Rattle.hep_layout.proofs.HeldFrames.{run-last}
use Rattle.hep_binding.specs.AdjustableBounds.{cells_to_bounds, cells_to_bounds_of, cells_to_locals}
use Rattle.hep_binding.specs.FrameWriting.{unit_framed, written_up_to}
use Rattle.hep_binding.proofs.Cells.{keeps-skipped, argument-place, bounds-place, cells-ordered, to-first}
use Rattle.hep_machine.proofs.Others.{last-numbered}

-- ---- the step

module _ (call : CallOf) (x : Name) (on : (state_before_call call).halted ≡ false) (h : IsPassing call) where
  -- what comes next makes a state
  made-step : (t : State) → step_result_of call.program call.process (state_before_call call) ≡ stepped t → step call.program call.process (state_before_call call) ≡ Some t
  made-step t made = ap (λ c. if c then None else state_made (step_result_of call.program call.process (state_before_call call))) on ∙ ap state_made made

  result-of : (n : Next) → next_of (unit_on_top call.program (caller call)) call.top.0.work ≡ n → step_result_of call.program call.process (state_before_call call) ≡ result_after_next call.program (caller call) n
  unfolding step_result_of
  result-of n next = ap (step_result_of_top call.program (state_before_call call) call.process) h.lives ∙ ap (result_after_next call.program (caller call)) next

  -- which is that of the unit that is called, with its binding
  bound : {A : Type 0} (f : ℕ → Result Binding Kind → A) (u : ℕ) → call.unit ≡ u → f u (binding_of call.program (caller call) u call.actuals) ≡ f call.unit (Ok call.binding)
  bound f u called = ap (λ u. f u (binding_of call.program (caller call) u call.actuals)) (sym called) ∙ ap (f call.unit) h.bound

  pub step-made : (way : CallKind) → call.unit ≡ unit_by way call.program x → next_of (unit_on_top call.program (caller call)) call.top.0.work ≡ comes_by way x call.actuals
      → step call.program call.process (state_before_call call) ≡ Some (state_made_by (is_creation way) call)
  step-made Calls called next = made-step (state_called call) (result-of (does (calling x call.actuals)) next ∙ bound (result_after_call call.program (caller call)) (unit_called call.program x) called)
  step-made Creates called next = made-step (state_created call) (result-of (does (creating x call.actuals)) next ∙ bound (result_after_create call.program (caller call)) (unit_called call.program x) called)
  step-made Refers called next = made-step (state_called call) (result-of (wants (referring x call.actuals)) next ∙ bound (result_after_call call.program (caller call)) (function_unit call.program x) called)

-- ---- the state after it

-- it has one activation more
pub made-begun : (creates : Bool) (call : CallOf) → (state_made_by creates call).activations ≡ (state_begun call).activations
made-begun false call = refl
made-begun true call = refl

pub made-store : (creates : Bool) (call : CallOf) → (state_made_by creates call).store ≡ call.binding.store
made-store false call = refl
made-store true call = refl

pub entry-number : (call : CallOf) → (level_called call).activation ≡ length (state_begun call).activations
entry-number call =
    let s = state_before_call call in
    let next : next_activation s ≡ suc (length s.activations) = omega arith in
    let long : length (state_begun call).activations ≡ suc (length s.activations) = length-append s.activations (called_activation call ∷ []) ∙ omega arith in
    next ∙ sym long

pub behind-keeps : (call : CallOf) → ((level_behind call).loops ≡ call.top.0.loops) × ((level_behind call).activation ≡ call.top.0.activation)
behind-keeps call = after_statement_keeps (unit_addressed call.program (unit_of (state_before_call call) call.top.0.activation)) call.top.0

module _ (call : CallOf) (lives : living (state_before_call call) call.process ≡ Some call.top) where
  abbrev s : State
  s = state_before_call call

  abbrev n : ℕ
  n = length (state_begun call).activations

  -- it is on a stack, with those that were
  pub made-stacks : (creates : Bool) (a : ℕ) → is_stacked (state_made_by creates call) a ≡ also (length (state_made_by creates call).activations) (is_stacked (state_before_call call)) a
  made-stacks false a =
      stacks-begun s (state_called call) call.process call.top (level_called call ∷ (call.top.0 ∷ call.top.1)) lives refl a n (ap (λ c. c ∷ activations_on (call.top.0 ∷ call.top.1)) (entry-number call))
  made-stacks true a =
      let mid = with_process (with_activation (caller call) call.unit call.binding) call.process (level_behind call ∷ call.top.1) in
      stacks-created mid (state_created call) a n (level_called call ∷ []) refl (ap (λ c. c ∷ []) (entry-number call))
      ∙ ap (λ z. if nat_eq a n then true else z) (stacks-same s mid call.process call.top (level_behind call ∷ call.top.1) lives refl a (ap (λ c. c ∷ activations_on call.top.1) (behind-keeps call).1))

-- ---- what isn't written of the new frame is unset: its variables, and its DOs, of which none was begun

module _ (f : FramesOf) (a : ℕ) (level : Level) (found : level_of f.state a ≡ Some level) (none : level.loops ≡ []) where
  unset : (d : FramePart × ℕ) (n : ℕ) (v : Slot) → place_of_part (unit_framed f a) d.0 d.1 ≡ Some n → cells_to_locals (unit_framed f a) ≤ n → n < cells_to_bounds (unit_framed f a) → descriptor_slots f.program f.state f.layout a d ≡ Some v → v ≡ unset_cell
  unset (header, i) n v at low high w = absurd (none-some v w)
  unset (variable x, i) n v at low high w = absurd (none-some v w)
  unset (iteration d, i) n v at low high w =
      let no_loop : descriptor_slots f.program f.state f.layout a (iteration d, i) ≡ Some unset_cell = ap (λ o. slot_on_level o d i) found ∙ ap (λ ls. slot_on_level (Some (record level { loops = ls })) d i) none in
      sym (same_Some unset_cell v (sym no_loop ∙ w))
  unset (argument x, i) n v at low high w = by_index (index_among x (dummies_of (unit_framed f a))) refl w where
    by_index : (o : Option ℕ) → index_among x (dummies_of (unit_framed f a)) ≡ o → slot_by_dummy (λ z. slot_of_dummy f.program f.state f.layout a z i) (activation_of f.state a).dummies o ≡ Some v → v ≡ unset_cell
    by_index None e w = absurd (none-some v w)
    by_index (Some k) e w = absurd (omega (arith, argument-place (unit_framed f a) x k e i n at, low))
  unset (bounds x, i) n v at low high w = by_index (index_among x (dummies_of (unit_framed f a))) refl w where
    by_index : (o : Option ℕ) → index_among x (dummies_of (unit_framed f a)) ≡ o → slot_by_dummy (λ z. slot_of_bounds z.shape i) (activation_of f.state a).dummies o ≡ Some v → v ≡ unset_cell
    by_index None e w = absurd (none-some v w)
    by_index (Some k) e w = absurd (omega (arith, bounds-place (unit_framed f a) x k e i n at, high))

  pub keeps-rest : (arena : Space) (nodes : Nodes) → Keeps (written_up_to f a (cells_to_locals (unit_framed f a))) arena nodes → Keeps (written_up_to f a (cells_to_bounds (unit_framed f a))) arena nodes
  keeps-rest arena nodes h =
      keeps-skipped f a nodes f.state.store arena (cells_to_locals (unit_framed f a)) (cells_to_bounds (unit_framed f a)) (cells-ordered (unit_framed f a)) unset h

-- ---- the level of the new activation

pub set-numbered : {A : Type 0} (xs : List A) (p : ℕ) (x y : A) → numbered xs p ≡ Some x → numbered (with_numbered xs p y) p ≡ Some y
set-numbered xs zero x y e = absurd (none-some x e)
set-numbered xs (suc i) x y e = let same : suc i - 1 ≡ i = omega arith in rw same (at xs i e) where
  at : {A : Type 0} (xs : List A) (i : ℕ) {x y : A} → slice_get xs i ≡ Some x → slice_get (slice_set xs i y) i ≡ Some y
  at [] i e = absurd (none-some _ e)
  at (z ∷ zs) zero e = refl
  at (z ∷ zs) (suc i) e = at zs i e

module _ (call : CallOf) (lives : living (state_before_call call) call.process ≡ Some call.top) where
  -- it is found where its process has it on top
  on-top : (t : State) (q : ℕ) (below : Process) → step call.program call.process (state_before_call call) ≡ Some t → numbered t.processes q ≡ Some (level_called call ∷ below) → level_of t (length (state_begun call).activations) ≡ Some (level_called call)
  on-top t q below made there =
      let new = level_called call in
      let next : run call.program (call.choices ++ call.process ∷ []) ≡ t = run-last call.program call.choices call.process ∙ ap (λ o. unwrap_or o (state_before_call call)) made in
      ap (level_of t) (sym (entry-number call))
      ∙ subst (λ (z : State). living z q ≡ Some (new, below) → level_of z new.activation ≡ Some new) next (level-found call.program (call.choices ++ call.process ∷ []) q (new, below)) (ap top_of there)

  made-level : (creates : Bool) → step call.program call.process (state_before_call call) ≡ Some (state_made_by creates call) → level_of (state_made_by creates call) (length (state_made_by creates call).activations) ≡ Some (level_called call)
  made-level false made =
      let stack = call.top.0 ∷ call.top.1 in
      on-top (state_called call) call.process stack made (set-numbered (state_before_call call).processes call.process stack (level_called call ∷ stack) (top-numbered (state_before_call call) call.process call.top lives))
  made-level true made =
      let front = with_numbered (state_before_call call).processes call.process (level_behind call ∷ call.top.1) in
      on-top (state_created call) (suc (length front)) [] made (last-numbered front (level_called call ∷ []))

  pub rest-unset : (creates : Bool) (layout : Layout) (first : ℕ) (out : ℕ → Bool) (arena : Space) (nodes : Nodes) → step call.program call.process (state_before_call call) ≡ Some (state_made_by creates call)
      → IsWritten (frames_before_call call out layout) (state_made_by creates call) first (cells_to_locals (unit_begun call.program (state_made_by creates call))) arena nodes
      → IsWritten (frames_before_call call out layout) (state_made_by creates call) first (cells_to_bounds_of (unit_begun call.program (state_made_by creates call)) 0) arena nodes
  rest-unset creates layout first out arena nodes made h =
      let t = state_made_by creates call in
      let f = frames_before_call call out layout in
      subst (λ m. IsWritten f t first m arena nodes) (sym (to-first (unit_begun call.program t))) (
      keeps-rest (frames_with f t first) (length t.activations) (level_called call) (made-level creates made) refl arena nodes h)
