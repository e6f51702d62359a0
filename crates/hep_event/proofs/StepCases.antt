-- What is told of a step whose redex has a value, and of one that is a fault.
use Rattle.std.proofs.Common.{◌≡◌, ℕ, List, [], ◌∷◌, ◌++◌, Some, None, refl, ap, ◌∙◌}
use Rattle.hep_machine.specs.declared.event.Fault.{Fault}
use Rattle.hep_machine.specs.declared.event.Kind.{Kind}
use Rattle.hep_machine.specs.Step.{gives}
use Rattle.hep_machine.specs.Words.{Answer, Level, Process, Redex, State, Store, Top, Units, Value, answer_of, evaluating, fault_of, living, next_of, plug_work, result_after_answer, result_after_fault, result_after_next, state_with_store, step_result_of, step_result_of_top, unit_on_top, wants, with_process}
use Rattle.hep_dump.specs.Faults.{kind_text}
use Rattle.hep_event.specs.StepTexts.{deed_text, fault_added, next_text, own_scope, redex_text, step_text, told_of, value_given}
use Rattle.hep_event.specs.LineTexts as lines

-- ---- faults that a step has added

no_fault : (fs : List Fault) → fault_added fs fs ≡ None
no_fault [] = refl
no_fault (f ∷ fs) = no_fault fs

-- the fault that was added to these
pub one_fault : (fs : List Fault) (f : Fault) → fault_added fs (fs ++ f ∷ []) ≡ Some f.kind
one_fault [] f = refl
one_fault (g ∷ fs) f = one_fault fs f

-- ---- the step of a process

-- it is that of what comes next of the statement on top
pub step_of_top : (program : Units) (s : State) (p : ℕ) (top : Level × Process) → living s p ≡ Some top
    → step_result_of program p s
    ≡ result_after_next program (record { state = s; process = p; level = top.0; below = top.1 }) (
    next_of (unit_on_top program (record { state = s; process = p; level = top.0; below = top.1 })) top.0.work)
unfolding step_result_of
step_of_top program s p top lives = ap (step_result_of_top program s p) lives

module _ (program : Units) (t : Top) where
  pub fault_told : (k : Kind) → deed_text program t (result_after_fault program t k) ≡ lines.fault_text (kind_text k)
  fault_told k =
      let f : Fault = fault_of program t k in
      let after : State = with_process (record t.state { faults = t.state.faults ++ f ∷ [] }) t.process [] in
      ap (step_text program t after) (one_fault t.state.faults f)

  module _ (r : Redex) (next : next_of (unit_on_top program t) t.level.work ≡ wants (evaluating r)) where
    pub value_told : (v : Value) (store : Store) → answer_of (own_scope program t) t.state.store r ≡ gives v store
        → deed_text program t (result_after_answer program t (gives v store)) ≡ redex_text program t r v
    value_told v store gave =
        let after : State = state_with_store t store (record t.level { work = plug_work (unit_on_top program t) t.level.work v }) in
        ap (step_text program t after) (no_fault t.state.faults)
        ∙ ap (next_text program t after) next
        ∙ ap (λ (a : Answer). told_of (value_given a) (redex_text program t r)) gave
