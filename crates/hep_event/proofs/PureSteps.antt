-- The step at a redex of values alone is told by its operation and its operands.
use Rattle.std.proofs.Common.{◌≡◌, ℕ, true, true≢false, Some, Result, Ok, Err, refl, sym, ap, ◌∙◌, subst}
use Rattle.hep_code.specs.declared.instruction.Evaluation.{Evaluation}
use Rattle.hep_code.specs.declared.variable.Variable.{Variable}
use Rattle.hep_code.specs.Words.{evaluation_of, operands_of_redex}
use Rattle.hep_machine.specs.declared.event.Kind.{Kind}
use Rattle.hep_machine.specs.Evaluation.{reading}
use Rattle.hep_machine.specs.Words.{Level, Name, Process, Redex, State, Top, Units, Value, signing, negating, combining, applying, testing, answer_of, by_result, combined_value, evaluating, function_value, living, negated_value, next_of, result_after_answer, result_after_next, signed_value, step_result_of, unit_on_top, wants}
use Rattle.hep_event.specs.StepTexts.{deed_text, own_scope, redex_text}
use Rattle.hep_event.proofs.StepCases.{fault_told, step_of_top, value_told}
use Rattle.hep_event.specs.ReductionTexts.{is_pure, pure_text, result_text}

module _ (program : Units) (t : Top) (r : Redex) (next : next_of (unit_on_top program t) t.level.work ≡ wants (evaluating r)) where
  -- where the redex comes to a result
  by_its_result : (came : Result Value Kind) → answer_of (own_scope program t) t.state.store r ≡ by_result came t.state.store
      → deed_text program t (result_after_answer program t (by_result came t.state.store)) ≡ result_text came (redex_text program t r)
  by_its_result (Ok v) is = value_told program t r next v t.state.store is
  by_its_result (Err k) is = fault_told program t k

pure-deed : (program : Units) (t : Top) (r : Redex) (variables : Name → Variable) → next_of (unit_on_top program t) t.level.work ≡ wants (evaluating r) → is_pure (evaluation_of variables r) ≡ true
    → deed_text program t (result_after_answer program t (answer_of (own_scope program t) t.state.store r)) ≡ pure_text (evaluation_of variables r) (operands_of_redex r)
pure-deed program t (reading x) variables next pure = absurd (true≢false (sym pure))
pure-deed program t (signing s v) variables next pure = by_its_result program t (signing s v) next (signed_value s v) refl
pure-deed program t (negating v) variables next pure = by_its_result program t (negating v) next (negated_value v) refl
pure-deed program t (combining o v w) variables next pure = by_its_result program t (combining o v w) next (combined_value o v w) refl
pure-deed program t (applying f vs) variables next pure = by_its_result program t (applying f vs) next (function_value f vs) refl
pure-deed program t (testing f x) variables next pure = absurd (true≢false (sym pure))

pub pure-step : (program : Units) (s : State) (p : ℕ) (top : Level × Process) (r : Redex) (variables : Name → Variable) (e : Evaluation) → living s p ≡ Some top
    → next_of (unit_on_top program (record { state = s; process = p; level = top.0; below = top.1 })) top.0.work ≡ wants (evaluating r)
    → e ≡ evaluation_of variables r → is_pure e ≡ true
    → deed_text program (record { state = s; process = p; level = top.0; below = top.1 }) (step_result_of program p s) ≡ pure_text e (operands_of_redex r)
pure-step program s p top r variables e lives next is pure =
    let t : Top = record { state = s; process = p; level = top.0; below = top.1 } in
    ap (deed_text program t) (step_of_top program s p top lives ∙ ap (result_after_next program t) next)
    ∙ pure-deed program t r variables next (subst (λ x. is_pure x ≡ true) is pure)
    ∙ ap (λ x. pure_text x (operands_of_redex r)) (sym is)
