-- The step of any operation is told by its operands and by what was seen of it.
use Rattle.std.proofs.Common.{◌≡◌, ℕ, ◌+◌, ◌-◌, true, List, [], ◌∷◌, ◌++◌, codes, drop, length, nat_eq, Option, Some, None, refl, sym, ap, ◌∙◌, subst}
use Rattle.std.specs.Option.{option_map}
use Rattle.hep_code.specs.declared.instruction.Instruction.{Instruction}
use Rattle.hep_code.specs.declared.instruction.Operation.{Operation}
use Rattle.hep_code.specs.declared.instruction.Operation.TheVariants.{Evaluate}
use Rattle.hep_code.specs.declared.variable.Variable.{Variable}
use Rattle.hep_code.specs.Words.{Addresses, AddressedUnit, addressed_unit, evaluation_of, operands_of_action, operands_of_redex, operation_of, IsAction, IsNext, IsRedex, ending_of}
use Rattle.hep_machine.specs.Evaluation.{reading}
use Rattle.hep_machine.specs.Words.{Action, Name, Next, Process, Redex, State, Top, Units, Value, function_name, living, next_of, step_result_of, stepped, unit_of, unit_on_top, wants, does, evaluating, referring, signing, negating, combining, applying, testing, assigning, jumping, choosing, branching, testing_condition, entering_block, entering_loop, ending_loop, calling, creating, purging, printing, continuing, leaving, resuming, stopping}
use Rattle.hep_event.specs.StepTexts.{deed_text, fault_added, leaving_text, next_text, resuming_text, step_text, told_of}
use Rattle.hep_event.specs.LineTexts as lines
use Rattle.hep_event.specs.declared.plain_text.NextNumbers.{NextNumbers}
use Rattle.hep_event.specs.declared.operation_text.StepObservation.{StepObservation}
use Rattle.hep_event.specs.PlainTexts.{IsNameOfCalled, is_plain, plain_text, resumed}
use Rattle.hep_event.specs.StepObservations.{IsActionSeen, IsNextSeen, IsRedexSeen, numbers_before}
use Rattle.hep_event.specs.OperationTexts.{told_text}
use Rattle.hep_event.proofs.PlainSteps.{last-are, none-zero, plain-told}

-- the step of a process that was no fault, with what stood ahead of it
module _ (program : Units) (t : Top) (addresses : Addresses) (after : State) (seen : StepObservation) (operands : List Value) (index : ℕ) (o : Operation) (behind : List Instruction)
    (lives : living t.state t.process ≡ Some (t.level, t.below)) (made : step_result_of program t.process t.state ≡ stepped after)
    (sound : fault_added t.state.faults after.faults ≡ None) (numbered : seen.numbers ≡ numbers_before t) where
  abbrev addressed : AddressedUnit
  addressed = addressed_unit program addresses (unit_of t.state t.level.activation)

  abbrev variables : Name → Variable
  variables = addressed.variables

  abbrev Deed : List ℕ
  Deed = deed_text program t (step_result_of program t.process t.state)

  no-fault : (n : Next) → next_of (unit_on_top program t) t.level.work ≡ n → Deed ≡ next_text program t after n
  no-fault n is = ap (deed_text program t) made ∙ ap (step_text program t after) sound ∙ ap (next_text program t after) is

  -- ---- redexes

  -- the operands of a redex are the last ones
  own-operands : (r : Redex) → (is : IsRedex addressed t.level.statement t.level.work operands index r o) → drop (length operands - length (operands_of_redex r)) operands ≡ operands_of_redex r
  own-operands r is = last-are is.before (operands_of_redex r) operands (length (operands_of_redex r)) is.operands_are refl

  -- those of values alone
  pure-told : (r : Redex) → next_of (unit_on_top program t) t.level.work ≡ wants (evaluating r) → (is : IsRedex addressed t.level.statement t.level.work operands index r o)
      → is_plain (Evaluate (evaluation_of variables r)) ≡ true
      → told_text seen (Evaluate (evaluation_of variables r)) operands ≡ plain_text seen.called.now seen.numbers (Evaluate (evaluation_of variables r)) operands → Deed ≡ told_text seen o operands
  pure-told r next is plain same =
      let named = subst (λ p. IsNameOfCalled program p seen.called.now) (sym is.operation) tt in
      let ahead = subst (λ n. IsNext addressed t.level.statement t.level.work operands index n o behind) (sym next) is in
      plain-told program t addresses after seen.called.now operands index o behind lives made sound (ap is_plain is.operation ∙ plain) named ahead
      ∙ (λ i. plain_text seen.called.now (sym numbered i) (is.operation i) operands)
      ∙ sym same ∙ ap (λ p. told_text seen p operands) (sym is.operation)

  redex-told : (r : Redex) → next_of (unit_on_top program t) t.level.work ≡ wants (evaluating r) → IsRedex addressed t.level.statement t.level.work operands index r o
      → IsRedexSeen program t variables after seen r → Deed ≡ told_text seen o operands
  redex-told (reading r) next is h =
      no-fault (wants (evaluating (reading r))) next
      ∙ (λ i. told_of (sym h.1 i) (λ v. lines.accessed_text (lines.read_verb (sym h.0.asynchronous i)) (lines.reference_text (sym h.0.name i) (sym (own-operands (reading r) is) i)) v (sym h.0.place i)))
      ∙ ap (λ p. told_text seen p operands) (sym is.operation)
  redex-told (testing f r) next is h =
      no-fault (wants (evaluating (testing f r))) next
      ∙ (λ i. told_of (sym h.1 i) (λ v. lines.tested_text f (lines.reference_text (sym h.0.name i) (sym (own-operands (testing f r) is) i)) v (sym h.0.place i)))
      ∙ ap (λ p. told_text seen p operands) (sym is.operation)
  redex-told (signing s v) next is h = pure-told (signing s v) next is refl refl
  redex-told (negating v) next is h = pure-told (negating v) next is refl refl
  redex-told (combining p v w) next is h = pure-told (combining p v w) next is refl refl
  redex-told (applying f vs) next is h = pure-told (applying f vs) next is refl refl

  -- ---- actions

  same : (a : Action) → IsAction addressed t.level.statement t.level.work operands index a o behind
      → told_text seen (operation_of addressed t.level.statement a) (operands_of_action a) ≡ told_text seen o operands
  same a is i = told_text seen (sym is.operation i) (sym is.operands_are i)

  leaving-told : (f : Option Name) → function_name (unit_on_top program t) ≡ f → o ≡ ending_of (option_map variables f) → IsActionSeen program t variables after seen leaving
      → leaving_text program t f t.below ≡ told_text seen o operands
  leaving-told None is ends h = ap (λ (n : NextNumbers). lines.end_text n.alone) (sym numbered) ∙ ap (λ p. told_text seen p operands) (sym ends)
  leaving-told (Some x) is ends h =
      (λ i. told_of (sym (h x is).1 i) (lines.answer_text (sym (h x is).0 i))) ∙ ap (λ p. told_text seen p operands) (sym ends)

  resuming-told : (below : Process) → resuming_text program t below ≡ lines.resume_text (resumed (nat_eq (length below) 0) (length t.state.processes + 1))
  resuming-told [] = refl
  resuming-told (level ∷ levels) = ap (λ b. lines.resume_text (resumed b (length t.state.processes + 1))) (sym (none-zero (length levels)))

  action-told : (a : Action) → IsAction addressed t.level.statement t.level.work operands index a o behind → IsActionSeen program t variables after seen a
      → next_text program t after (does a) ≡ told_text seen o operands
  action-told (assigning r v) is h =
      (λ i. lines.accessed_text (lines.store_verb (sym h.asynchronous i)) (lines.reference_text (sym h.name i) r.1) v (sym h.place i)) ∙ same (assigning r v) is
  action-told (jumping l) is h = ap lines.jump_text (sym h) ∙ same (jumping l) is
  action-told (choosing labels v) is h = same (choosing labels v) is
  action-told (branching labels v) is h = same (branching labels v) is
  action-told (testing_condition v) is h = same (testing_condition v) is
  action-told (entering_block v) is h = same (entering_block v) is
  action-told (entering_loop x m n k) is h = ap (λ name. lines.loop_text name m n k) (sym h) ∙ same (entering_loop x m n k) is
  action-told (ending_loop d) is h = (λ i. told_of (sym h.1 i) (lines.next_text (sym h.0 i))) ∙ same (ending_loop d) is
  action-told (calling x actuals) is h = (λ i. lines.call_text (sym h i) (sym numbered i).activation) ∙ same (calling x actuals) is
  action-told (creating x actuals) is h =
      (λ i. lines.create_text (sym numbered i).process (sym h i) (sym numbered i).activation) ∙ same (creating x actuals) is
  action-told (purging targets) is h = ap (λ list. codes "purge" ++ list) (sym h) ∙ same (purging targets) is
  action-told (printing items) is h = ap (λ list. codes "print " ++ list) (sym h) ∙ same (printing items) is
  action-told continuing is h = ap lines.jump_text (sym h) ∙ same continuing is
  action-told leaving is h = leaving-told (function_name (unit_on_top program t)) refl is.operation h
  action-told resuming is h =
      resuming-told t.below ∙ ap (λ (n : NextNumbers). lines.resume_text (resumed n.alone n.process)) (sym numbered) ∙ same resuming is
  action-told stopping is h = same stopping is

  -- ---- what comes next

  told-by : (n : Next) → next_of (unit_on_top program t) t.level.work ≡ n → IsNext addressed t.level.statement t.level.work operands index n o behind → IsNextSeen program t variables after seen n
      → Deed ≡ told_text seen o operands
  told-by (wants (evaluating r)) next is h = redex-told r next is h
  told-by (wants (referring x actuals)) next is h =
      no-fault (wants (referring x actuals)) next
      ∙ (λ i. lines.call_text (sym h i) (sym numbered i).activation)
      ∙ ap (λ p. told_text seen p operands) (sym is.operation)
  told-by (does a) next is h = no-fault (does a) next ∙ action-told a is h

  pub step-told : IsNext addressed t.level.statement t.level.work operands index (next_of (unit_on_top program t) t.level.work) o behind
      → IsNextSeen program t variables after seen (next_of (unit_on_top program t) t.level.work) → Deed ≡ told_text seen o operands
  step-told is h = told-by (next_of (unit_on_top program t) t.level.work) refl is h
