-- The step whose operation names no variable and prints nothing is told by its operands and the numbers that come next.
use Rattle.std.proofs.Common.{◌≡◌, ℕ, suc, ◌+◌, ◌-◌, true, false, true≢false, List, [], ◌∷◌, ◌++◌, drop, length, length-append, nat_eq, Option, Some, None, refl, sym, ap, ap₂, ◌∙◌, subst, arith, inl, inr}
use Rattle.std.proofs.lemmas.Bool.{cases_Bool, eqb-true}
use Rattle.std.specs.Option.{option_map}
use Rattle.std.proofs.Math.Seq.{drop-append_seam}
use Rattle.hep_code.specs.declared.instruction.Instruction.{Instruction}
use Rattle.hep_code.specs.declared.instruction.Operation.{Operation}
use Rattle.hep_code.specs.Words.{Addresses, AddressedUnit, addressed_unit, arity, evaluation_of, operands_of_action, operands_of_redex, operation_of, IsAction, IsNext, ending_of}
use Rattle.hep_machine.specs.Words.{Action, Name, Next, Process, State, Top, Units, Value, function_name, living, next_of, step_result_of, stepped, unit_of, unit_on_top, wants, does, evaluating, referring, assigning, jumping, choosing, branching, testing_condition, entering_block, entering_loop, ending_loop, calling, creating, purging, printing, continuing, leaving, resuming, stopping}
use Rattle.hep_event.specs.StepTexts.{deed_text, fault_added, leaving_text, next_text, resuming_text, step_text}
use Rattle.hep_event.specs.LineTexts as lines
use Rattle.hep_event.specs.declared.plain_text.NextNumbers.{NextNumbers}
use Rattle.hep_event.specs.PlainTexts.{IsNameOfCalled, is_plain, plain_text, resumed}
use Rattle.hep_event.specs.ReductionTexts.{pure_text}
use Rattle.hep_event.proofs.PureSteps.{pure-step}
use Rattle.hep_step.proofs.ReplySteps.{arity_is}

pub none-zero : (n : ℕ) → nat_eq (suc n) 0 ≡ false
none-zero n = elim (cases_Bool (nat_eq (suc n) 0)) [ inl e ↦ absurd (omega (arith, eqb-true (suc n) 0 e)) | inr d ↦ d ]

-- the last operands are those of the redex
pub last-are : (before vs operands : List Value) (n : ℕ) → operands ≡ before ++ vs → n ≡ length vs → drop (length operands - n) operands ≡ vs
last-are before vs operands n are many =
    let here : length operands - n ≡ length before = omega (arith, ap length are, length-append before vs, many) in
    ap₂ drop here are ∙ drop-append_seam before vs

-- the step of a process that was no fault, with what stood ahead of it
module _ (program : Units) (t : Top) (addresses : Addresses) (after : State) (called : List ℕ) (operands : List Value) (index : ℕ) (o : Operation) (behind : List Instruction)
    (lives : living t.state t.process ≡ Some (t.level, t.below)) (made : step_result_of program t.process t.state ≡ stepped after)
    (sound : fault_added t.state.faults after.faults ≡ None) (plain : is_plain o ≡ true) (is_name : IsNameOfCalled program o called) where
  abbrev addressed : AddressedUnit
  addressed = addressed_unit program addresses (unit_of t.state t.level.activation)

  abbrev numbers : NextNumbers
  numbers = record { activation = length t.state.activations + 1; process = length t.state.processes + 1; alone = nat_eq (length t.below) 0 }

  -- an operation that isn't so
  other : {P : Type 0} (p : Operation) → o ≡ p → is_plain p ≡ false → P
  other p is isnt = absurd (true≢false (sym plain ∙ ap is_plain is ∙ isnt))

  no-fault : (n : Next) → next_of (unit_on_top program t) t.level.work ≡ n → deed_text program t (step_result_of program t.process t.state) ≡ next_text program t after n
  no-fault n is = ap (deed_text program t) made ∙ ap (step_text program t after) sound ∙ ap (next_text program t after) is

  same : (a : Action) → IsAction addressed t.level.statement t.level.work operands index a o behind
      → plain_text called numbers o operands ≡ plain_text called numbers (operation_of addressed t.level.statement a) (operands_of_action a)
  same a is = ap₂ (plain_text called numbers) is.operation is.operands_are

  -- the name of the unit that is called
  named-as : (a : Action) → IsAction addressed t.level.statement t.level.work operands index a o behind → IsNameOfCalled program (operation_of addressed t.level.statement a) called
  named-as a is = subst (λ p. IsNameOfCalled program p called) is.operation is_name

  leaving-told : (f : Option Name) → o ≡ ending_of (option_map addressed.variables f) → leaving_text program t f t.below ≡ plain_text called numbers o operands
  leaving-told None is = sym (ap (λ p. plain_text called numbers p operands) is)
  leaving-told (Some x) is = other (ending_of (option_map addressed.variables (Some x))) is refl

  resuming-told : (below : Process) → resuming_text program t below ≡ lines.resume_text (resumed (nat_eq (length below) 0) (length t.state.processes + 1))
  resuming-told [] = refl
  resuming-told (level ∷ levels) = ap (λ b. lines.resume_text (resumed b (length t.state.processes + 1))) (sym (none-zero (length levels)))

  action-told : (a : Action) → IsAction addressed t.level.statement t.level.work operands index a o behind → next_text program t after (does a) ≡ plain_text called numbers o operands
  action-told (assigning r v) is = other (operation_of addressed t.level.statement (assigning r v)) is.operation refl
  action-told (jumping l) is = other (operation_of addressed t.level.statement (jumping l)) is.operation refl
  action-told (choosing labels v) is = sym (same (choosing labels v) is)
  action-told (branching labels v) is = sym (same (branching labels v) is)
  action-told (testing_condition v) is = sym (same (testing_condition v) is)
  action-told (entering_block v) is = sym (same (entering_block v) is)
  action-told (entering_loop x m n k) is = other (operation_of addressed t.level.statement (entering_loop x m n k)) is.operation refl
  action-told (ending_loop d) is = other (operation_of addressed t.level.statement (ending_loop d)) is.operation refl
  action-told (calling x actuals) is =
      ap (λ unit. lines.call_text unit (length t.state.activations + 1)) (sym (named-as (calling x actuals) is)) ∙ sym (same (calling x actuals) is)
  action-told (creating x actuals) is =
      ap (λ unit. lines.create_text (length t.state.processes + 1) unit (length t.state.activations + 1)) (sym (named-as (creating x actuals) is)) ∙ sym (same (creating x actuals) is)
  action-told (purging targets) is = other (operation_of addressed t.level.statement (purging targets)) is.operation refl
  action-told (printing items) is = other (operation_of addressed t.level.statement (printing items)) is.operation refl
  action-told continuing is = other (operation_of addressed t.level.statement continuing) is.operation refl
  action-told leaving is = leaving-told (function_name (unit_on_top program t)) is.operation
  action-told resuming is = resuming-told t.below ∙ sym (same resuming is)
  action-told stopping is = sym (same stopping is)

  told-by : (n : Next) → next_of (unit_on_top program t) t.level.work ≡ n → IsNext addressed t.level.statement t.level.work operands index n o behind
      → deed_text program t (step_result_of program t.process t.state) ≡ plain_text called numbers o operands
  told-by (wants (evaluating r)) next is =
      pure-step program t.state t.process (t.level, t.below) r addressed.variables (evaluation_of addressed.variables r) lives next refl (sym (ap is_plain is.operation) ∙ plain)
      ∙ ap (pure_text (evaluation_of addressed.variables r)) (sym (last-are is.before (operands_of_redex r) operands (arity (evaluation_of addressed.variables r)) is.operands_are (arity_is addressed.variables r)))
      ∙ ap (λ p. plain_text called numbers p operands) (sym is.operation)
  told-by (wants (referring x actuals)) next is =
      let called_so = subst (λ p. IsNameOfCalled program p called) is.operation is_name in
      no-fault (wants (referring x actuals)) next
      ∙ ap (λ unit. lines.call_text unit (length t.state.activations + 1)) (sym called_so)
      ∙ ap (λ p. plain_text called numbers p operands) (sym is.operation)
  told-by (does a) next is = no-fault (does a) next ∙ action-told a is

  pub plain-told : IsNext addressed t.level.statement t.level.work operands index (next_of (unit_on_top program t) t.level.work) o behind
      → deed_text program t (step_result_of program t.process t.state) ≡ plain_text called numbers o operands
  plain-told is = told-by (next_of (unit_on_top program t) t.level.work) refl is
