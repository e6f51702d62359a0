-- What the step that comes next asks, in the source and in the code.
use Rattle.std.proofs.Common.{◌≡◌, ℕ, false, List, Option, Some, None, refl, sym, ap, ◌∙◌, subst}
use Rattle.std.specs.Option.{option_map}
use Rattle.std.proofs.lemmas.Option.{none-some, same_Some}
use Rattle.hep_code.specs.Words.{ending_of}
use Rattle.hep_image.specs.Places.{variable_of}
use Rattle.hep_machine.specs.Evaluation.{reading}
use Rattle.hep_machine.specs.Words.{Action, Level, Name, Next, Process, Redex, Scope, State, Statement, Units, next_of, run, unit_at, unit_of, does, evaluating, function_name, referring, signing, negating, combining, applying, testing, wants, StateFunction, assigning, jumping, choosing, branching, testing_condition, entering_block, entering_loop, ending_loop, calling, creating, purging, printing, continuing, leaving, resuming, stopping}
use Rattle.hep_step.specs.Simulation.{RunningTop, unit_addressed, unit_running}
use Rattle.hep_step.proofs.RunningActivations.{Comes, coming}
use Rattle.hep_state.specs.declared.core_state.CoreState.{CoreState}
use Rattle.hep_state.specs.Words.{HasLevels, IsMachineAfter, IsTopRunning, snapshot_of}
use Rattle.hep_event.specs.declared.next_operation.NextOperation.{NextOperation}
use Rattle.hep_event.specs.NextOperations.{IsNextOperation, IsNextOperationOf}
use Rattle.hep_event.proofs.Answered as answered
use Rattle.hep_event.proofs.TopPositions.{settled-there, settled-turn, turn}
use Rattle.hep_event.specs.NamedVariables.{IsNamed}
use Rattle.hep_event.specs.Sites.{LivesAfter}
use Rattle.hep_event.proofs.FoundVariables.{levels-of, same-top}
use Rattle.hep_diff.specs.ProcessSteps.{Question, found_by, question_of, result_question}
use Rattle.hep_diff.specs.CellReadings.{asked_by}

-- how a question is answered
abbrev pub way : Option Question → Option StateFunction
way = option_map (λ (q : Question). q.1)

-- ---- what is asked of is named

named-result : (unit : List Statement) (f : Option Name) (q : Question) → function_name unit ≡ f → result_question f ≡ Some q
    → IsNamed unit (does leaving) q.0
named-result unit None q is e = absurd (none-some q e)
named-result unit (Some y) q is e = (y, is, sym (ap (λ (q : Question). q.0) (same_Some _ q e)))

pub asked-named : (unit : List Statement) (n : Next) (q : Question) → question_of unit n ≡ Some q → IsNamed unit n q.0
asked-named unit (wants (evaluating (reading r))) q e = sym (ap (λ (q : Question). q.0) (same_Some _ q e))
asked-named unit (wants (evaluating (testing f r))) q e = sym (ap (λ (q : Question). q.0) (same_Some _ q e))
asked-named unit (does (ending_loop d)) q e = sym (ap (λ (q : Question). q.0) (same_Some _ q e))
asked-named unit (does leaving) q e = named-result unit (function_name unit) q refl e
asked-named unit _ q e = absurd (none-some q e)

module _ {program : Units} {cells : ℕ} {choices : List ℕ} {p : ℕ} (m : CoreState) (after : IsMachineAfter program cells choices m) (running : m.halted ≡ false)
    (levels : HasLevels (snapshot_of m) p) (c : NextOperation) (k : IsNextOperation (unit_addressed program levels.level.unit) levels.operands levels.level.index c)
    (runs : IsTopRunning (settled-turn m after running levels c k) (settled-there m after running levels c k)) where
  abbrev r : RunningTop
  r = answered.r m after running levels c k runs

  abbrev unit : List Statement
  unit = unit_running r

  coming-so : (n : Next) → coming r ≡ n → Comes r n c.operation c.behind.now
  coming-so n next = subst (λ n. Comes r n c.operation c.behind.now) next (answered.comes m after running levels c k runs)

  asks-redex : (q : Redex) → coming r ≡ wants (evaluating q) → way (question_of unit (wants (evaluating q))) ≡ asked_by c.operation
  asks-redex (reading y) next = sym (ap asked_by (coming-so (wants (evaluating (reading y))) next).operation)
  asks-redex (testing f y) next = sym (ap asked_by (coming-so (wants (evaluating (testing f y))) next).operation)
  asks-redex (signing s v) next = sym (ap asked_by (coming-so (wants (evaluating (signing s v))) next).operation)
  asks-redex (negating v) next = sym (ap asked_by (coming-so (wants (evaluating (negating v))) next).operation)
  asks-redex (combining o v w) next = sym (ap asked_by (coming-so (wants (evaluating (combining o v w))) next).operation)
  asks-redex (applying f vs) next = sym (ap asked_by (coming-so (wants (evaluating (applying f vs))) next).operation)

  asks-end : (f : Option Name) → way (result_question f) ≡ asked_by (ending_of (option_map (variable_of program unit) f))
  asks-end None = refl
  asks-end (Some y) = refl

  asks-action : (a : Action) → coming r ≡ does a → way (question_of unit (does a)) ≡ asked_by c.operation
  asks-action (assigning y v) next = sym (ap asked_by (coming-so (does (assigning y v)) next).operation)
  asks-action (jumping l) next = sym (ap asked_by (coming-so (does (jumping l)) next).operation)
  asks-action (choosing ls v) next = sym (ap asked_by (coming-so (does (choosing ls v)) next).operation)
  asks-action (branching ls v) next = sym (ap asked_by (coming-so (does (branching ls v)) next).operation)
  asks-action (testing_condition v) next = sym (ap asked_by (coming-so (does (testing_condition v)) next).operation)
  asks-action (entering_block v) next = sym (ap asked_by (coming-so (does (entering_block v)) next).operation)
  asks-action (entering_loop y v n i) next = sym (ap asked_by (coming-so (does (entering_loop y v n i)) next).operation)
  asks-action (ending_loop d) next = sym (ap asked_by (coming-so (does (ending_loop d)) next).operation)
  asks-action (calling x actuals) next = sym (ap asked_by (coming-so (does (calling x actuals)) next).operation)
  asks-action (creating x actuals) next = sym (ap asked_by (coming-so (does (creating x actuals)) next).operation)
  asks-action (purging targets) next = sym (ap asked_by (coming-so (does (purging targets)) next).operation)
  asks-action (printing items) next = sym (ap asked_by (coming-so (does (printing items)) next).operation)
  asks-action continuing next = sym (ap asked_by (coming-so (does continuing) next).operation)
  asks-action leaving next = asks-end (function_name unit) ∙ sym (ap asked_by (coming-so (does leaving) next).operation)
  asks-action resuming next = sym (ap asked_by (coming-so (does resuming) next).operation)
  asks-action stopping next = sym (ap asked_by (coming-so (does stopping) next).operation)

  pub asks-so : (n : Next) → coming r ≡ n → way (question_of unit n) ≡ asked_by c.operation
  asks-so (wants (evaluating q)) next = asks-redex q next
  asks-so (wants (referring x actuals)) next = sym (ap asked_by (coming-so (wants (referring x actuals)) next).operation)
  asks-so (does a) next = asks-action a next

-- ---- what is found

-- nothing, where nothing is asked
pub none-found : (program : Units) (s : State) (scope : Scope) (o : Option Question) → way o ≡ None → None ≡ found_by program s scope o
none-found program s scope None e = refl
none-found program s scope (Some q) e = absurd (none-some q.1 (sym e))

pub some-asked : (o : Option Question) (f : StateFunction) → way o ≡ Some f → (q : Question) × (o ≡ Some q) × (q.1 ≡ f)
some-asked None f e = absurd (none-some f e)
some-asked (Some q) f e = (q, refl, same_Some q.1 f e)

-- of a process that lives
module _ {program : Units} {cells : ℕ} {choices : List ℕ} {p : ℕ} {top : Level × Process} (m : CoreState) (lives : LivesAfter program cells choices m p top)
    (c : NextOperation) (is : IsNextOperationOf program m p c)
    (runs : IsTopRunning (settled-turn m lives.after lives.running (levels-of lives) c (is (levels-of lives))) (settled-there m lives.after lives.running (levels-of lives) c (is (levels-of lives)))) where
  abbrev unit_at_top : Level × Process → List Statement
  unit_at_top t = unit_at program (unit_of (run program choices) t.0.activation)

  pub asked-here : way (question_of (unit_at_top top) (next_of (unit_at_top top) top.0.work)) ≡ asked_by c.operation
  asked-here =
      let levels = levels-of lives in
      let t = turn m lives.after lives.running levels in
      subst (λ (z : Level × Process). way (question_of (unit_at_top z) (next_of (unit_at_top z) z.0.work)) ≡ asked_by c.operation) (same-top lives levels) (
      asks-so m lives.after lives.running levels c (is levels) runs (next_of (unit_at_top t.0) t.0.0.work) refl)
