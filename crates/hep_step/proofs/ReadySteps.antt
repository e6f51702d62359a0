-- An activation that runs can do the operation ahead.
use Rattle.std.proofs.Common.{◌≡◌, ◌≢◌, ℕ, ◌+◌, ◌≤◌, true, List, [], ◌∷◌, ◌++◌, drop, length, Option, Some, None, Result, Ok, Err, refl, ap, sym, ◌∙◌, subst, arith, length-append}
use Rattle.std.specs.Option.{ForSome, option_map}
use Rattle.std.proofs.Math.Seq.{drop-append_seam}
use Rattle.hep_machine.specs.Words.{Name, Value, function_name, statement_at, no_value, Next, Redex, does, evaluating, leaving, referring, ending_loop, entering_loop, testing, wants, plug_work, frame_cells, is_do}
use Rattle.hep_machine.specs.declared.event.Kind.{Kind}
use Rattle.hep_machine.specs.Control.{variable_of as loop_variable}
use Rattle.hep_machine.specs.Evaluation.{reading}
use Rattle.hep_code.specs.declared.instruction.Evaluation.{Evaluation}
use Rattle.hep_code.specs.declared.instruction.Instruction.{Instruction}
use Rattle.hep_code.specs.declared.instruction.Instruction.TheVariants.{Step}
use Rattle.hep_code.specs.declared.instruction.Operation.{Operation}
use Rattle.hep_code.specs.declared.instruction.Operation.TheVariants.{Evaluate, Store, EnterLoop, EndLoop, Answer}
use Rattle.hep_code.specs.declared.variable.Variable.{Variable}
use Rattle.hep_code.specs.declared.variable.Variable.TheVariants.{Absent}
use Rattle.hep_code.specs.Words.{ending_of, table_of, arity, evaluation_of, operands_of_action, operands_of_redex, deepest}
use Rattle.hep_code.proofs.ControlFlow.{ended_is_do, entered_is_do}
use Rattle.hep_code.proofs.OperandCounts.{stands_within}
use Rattle.hep_image.specs.Image.{most_cells}
use Rattle.hep_image.specs.Places.{loop_cells, variable_of}
use Rattle.hep_image.specs.FrameBounds.{LiesIn}
use Rattle.hep_image.specs.Arrays.{ArePlacedArrays}
use Rattle.hep_image.proofs.Variables.{frame-reached, reached}
use Rattle.hep_image.proofs.FrameBounds.{loop-within, variable-within}
use Rattle.hep_step.specs.Cells.{HasFrame, IsReached}
use Rattle.hep_step.specs.Replies.{accessed_by}
use Rattle.hep_step.specs.Effects.{subscripts_in, last_operands}
use Rattle.hep_step.specs.StepReady.{IsAheadReady, IsEvaluationReady, IsLoopReady, IsOperationReady, IsReady, IsVariableReady, frame_in_arena}
use Rattle.hep_step.specs.Simulation.{IsRunning, RunningTop, addressed_on_top, arrays_running, code_ahead, code_running, unit_running, variable_in}
use Rattle.hep_step.proofs.ReplySteps.{arity_is, assigns, in_front, no_action}
use Rattle.hep_step.proofs.RunningActivations.{Comes, coming, found_running, next_is, no_end, scope_running}

module _ (r : RunningTop) (running : IsRunning r) (placed : ArePlacedArrays r.program (unit_running r)) where
  abbrev result : Option Variable
  result = (table_of (addressed_on_top r.program r.top)).result

  abbrev variables : Name → Variable
  variables = variable_of r.program (unit_running r)

  -- ---- the frame

  framed : length r.arena.contents ≤ most_cells → HasFrame r.arena (frame_in_arena r.frame)
  framed few =
      let here = frame-reached r.program r.top.state r.layout r.arena.contents r.arena.holes r.top.level.activation r.frame running.memory running.framed in
      record { inside = here.1; out = here.2; few = few }

  cells_are : r.frame.cells ≡ frame_cells (unit_running r)
  cells_are = (frame-reached r.program r.top.state r.layout r.arena.contents r.arena.holes r.top.level.activation r.frame running.memory running.framed).0

  -- ---- variables

  abbrev Ready : List Value → Variable → Type 0
  Ready vs x = IsVariableReady r.arena (arrays_running r) (frame_in_arena r.frame) vs x

  variable_reached : (y : Name) (vs : List Value) → variables y ≢ Absent → (q : Result ℕ Kind) → found_running r (variables y) vs ≡ q → IsReached r.arena q
  variable_reached y vs there (Err k) e = tt
  variable_reached y vs there (Ok p) e =
      reached r.program r.top.state r.layout r.arena.contents r.arena.holes (scope_running r) (found_running r) variables y vs p running.memory (running.addressed y vs there) e

  variable_ready : (y : Name) (vs : List Value) → variables y ≢ Absent → Ready vs (variables y)
  variable_ready y vs there = (
    subst (λ n. LiesIn n (arrays_running r) (variables y)) (sym cells_are) (variable-within r.program (unit_running r) placed y),
    variable_reached y vs there (found_running r (variables y) vs) refl,
  )

  module _ (line : ℕ) (behind : List Instruction) where
    abbrev IsAhead : Operation → Type 0
    IsAhead o = code_ahead r ≡ Step line o ∷ behind

    -- the variable of an operation is in the frame or in COMMON
    in_place : (o : Operation) (y : Name) → IsAhead o → variable_in o ≡ Some (variables y) → variables y ≢ Absent
    in_place o y ahead is = λ absent. running.placed r.index line o behind ahead (is ∙ ap Some absent)

    -- ---- operations that give values

    module _ (e : Evaluation) (ahead : IsAhead (Evaluate e)) where
      abbrev Accesses : Evaluation → List Value → Type 0
      Accesses e vs = ForSome (accessed_by e) (λ x. Ready vs x)

      redex_accesses : (q : Redex) → e ≡ evaluation_of variables q → Accesses (evaluation_of variables q) (operands_of_redex q)
      redex_accesses (reading q) same = λ x is.
          let place : variables q.0 ≡ x = cc is in
          subst (Ready q.1) place (variable_ready q.0 q.1 (in_place (Evaluate e) q.0 ahead (ap (λ e. variable_in (Evaluate e)) same)))
      redex_accesses (testing g q) same = λ x is.
          let place : variables q.0 ≡ x = cc is in
          subst (Ready q.1) place (variable_ready q.0 q.1 (in_place (Evaluate e) q.0 ahead (ap (λ e. variable_in (Evaluate e)) same)))
      redex_accesses _ same = λ x is. absurd (cc is)

      redex_ready : (q : Redex) (capacity : ℕ) → deepest (code_running r) ≤ capacity → Comes r (wants (evaluating q)) (Evaluate e) behind
          → IsEvaluationReady r.arena (arrays_running r) (frame_in_arena r.frame) capacity r.operands e
      redex_ready q capacity room redex =
          let same : e ≡ evaluation_of variables q = let o = redex.operation in cc in
          let vs = operands_of_redex q in
          let front = in_front e r.operands redex.before vs (ap arity same ∙ arity_is variables q) redex.operands_are in
          let dropped : last_operands e r.operands ≡ vs = ap (λ n. drop n r.operands) front ∙ ap (drop (length redex.before)) redex.operands_are ∙ drop-append_seam redex.before vs in
          let within = stands_within (code_running r) (addressed_on_top r.program r.top) r.top.level.statement (plug_work (unit_running r) r.top.level.work no_value) (redex.before ++ no_value ∷ []) (r.index + 1) refl (redex.filled no_value) in (
            subst (Accesses e) (sym dropped) (subst (λ e. Accesses e vs) (sym same) (redex_accesses q same)),
            omega (arith, front, within, room, length-append redex.before (no_value ∷ [])),
          )

      next_ready : (n : Next) (capacity : ℕ) → deepest (code_running r) ≤ capacity → Comes r n (Evaluate e) behind
          → IsEvaluationReady r.arena (arrays_running r) (frame_in_arena r.frame) capacity r.operands e
      next_ready (wants (evaluating q)) capacity room next = redex_ready q capacity room next
      next_ready (wants (referring y actuals)) capacity room next = absurd (cc next.operation)
      next_ready (does a) capacity room next = absurd (no_action (addressed_on_top r.program r.top) r.top.level.statement e a next.operation)

    -- ---- assignments

    module _ (x : Variable) (n next : ℕ) (ahead : IsAhead (Store x n next)) where
      store_ready : (m : Next) → Comes r m (Store x n next) behind → Ready (subscripts_in r.operands) x
      store_ready (wants (evaluating q)) next = absurd (cc next.operation)
      store_ready (wants (referring y actuals)) next = absurd (cc next.operation)
      store_ready (does a) action =
          let s = assigns (addressed_on_top r.program r.top) r.top.level.statement x n next a action.operation in
          let q = s.target in
          let vs : r.operands ≡ s.stored ∷ q.1 = action.operands_are ∙ ap operands_of_action s.action in
          let here = variable_ready q.0 q.1 (in_place (Store x n next) q.0 ahead (ap Some s.place)) in
          subst (λ vs. Ready (subscripts_in vs) x) (sym vs) (subst (Ready q.1) (sym s.place) here)

    -- ---- DOs

    loop_ready : (o : Operation) (y : Name) (d cells : ℕ) (x : Variable) → IsAhead o → variable_in o ≡ Some x → x ≡ variables y → cells ≡ loop_cells (unit_running r) d → is_do (statement_at (unit_running r) d).form ≡ true
        → IsLoopReady r.arena (arrays_running r) (frame_in_arena r.frame) x cells
    loop_ready o y d cells x ahead of place at is_loop =
        (subst (Ready []) (sym place) (variable_ready y [] (in_place o y ahead (of ∙ ap Some place))), omega (arith, cells_are, at, loop-within (unit_running r) d is_loop))

    module _ (x : Variable) (cells inside outside : ℕ) where
      enter_ready : IsAhead (EnterLoop x cells inside outside) → (m : Next) → coming r ≡ m → Comes r m (EnterLoop x cells inside outside) behind
          → IsLoopReady r.arena (arrays_running r) (frame_in_arena r.frame) x cells
      enter_ready ahead (does (entering_loop y m n i)) is h =
          loop_ready (EnterLoop x cells inside outside) y r.top.level.statement cells x ahead refl (cc h.operation) (cc h.operation) (
          entered_is_do (unit_running r) r.top.level.statement r.top.level.work y m n i running.stands.fits is)
      enter_ready ahead (wants (evaluating q)) is h = absurd (cc h.operation)
      enter_ready ahead (does leaving) is h = no_end (EnterLoop x cells inside outside) result h.operation refl
      enter_ready ahead _ is h = absurd (cc h.operation)

      end_ready : IsAhead (EndLoop x cells inside outside) → (m : Next) → coming r ≡ m → Comes r m (EndLoop x cells inside outside) behind
          → IsLoopReady r.arena (arrays_running r) (frame_in_arena r.frame) x cells
      end_ready ahead (does (ending_loop d)) is h =
          loop_ready (EndLoop x cells inside outside) (loop_variable (unit_running r) d) d cells x ahead refl (cc h.operation) (cc h.operation) (
          ended_is_do (unit_running r) r.top.level.statement r.top.level.work d running.stands.fits is)
      end_ready ahead (wants (evaluating q)) is h = absurd (cc h.operation)
      end_ready ahead (does leaving) is h = no_end (EndLoop x cells inside outside) result h.operation refl
      end_ready ahead _ is h = absurd (cc h.operation)

    -- ---- the result of a function

    module _ (x : Variable) (ahead : IsAhead (Answer x)) where
      by_function : (q : Option Name) → Answer x ≡ ending_of (option_map variables q) → Ready [] x
      by_function None same = absurd (cc same)
      by_function (Some y) same =
          let place : variables y ≡ x = cc same in
          subst (Ready []) place (variable_ready y [] (in_place (Answer x) y ahead (ap Some (sym place))))

      answer_ready : (m : Next) → Comes r m (Answer x) behind → Ready [] x
      answer_ready (does leaving) h = by_function (function_name (unit_running r)) h.operation
      answer_ready (wants (evaluating q)) h = absurd (cc h.operation)
      answer_ready _ h = absurd (cc h.operation)

  -- ---- all of them

  module _ (capacity : ℕ) (room : deepest (code_running r) ≤ capacity) where
    operation_ready : (o : Operation) (line : ℕ) (behind : List Instruction) → code_ahead r ≡ Step line o ∷ behind → IsOperationReady r.arena (arrays_running r) (frame_in_arena r.frame) capacity r.operands o
    operation_ready (Evaluate e) line behind ahead =
        next_ready line behind e ahead (coming r) capacity room (next_is r running line (Evaluate e) behind ahead)
    operation_ready (Store x n next) line behind ahead =
        store_ready line behind x n next ahead (coming r) (next_is r running line (Store x n next) behind ahead)
    operation_ready (EnterLoop x cells inside outside) line behind ahead =
        enter_ready line behind x cells inside outside ahead (coming r) refl (next_is r running line (EnterLoop x cells inside outside) behind ahead)
    operation_ready (EndLoop x cells inside outside) line behind ahead =
        end_ready line behind x cells inside outside ahead (coming r) refl (next_is r running line (EndLoop x cells inside outside) behind ahead)
    operation_ready (Answer x) line behind ahead = answer_ready line behind x ahead (coming r) (next_is r running line (Answer x) behind ahead)
    operation_ready _ line behind ahead = tt

    ahead_ready : (is : List Instruction) → code_ahead r ≡ is → IsAheadReady r.arena (arrays_running r) (frame_in_arena r.frame) capacity r.operands is
    ahead_ready (Step line o ∷ behind) e = operation_ready o line behind e
    ahead_ready _ e = tt

    pub is_ready : length r.arena.contents ≤ most_cells → IsReady (code_running r) (arrays_running r) r.arena (frame_in_arena r.frame) r.operands capacity r.index
    is_ready few = record { framed = framed few; ahead = ahead_ready (code_ahead r) refl }
