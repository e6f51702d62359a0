-- Operations that give a value, and that store one, do what the source machine does with the redex and the assignment.
use Rattle.std.proofs.Common.{◌≡◌, ℕ, ◌+◌, ◌-◌, List, [], ◌∷◌, ◌++◌, take, drop, length, refl, ap, sym, ◌∙◌, subst, arith, Some, length-append}
use Rattle.std.proofs.Math.Seq.{take-append_seam, drop-append_seam}
use Rattle.hep_machine.specs.Words.{Name, Value, line_at, Redex, testing, evaluating, referring, leaving, Action, assigning, Next, wants, does, plug_work, Reference, Level, Answer, answer_of, result_after_answer, result_after_next, result_after_write, level_after_statement, location_of_name}
use Rattle.hep_machine.specs.Evaluation.{reading}
use Rattle.hep_machine.specs.Step.{gives}
use Rattle.hep_code.specs.declared.instruction.Evaluation.{Evaluation}
use Rattle.hep_code.specs.declared.instruction.Instruction.{Instruction}
use Rattle.hep_code.specs.declared.instruction.Instruction.TheVariants.{Step}
use Rattle.hep_code.specs.declared.instruction.Operation.TheVariants.{Evaluate, Store}
use Rattle.hep_code.specs.declared.variable.Variable.{Variable}
use Rattle.hep_code.specs.Words.{arity, evaluation_of, operands_of_redex, operation_of, operands_of_action, IsAddressedIn, reply_of, answer_to_store, reply_to_store, AddressedUnit, table_of, first_operand}
use Rattle.hep_code.proofs.ControlFlow.{next_is_ahead}
use Rattle.hep_code.proofs.Replies.{reply_is, assignment_is, stored_is}
use Rattle.hep_layout.specs.Words.{address}
use Rattle.hep_image.specs.Addressing.{cells_in}
use Rattle.hep_image.specs.Places.{variable_of}
use Rattle.hep_step.specs.Effects.{Effect, effect_of_reply, moves, subscripts_in}
use Rattle.hep_step.specs.Simulation.{IsRunning, RunningTop, Simulates, addressed_on_top, code_ahead, effect_running, unit_running, variable_in}
use Rattle.hep_step.proofs.RunningActivations.{Comes, after_answer, cells_found, coming, found_running, no_end, replied, scope_running, step_is}
use Rattle.hep_code.proofs.CodePositions.{after_statement_keeps, after_statement_stands}

-- an evaluation takes the operands of its redex
pub arity_is : (variables : Name → Variable) (r : Redex) → arity (evaluation_of variables r) ≡ length (operands_of_redex r)
arity_is variables (reading r) = refl
arity_is variables _ = refl

-- so many operands stand in front of them
pub in_front : (e : Evaluation) (operands before vs : List Value) → arity e ≡ length vs → operands ≡ before ++ vs → length operands - arity e ≡ length before
in_front e operands before vs taken same =
    let long : length operands ≡ length (before ++ vs) = ap length same in
    omega (arith, taken, long, length-append before vs)

pub no_action : (addressed : AddressedUnit) (k : ℕ) (e : Evaluation) (a : Action) → Evaluate e ≡ operation_of addressed k a → ⊥
no_action addressed k e (assigning r v) same = cc
no_action addressed k e leaving same = no_end (Evaluate e) (table_of addressed).result same refl
no_action addressed k e _ same = cc

-- an operation that stores a value is that of an assignment
pub record Assigns (addressed : AddressedUnit) (k : ℕ) (x : Variable) (next : ℕ) (a : Action) : Type 0 where
  pub target : Reference
  pub stored : Value
  pub action : a ≡ assigning target stored
  pub place : x ≡ addressed.variables target.0
  pub leads : next ≡ ((table_of addressed).flows k).next

pub assigns : (addressed : AddressedUnit) (k : ℕ) (x : Variable) (n next : ℕ) (a : Action) → Store x n next ≡ operation_of addressed k a → Assigns addressed k x next a
assigns addressed k x n next (assigning r v) same = record { target = r; stored = v; action = refl; place = cc; leads = cc }
assigns addressed k x n next leaving same = no_end (Store x n next) (table_of addressed).result same refl
assigns addressed k x n next _ same = absurd cc

module _ (r : RunningTop) (running : IsRunning r) where
  abbrev addressed : AddressedUnit
  addressed = addressed_on_top r.program r.top

  -- once the redex has a value
  abbrev with_value : Value → Level
  with_value v = record r.top.level { work = plug_work (unit_running r) r.top.level.work v }

  answer_is : (a : Answer) → result_after_answer r.program r.top a ≡ after_answer r.program r.top with_value a
  answer_is (gives v store) = refl
  answer_is _ = refl

  module _ (line : ℕ) (e : Evaluation) (behind : List Instruction) (ahead : code_ahead r ≡ Step line (Evaluate e) ∷ behind) where
    -- the variable of the redex, if it has one, is in the frame or in COMMON
    name_found : (q : Redex) → e ≡ evaluation_of addressed.variables q → IsAddressedIn (address r.program r.top.state r.layout) (scope_running r) (found_running r) (variable_of r.program (unit_running r)) q
    name_found (reading q) same = running.addressed q.0 q.1 (λ absent. running.placed r.index line (Evaluate e) behind ahead (ap (λ e. variable_in (Evaluate e)) same ∙ ap Some absent))
    name_found (testing g q) same = running.addressed q.0 q.1 (λ absent. running.placed r.index line (Evaluate e) behind ahead (ap (λ e. variable_in (Evaluate e)) same ∙ ap Some absent))
    name_found _ same = tt

    -- the effect of an evaluation of the last operands
    abbrev effect_with : List Value → Evaluation → List Value → Effect
    effect_with before e vs =
        effect_of_reply line r.arena.contents (λ new v. moves new (before ++ v ∷ []) (r.index + 1)) (reply_of (cells_in r.arena.contents) (found_running r) e vs)

    redex_evaluated : (q : Redex) → coming r ≡ wants (evaluating q) → line_at (unit_running r) r.top.level.statement ≡ line → Comes r (wants (evaluating q)) (Evaluate e) behind
        → Simulates r (effect_running r line (Evaluate e) behind)
    redex_evaluated q is line_is redex =
        let same : e ≡ evaluation_of addressed.variables q = let o = redex.operation in cc in
        let vs = operands_of_redex q in
        let front = in_front e r.operands redex.before vs (ap arity same ∙ arity_is addressed.variables q) redex.operands_are in
        let taken : take (length r.operands - arity e) r.operands ≡ redex.before = ap (λ n. take n r.operands) front ∙ ap (take (length redex.before)) redex.operands_are ∙ take-append_seam redex.before vs in
        let dropped : drop (length r.operands - arity e) r.operands ≡ vs = ap (λ n. drop n r.operands) front ∙ ap (drop (length redex.before)) redex.operands_are ∙ drop-append_seam redex.before vs in
        let effect : effect_with (take (length r.operands - arity e) r.operands) e (drop (length r.operands - arity e) r.operands) ≡ effect_with redex.before (evaluation_of addressed.variables q) vs = λ i. effect_with (taken i) (same i) (dropped i) in
        let answer = answer_of (scope_running r) r.top.state.store q in
        subst (Simulates r) (sym effect)
        (replied r running with_value (λ v. refl) (λ v. refl) (λ v. redex.before ++ v ∷ []) (r.index + 1) redex.filled line line_is (reply_of (cells_in r.arena.contents) (found_running r) (evaluation_of addressed.variables q) vs) answer
        (reply_is (address r.program r.top.state r.layout) r.top.state.store (cells_in r.arena.contents) (cells_found r running) (scope_running r) (found_running r) addressed.variables q (name_found q same))
        (step_is r running ∙ ap (result_after_next r.program r.top) is ∙ answer_is answer))

    next_evaluated : (n : Next) → coming r ≡ n → line_at (unit_running r) r.top.level.statement ≡ line → Comes r n (Evaluate e) behind
        → Simulates r (effect_running r line (Evaluate e) behind)
    next_evaluated (wants (evaluating q)) is line_is next = redex_evaluated q is line_is next
    next_evaluated (wants (referring y actuals)) is line_is next = absurd (cc next.operation)
    next_evaluated (does a) is line_is next = absurd (no_action addressed r.top.level.statement e a next.operation)

    pub evaluated : Simulates r (effect_running r line (Evaluate e) behind)
    evaluated =
        let next = next_is_ahead addressed r.top.level.statement r.top.level.work r.operands r.index running.stands line (Evaluate e) behind ahead in
        next_evaluated (coming r) refl next.0 next.1

  -- ---- assignments

  -- once the value is stored
  abbrev after : Level
  after = level_after_statement (unit_running r) r.top.level

  written_is : (a : Answer) → result_after_write r.program r.top after a ≡ after_answer r.program r.top (λ v. after) a
  written_is (gives v store) = refl
  written_is _ = refl

  module _ (line : ℕ) (x : Variable) (n next : ℕ) (behind : List Instruction) (ahead : code_ahead r ≡ Step line (Store x n next) ∷ behind) where
    -- the effect of storing the first operand, where the others are subscripts
    abbrev effect_of_storing : ℕ → Variable → List Value → Effect
    effect_of_storing next x vs =
        effect_of_reply line r.arena.contents (λ new v. moves new [] next) (reply_to_store (cells_in r.arena.contents) (found_running r) x (first_operand vs) (subscripts_in vs))

    action_stored : (a : Action) → coming r ≡ does a → line_at (unit_running r) r.top.level.statement ≡ line → Comes r (does a) (Store x n next) behind
        → Simulates r (effect_running r line (Store x n next) behind)
    action_stored a is line_is action =
        let s = assigns addressed r.top.level.statement x n next a action.operation in
        let q = s.target in
        let v = s.stored in
        let flow : ℕ = ((table_of addressed).flows r.top.level.statement).next in
        let vs : r.operands ≡ v ∷ q.1 = action.operands_are ∙ ap operands_of_action s.action in
        let effect : effect_of_storing next x r.operands ≡ effect_of_storing flow (addressed.variables q.0) (v ∷ q.1) = λ i. effect_of_storing (s.leads i) (s.place i) (vs i) in
        let location = location_of_name (scope_running r) q.0 q.1 in
        let answer = answer_to_store r.top.state.store q.0.asynchronous v location in
        let keeps = after_statement_keeps addressed r.top.level in
        let found = running.addressed q.0 q.1 (λ absent. running.placed r.index line (Store x n next) behind ahead (ap Some (s.place ∙ absent))) in
        subst (Simulates r) (sym effect)
        (replied r running (λ v. after) (λ v. keeps.1) (λ v. keeps.0) (λ v. []) flow (λ v. after_statement_stands addressed r.top.level) line line_is (reply_to_store (cells_in r.arena.contents) (found_running r) (addressed.variables q.0) v q.1) answer
        (stored_is (address r.program r.top.state r.layout) r.top.state.store (cells_in r.arena.contents) (cells_found r running) (scope_running r) (found_running r) addressed.variables q.0 v q.1 found)
        (step_is r running ∙ ap (result_after_next r.program r.top) (is ∙ ap does s.action) ∙ assignment_is r.program r.top q.0.asynchronous location v ∙ written_is answer))

    next_stored : (m : Next) → coming r ≡ m → line_at (unit_running r) r.top.level.statement ≡ line → Comes r m (Store x n next) behind
        → Simulates r (effect_running r line (Store x n next) behind)
    next_stored (wants (evaluating q)) is line_is next = absurd (cc next.operation)
    next_stored (wants (referring y actuals)) is line_is next = absurd (cc next.operation)
    next_stored (does a) is line_is action = action_stored a is line_is action

    pub value_stored : Simulates r (effect_running r line (Store x n next) behind)
    value_stored =
        let both = next_is_ahead addressed r.top.level.statement r.top.level.work r.operands r.index running.stands line (Store x n next) behind ahead in
        next_stored (coming r) refl both.0 both.1
