-- The operation that comes next of a process says whether its next step is pure, and the machine after that step.
use Rattle.std.proofs.Common.{◌≡◌, ℕ, suc, ◌-◌, true, false, true≢false, if◌then◌else◌, List, [], ◌∷◌, ◌++◌, drop, length, replicate}
use Rattle.std.proofs.Common.{Option, Some, None, Result, Ok, Err, is_ok, is_some, refl, sym, ap, ◌∙◌, subst}
use Rattle.std.specs.Option.{option_map}
use Rattle.std.specs.Result.{result_ok}
use Rattle.std.proofs.lemmas.List.{append-nil, append_assoc}
use Rattle.std.proofs.lemmas.Option.{none-some}
use Rattle.std.proofs.Math.Seq.{drop-append_seam}
use Rattle.hep_code.specs.declared.instruction.Instruction.{Instruction}
use Rattle.hep_code.specs.declared.instruction.Operation.{Operation}
use Rattle.hep_code.specs.declared.instruction.Operation.TheVariants.{Refer}
use Rattle.hep_code.specs.declared.variable.Variable.{Variable}
use Rattle.hep_code.specs.NextInCode.{IsAction, IsNext, IsRedex}
use Rattle.hep_code.specs.StatementCode.{ending_of}
use Rattle.hep_code.specs.Words.{AddressedUnit, arity, evaluation_of, operands_of_redex, operation_of}
use Rattle.hep_machine.specs.Evaluation.{Redex, applying, combining, negating, reading, signing, testing}
use Rattle.hep_machine.specs.Words.{Action, Level, Name, Next, State, Statement, Units, Value, does, evaluating, function_name, living}
use Rattle.hep_machine.specs.Words.{next_of, referring, run, run_from, state_after_turn, step, unit_at, unit_of, wants, assigning}
use Rattle.hep_machine.specs.Words.{branching, calling, choosing, continuing, creating, ending_loop, entering_block, entering_loop, jumping}
use Rattle.hep_machine.specs.Words.{leaving, printing, purging, resuming, stopping, testing_condition}
use Rattle.hep_machine.specs.declared.event.Kind.{Kind}
use Rattle.hep_step.proofs.ReplySteps.{arity_is, in_front}
use Rattle.hep_step.specs.Simulation.{unit_addressed}
use Rattle.hep_blocked.proofs.LivingProcesses.{waits-idle}
use Rattle.hep_state.specs.declared.core_state.CoreState.{CoreState}
use Rattle.hep_state.specs.declared.turn.TurnFault.{TurnFault}
use Rattle.hep_state.specs.declared.turn.TurnFault.TheVariants.{ArenaFull}
use Rattle.hep_state.specs.declared.turn.TurnOutcome.{TurnOutcome}
use Rattle.hep_state.specs.declared.turn.TurnOutcome.TheVariants.{Purged, Stepped, Waits}
use Rattle.hep_state.specs.Words.{HasLevels, HasTurned, IsMachineAfter, IsReached, IsTopRunning, IsTurn, IsUntaken, IsUnturned, snapshot_of}
use Rattle.hep_state.proofs.Runs.{layout-stays}
use Rattle.hep_advance.proofs.RunsToBreakpoint.{one-behind, run-on}
use Rattle.hep_cells.specs.declared.want.Want.{Want}
use Rattle.hep_event.specs.declared.next_operation.NextOperation.{NextOperation}
use Rattle.hep_event.specs.NextOperations.{IsNextOperation}
use Rattle.hep_event.proofs.Answered.{comes}
use Rattle.hep_event.proofs.TopPositions.{settled-there, settled-turn, turn}
use Rattle.hep_explore.specs.Pure.{gives_value, is_pure, is_pure_operation, level_of_action, level_of_next, pure_value, stack_after_pure}
use Rattle.hep_explore.specs.Independence.{AreIndependentSteps}
use Rattle.hep_explore.specs.Successors.{IsPureAhead, MakesPureSteps}
use Rattle.hep_explore.proofs.Independence.{independent_more}
use Rattle.hep_explore.proofs.Paths.{machine_counts}
use Rattle.hep_explore.proofs.PlacedAlong.{pure_counts}
use Rattle.hep_explore.proofs.Pure.{pure_is, pure_step}
use Rattle.hep_explore.proofs.Turns.{some_isn't_none, turn_is}

-- ---- what comes next, by its operation

-- a result that is no fault is a value
some_ok : (x : Result Value Kind) → is_ok x ≡ true → is_some (result_ok x) ≡ true
some_ok (Ok v) is = refl
some_ok (Err k) is = absurd (true≢false (sym is))

-- what is made of a value is there
some_mapped : {A B : Type 0} (f : A → B) (o : Option A) → is_some o ≡ true → is_some (option_map f o) ≡ true
some_mapped f None is = is
some_mapped f (Some x) is = refl

-- a redex whose evaluation gives a value is pure
redex_is_pure : (variables : Name → Variable) (r : Redex) → gives_value (evaluation_of variables r) (operands_of_redex r) ≡ true
    → is_some (pure_value r) ≡ true
redex_is_pure variables (reading x) is = absurd (true≢false (sym is))
redex_is_pure variables (signing s v) is = some_ok _ is
redex_is_pure variables (negating v) is = refl
redex_is_pure variables (combining o v w) is = some_ok _ is
redex_is_pure variables (applying f vs) is = some_ok _ is
redex_is_pure variables (testing f x) is = absurd (true≢false (sym is))

module _ (addressed : AddressedUnit) (unit : List Statement) (level : Level) (operands : List Value) (index : ℕ) (o : Operation)
    (behind : List Instruction) (pure : is_pure_operation o operands ≡ true) where
  other : {P : Type 0} (p : Operation) → o ≡ p → is_pure_operation p operands ≡ false → P
  other p is isn't = absurd (true≢false (sym pure ∙ ap (λ q. is_pure_operation q operands) is ∙ isn't))

  of_redex : (r : Redex) → IsRedex addressed level.statement level.work operands index r o → is_some (pure_value r) ≡ true
  of_redex r is =
      let e = evaluation_of addressed.variables r in
      let front = in_front e operands is.before (operands_of_redex r) (arity_is addressed.variables r) is.operands_are in
      let last : drop (length operands - arity e) operands ≡ operands_of_redex r =
      ap (λ n. drop n operands) front ∙ ap (drop (length is.before)) is.operands_are ∙ drop-append_seam is.before (operands_of_redex r)
      in
      redex_is_pure addressed.variables r (
      ap (gives_value e) (sym last) ∙ ap (λ q. is_pure_operation q operands) (sym is.operation) ∙ pure)

  of_ending : (q : Option Variable) → o ≡ ending_of q → is_some (level_of_action unit level leaving) ≡ true
  of_ending None is = other (ending_of None) is refl
  of_ending (Some x) is = other (ending_of (Some x)) is refl

  of_action : (a : Action) → IsAction addressed level.statement level.work operands index a o behind
      → is_some (level_of_action unit level a) ≡ true
  of_action (assigning r v) is = other (operation_of addressed level.statement (assigning r v)) is.operation refl
  of_action (jumping l) is = refl
  of_action (choosing labels v) is = refl
  of_action (branching labels v) is = refl
  of_action (testing_condition v) is = refl
  of_action (entering_block v) is = refl
  of_action (entering_loop x m n k) is = other (operation_of addressed level.statement (entering_loop x m n k)) is.operation refl
  of_action (ending_loop d) is = other (operation_of addressed level.statement (ending_loop d)) is.operation refl
  of_action (calling x actuals) is = other (operation_of addressed level.statement (calling x actuals)) is.operation refl
  of_action (creating x actuals) is = other (operation_of addressed level.statement (creating x actuals)) is.operation refl
  of_action (purging targets) is = other (operation_of addressed level.statement (purging targets)) is.operation refl
  of_action (printing items) is = other (operation_of addressed level.statement (printing items)) is.operation refl
  of_action continuing is = refl
  of_action leaving is = of_ending (option_map addressed.variables (function_name addressed.unit)) is.operation
  of_action resuming is = other (operation_of addressed level.statement resuming) is.operation refl
  of_action stopping is = other (operation_of addressed level.statement stopping) is.operation refl

  pub of_next : (n : Next) → IsNext addressed level.statement level.work operands index n o behind
      → is_some (level_of_next unit level n) ≡ true
  of_next (wants (evaluating r)) is = some_mapped _ (pure_value r) (of_redex r is)
  of_next (wants (referring x actuals)) is = other (Refer (addressed.functions x) (length actuals)) is.operation refl
  of_next (does a) is = of_action a is

-- ---- of a process in a machine

module _ {program : Units} {cells : ℕ} {choices : List ℕ} {p : ℕ} (m : CoreState) (after : IsMachineAfter program cells choices m)
    (running : m.halted ≡ false) (levels : HasLevels (snapshot_of m) p) (c : NextOperation)
    (k : IsNextOperation (unit_addressed program levels.level.unit) levels.operands levels.level.index c)
    (runs : IsTopRunning (settled-turn m after running levels c k) (settled-there m after running levels c k)) where
  pub pure_ahead : is_pure_operation c.operation c.operands.items ≡ true → is_pure program p (run program choices) ≡ true
  pure_ahead pure =
      let s : State = run program choices in
      let t = turn m after running levels in
      let unit : List Statement = unit_at program (unit_of s t.0.0.activation) in
      let going : s.halted ≡ false = sym after.after.shows.halted ∙ running in
      let next = of_next _ unit t.0.0 c.operands.items k.index c.operation c.behind.now pure (next_of unit t.0.0.work) (
      comes m after running levels c k runs)
      in
      ap (λ h. if h then false else is_some (stack_after_pure program s (living s p))) going
      ∙ ap (λ top. is_some (stack_after_pure program s top)) t.1.lives
      ∙ some_mapped _ (level_of_next unit t.0.0 (next_of unit t.0.0.work)) next

-- ---- the machine after it

module _ (program : Units) (p : ℕ) where
  -- none is made
  pub no_pure_steps : (m : CoreState) → MakesPureSteps program p m 0 m
  no_pure_steps m =
      record {
        goes = λ cells before after.
            record { are_pure = tt; after = subst (λ cs. IsMachineAfter program cells cs m) (sym (append-nil before)) after };
        activations = refl;
        made = refl;
      }

  -- one is
  pub one_pure_step : (old new : CoreState) → IsReached program old → IsPureAhead program p old
      → ((cells : ℕ) (before : List ℕ) → IsMachineAfter program cells before old → IsMachineAfter program cells (before ++ p ∷ []) new)
      → MakesPureSteps program p old 1 new
  unfolding run_from
  one_pure_step old new (cells, before, after) pure later =
      let s : State = run program before in
      let is = pure cells before after in
      let one : AreIndependentSteps program (is_pure program) s (p ∷ []) = one_is s is in
      let counts = pure_counts program (p ∷ []) s one in
      let there : run program (before ++ p ∷ []) ≡ state_after_turn program p s = run-on program before (p ∷ []) in
      let first = machine_counts program cells before old after in
      let second = machine_counts program cells (before ++ p ∷ []) new (later cells before after) in
      record {
        goes = λ n choices led.
            record { are_pure = one_is (run program choices) (pure n choices led); after = later n choices led };
        activations = second.0 ∙ ap (λ (t : State). length t.activations) there ∙ ap length counts.0 ∙ sym first.0;
        made = second.1 ∙ ap (λ (t : State). length t.processes) there ∙ counts.1 ∙ sym first.1;
      }
    where
      one_is : (s : State) → is_pure program p s ≡ true → AreIndependentSteps program (is_pure program) s (p ∷ [])
      one_is s is = let pure = pure_is program p s is in (is, _, pure_step program p s pure, tt)

  -- and one more
  pub more_pure_steps : (old machine new : CoreState) (n : ℕ) → MakesPureSteps program p old n machine
      → MakesPureSteps program p machine 1 new → MakesPureSteps program p old (suc n) new
  more_pure_steps old machine new n first last =
      record {
        goes = λ cells before after.
            let some = first.goes cells before after in
            let one = last.goes cells (before ++ replicate n p) some.after in
            let order : (before ++ replicate n p) ++ p ∷ [] ≡ before ++ replicate (suc n) p =
            append_assoc before (replicate n p) (p ∷ []) ∙ ap (λ ps. before ++ ps) (one-behind n p)
            in
            record {
              are_pure = subst (AreIndependentSteps program (is_pure program) (run program before)) (one-behind n p) (
                  independent_more program (is_pure program) (replicate n p) (p ∷ []) (run program before) some.are_pure (
                  subst (λ t. AreIndependentSteps program (is_pure program) t (p ∷ [])) (run-on program before (replicate n p))
                  one.are_pure));
              after = subst (λ cs. IsMachineAfter program cells cs new) order one.after;
            };
        activations = last.activations ∙ first.activations;
        made = last.made ∙ first.made;
      }

  -- or no more
  pub then_no_more : (old machine new : CoreState) (n : ℕ) → MakesPureSteps program p old n machine → MakesPureSteps program p machine 0 new
      → MakesPureSteps program p old n new
  then_no_more old machine new n first last =
      record {
        goes = λ cells before after.
            let some = first.goes cells before after in
            record {
              are_pure = some.are_pure;
              after = subst (λ cs. IsMachineAfter program cells cs new) (append-nil (before ++ replicate n p)) (
                  last.goes cells (before ++ replicate n p) some.after).after;
            };
        activations = last.activations ∙ first.activations;
        made = last.made ∙ first.made;
      }

  -- ---- by its turn

  module _ (old : CoreState) (reached : IsReached program old) (pure : IsPureAhead program p old) where
    pub pure_stepped : (taken : TurnOutcome) (new : CoreState) → IsTurn program p old taken new → (changed : Option Want)
        → taken ≡ Stepped changed → MakesPureSteps program p old 1 new
    pure_stepped taken new is changed e =
        one_pure_step old new reached pure (
        λ cells before after. (subst (λ t. HasTurned program cells before p t new) e (is cells before after)).1)

    pub pure_purged : (taken : TurnOutcome) (new : CoreState) → IsTurn program p old taken new → taken ≡ Purged
        → MakesPureSteps program p old 1 new
    pure_purged taken new is e =
        one_pure_step old new reached pure (
        λ cells before after. (subst (λ t. HasTurned program cells before p t new) e (is cells before after)).1)

    -- it doesn't wait
    pub pure_waits : (taken : TurnOutcome) (new : CoreState) → IsTurn program p old taken new → (want : Want) → taken ≡ Waits want → ⊥
    pure_waits taken new is want e =
        let cells = reached.0 in
        let before = reached.1 in
        let s : State = run program before in
        let waits = subst (λ t. HasTurned program cells before p t new) e (is cells before reached.2) in
        some_isn't_none (pure_step program p s (pure_is program p s (pure cells before reached.2))) (
        waits-idle program p s (ap is_some waits.0.waits))

    -- and makes no activation, for which there might be no gap
    pub pure_full : (fault : TurnFault) → fault ≡ ArenaFull → IsUntaken program p old fault → ⊥
    pure_full fault e is =
        let cells = reached.0 in
        let before = reached.1 in
        let s : State = run program before in
        let step = pure_is program p s (pure cells before reached.2) in
        let turned = turn_is program p s _ (pure_step program p s step) in
        let none = subst (λ f. IsUnturned f program cells before p) e (is cells before reached.2) in
        let after = reached.2.after in
        none-some _ (
        sym none.full ∙ layout-stays program cells before p after.layout after.laid (ap (λ (t : State). t.activations) turned))
