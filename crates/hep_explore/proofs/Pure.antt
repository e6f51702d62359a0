-- Pure steps are independent.
use Rattle.std.proofs.Common.{◌≡◌, ◌≢◌, inl, inr, ℕ, zero, suc, ◌<◌, ◌≤◌, Bool, true, false, ◌||◌, if◌then◌else◌, List, [], ◌∷◌, length}
use Rattle.std.proofs.Common.{map, Option, Some, None, is_some, Result, Ok, Err, refl, sym, ap, ◌∙◌, subst, arith, slice_get}
use Rattle.std.specs.Option.{option_map, unwrap_or}
use Rattle.std.specs.Result.{result_ok}
use Rattle.std.proofs.lemmas.Option.{none-some, same_Some}
use Rattle.hep_machine.specs.declared.event.Kind.{Kind}
use Rattle.hep_machine.specs.Words.{Action, IsOnStack, Level, Next, Process, RedexOrReference, State, Store, Top, Units, Value, answer_of}
use Rattle.hep_machine.specs.Words.{continuing, combined_value, function_value, negated_value, signed_value, process_views_from, Scope}
use Rattle.hep_machine.specs.Words.{Redex, applying, combining, negating, plug_work, signing, does, evaluating, jumping, choosing}
use Rattle.hep_machine.specs.Words.{branching, testing_condition, entering_block, wants, referring, activations_on, is_number_among, living}
use Rattle.hep_machine.specs.Words.{next_of, no_activation, numbered, result_after_action, result_after_answer, result_after_next, scope_of}
use Rattle.hep_machine.specs.Words.{step, step_result_of, step_result_of_top, stepped, top_of, unit_at, unit_of, unit_on_top, with_process}
use Rattle.hep_machine.specs.Words.{IsSameOrOneMore}
use Rattle.hep_machine.specs.Step.{gives, by_result, result_after_sought, state_with_level}
use Rattle.hep_machine.proofs.Ages.{IsAged, aged, on_stack_made}
use Rattle.hep_machine.proofs.Others.{activations_after, front_numbered, others_stay, step-is}
use Rattle.hep_source.proofs.Tests.{number-self}
use Rattle.hep_explore.specs.Endings.{Blocked, IsReachable, blocked_of, ending_of}
use Rattle.hep_explore.specs.Pure.{is_pure, level_of_action, level_of_next, level_of_sought, pure_value, stack_after_pure, stack_in_unit}
use Rattle.hep_explore.specs.Independence.{AreIndependent}
use Rattle.hep_explore.proofs.Stacks.{moved, step_moved}
use Rattle.hep_explore.proofs.Turns.{some_isn't_none, turn_is}

-- ---- what such a step leads to

-- what a pure redex gives, it gives with the store as it was
ok_result : (x : Result Value Kind) (v : Value) (store : Store) → result_ok x ≡ Some v → by_result x store ≡ gives v store
ok_result (Ok w) v store e = ap (λ y. gives y store) (same_Some w v e)
ok_result (Err k) v store e = absurd (none-some v e)

-- so the answer of such a redex is its value
pure_answer : (scope : Scope) (store : Store) (r : Redex) (v : Value) → pure_value r ≡ Some v → answer_of scope store r ≡ gives v store
pure_answer scope store (signing s w) v e = ok_result (signed_value s w) v store e
pure_answer scope store (negating w) v e = ok_result (negated_value w) v store e
pure_answer scope store (combining o w z) v e = ok_result (combined_value o w z) v store e
pure_answer scope store (applying f ws) v e = ok_result (function_value f ws) v store e
pure_answer scope store r v e = absurd (none-some v e)

module _ (program : Units) where
  of_redex : (t : Top) (r : Redex) (level : Level) (o : Option Value) → pure_value r ≡ o
      → option_map (λ v. record t.level { work = plug_work (unit_on_top program t) t.level.work v }) o ≡ Some level
      → result_after_sought program t (evaluating r) ≡ stepped (state_with_level t level)
  of_redex t r level None e f = absurd (none-some level f)
  of_redex t r level (Some v) e f =
      ap (result_after_answer program t) (pure_answer (scope_of program t.state t.level.activation) t.state.store r v e)
      ∙ ap (λ l. stepped (state_with_level t l)) (
      same_Some (record t.level { work = plug_work (unit_on_top program t) t.level.work v }) level f)

  of_sought : (t : Top) (x : RedexOrReference) (level : Level) → level_of_sought (unit_on_top program t) t.level x ≡ Some level
      → result_after_sought program t x ≡ stepped (state_with_level t level)
  of_sought t (evaluating r) level e = of_redex t r level (pure_value r) refl e
  of_sought t (referring x actuals) level e = absurd (none-some level e)

  of_action : (t : Top) (a : Action) (level : Level) → level_of_action (unit_on_top program t) t.level a ≡ Some level
      → result_after_action program t a ≡ stepped (state_with_level t level)
  of_action t (jumping l) level e = ap (λ l. stepped (state_with_level t l)) (same_Some _ level e)
  of_action t (choosing labels v) level e = ap (λ l. stepped (state_with_level t l)) (same_Some _ level e)
  of_action t (branching labels v) level e = ap (λ l. stepped (state_with_level t l)) (same_Some _ level e)
  of_action t (testing_condition v) level e = ap (λ l. stepped (state_with_level t l)) (same_Some _ level e)
  of_action t (entering_block v) level e = ap (λ l. stepped (state_with_level t l)) (same_Some _ level e)
  of_action t continuing level e = ap (λ l. stepped (state_with_level t l)) (same_Some _ level e)
  of_action t a level e = absurd (none-some level e)

  of_next : (t : Top) (n : Next) (level : Level) → level_of_next (unit_on_top program t) t.level n ≡ Some level
      → result_after_next program t n ≡ stepped (state_with_level t level)
  of_next t (wants x) level e = of_sought t x level e
  of_next t (does a) level e = of_action t a level e

  of_level : (q : ℕ) (s : State) (top : Level × Process) (stack : Process) (o : Option Level)
      → level_of_next (unit_at program (unit_of s top.0.activation)) top.0
      (next_of (unit_at program (unit_of s top.0.activation)) top.0.work) ≡ o
      → option_map (λ level. level ∷ top.1) o ≡ Some stack → step_result_of_top program s q (Some top) ≡ stepped (with_process s q stack)
  of_level q s top stack None e f = absurd (none-some stack f)
  of_level q s top stack (Some level) e f =
      of_next (record { state = s; process = q; level = top.0; below = top.1 }) (
      next_of (unit_at program (unit_of s top.0.activation)) top.0.work) level e
      ∙ ap (λ k. stepped (with_process s q k)) (same_Some (level ∷ top.1) stack f)

  of_stack : (q : ℕ) (s : State) (top : Option (Level × Process)) (stack : Process) → stack_after_pure program s top ≡ Some stack
      → step_result_of_top program s q top ≡ stepped (with_process s q stack)
  of_stack q s None stack e = absurd (none-some stack e)
  of_stack q s (Some top) stack e = of_level q s top stack _ refl e

  -- ---- one that comes next

  pub record IsPure (q : ℕ) (s : State) : Type 0 where
    pub going : s.halted ≡ false
    pub stack : Process
    pub after : stack_after_pure program s (living s q) ≡ Some stack

  pub pure_is : (q : ℕ) (s : State) → is_pure program q s ≡ true → IsPure q s
  pure_is q s e = by_halted s.halted refl e where
    by_stack : s.halted ≡ false → (o : Option Process) → stack_after_pure program s (living s q) ≡ o → is_some o ≡ true → IsPure q s
    by_stack going None f g = absurd cc
    by_stack going (Some stack) f g = record { going = going; stack = stack; after = f }

    by_halted : (h : Bool) → s.halted ≡ h → (if h then false else is_some (stack_after_pure program s (living s q))) ≡ true → IsPure q s
    by_halted true f g = absurd cc
    by_halted false f g = by_stack f (stack_after_pure program s (living s q)) refl g

  is_so : (q : ℕ) (s : State) → IsPure q s → is_pure program q s ≡ true
  is_so q s pure = ap (λ h. if h then false else is_some (stack_after_pure program s (living s q))) pure.going ∙ ap is_some pure.after

  pub pure_step : (q : ℕ) (s : State) (pure : IsPure q s) → step program q s ≡ Some (moved q pure.stack s)
  unfolding step_result_of
  pure_step q s pure = step-is program q s (with_process s q pure.stack) pure.going (of_stack q s (living s q) pure.stack pure.after)

  -- ---- its process is there

  pub top_there : (o : Option Process) (top : Level × Process) → top_of o ≡ Some top → o ≡ Some (top.0 ∷ top.1)
  top_there None top e = absurd (none-some top e)
  top_there (Some []) top e = absurd (none-some top e)
  top_there (Some (l ∷ ls)) top e = ap (λ (t : Level × Process). Some (t.0 ∷ t.1)) (same_Some (l, ls) top e)

  some_within : {A : Type 0} (xs : List A) (i : ℕ) (x : A) → slice_get xs i ≡ Some x → i < length xs
  some_within [] i x e = absurd (none-some x e)
  some_within (y ∷ ys) zero x e = omega arith
  some_within (y ∷ ys) (suc i) x e = let rest = some_within ys i x e in omega arith

  pub number_within : {A : Type 0} (xs : List A) (q : ℕ) (x : A) → numbered xs q ≡ Some x → (1 ≤ q) × (q ≤ length xs)
  number_within xs zero x e = absurd (none-some x e)
  number_within xs (suc i) x e = let within = some_within xs i x e in (omega arith, omega arith)

  on_top : (q : ℕ) (s : State) (top : Level × Process) → living s q ≡ Some top → IsOnStack s top.0.activation
  on_top q s top e = (
    q,
    top.0 ∷ top.1,
    top_there (numbered s.processes q) top e,
    ap (λ b. b || is_number_among top.0.activation (activations_on top.1)) (number-self top.0.activation),
  )

  module _ (p q : ℕ) (s t : State) (way : IsReachable program s) (d : p ≢ q) (e : step program p s ≡ Some t) where
    same_unit : (top : Level × Process) → living s q ≡ Some top → unit_of t top.0.activation ≡ unit_of s top.0.activation
    same_unit top lives = by_more grown where
      grown : IsSameOrOneMore s.activations t.activations
      grown = subst (λ u. IsSameOrOneMore s.activations u.activations) (turn_is program p s t e) (activations_after program p s)

      within : top.0.activation ≤ length s.activations
      within = (on_stack_made s top.0.activation (subst IsAged way.1 (aged program way.0)) (on_top q s top lives)).1

      by_more : IsSameOrOneMore s.activations t.activations → unit_of t top.0.activation ≡ unit_of s top.0.activation
      by_more (inl same) = ap (λ xs. (unwrap_or (numbered xs top.0.activation) no_activation).unit) same
      by_more (inr more) =
          ap (λ xs. (unwrap_or (numbered xs top.0.activation) no_activation).unit) more.1
          ∙ ap (λ o. (unwrap_or o no_activation).unit) (front_numbered s.activations (more.0 ∷ []) top.0.activation within)

    same_stack : (top : Option (Level × Process)) (stack : Process) → living s q ≡ top → stack_after_pure program s top ≡ Some stack
        → (living t q ≡ living s q) × (stack_after_pure program t top ≡ stack_after_pure program s top)
    same_stack None stack lives f = absurd (none-some stack f)
    same_stack (Some top) stack lives f =
        let there = number_within s.processes q (top.0 ∷ top.1) (top_there (numbered s.processes q) top lives) in
        (ap top_of (others_stay program p q s t e d there.1), ap (λ u. stack_in_unit (unit_at program u) top) (same_unit top lives))

    still : (pure : IsPure q s) → t.halted ≡ false → (later : IsPure q t) × (later.stack ≡ pure.stack)
    still pure going =
        let same = same_stack (living s q) pure.stack refl pure.after in
        (record { going = going; stack = pure.stack; after = ap (stack_after_pure program t) same.0 ∙ same.1 ∙ pure.after }, refl)

    -- another process makes the same step before and after it
    pub beside : (pure : IsPure q s) → step program p (moved q pure.stack s) ≡ Some (moved q pure.stack t)
    beside pure = by_top (living s q) refl pure.after where
      by_top : (top : Option (Level × Process)) → living s q ≡ top → stack_after_pure program s top ≡ Some pure.stack
          → step program p (moved q pure.stack s) ≡ Some (moved q pure.stack t)
      by_top None lives f = absurd (none-some pure.stack f)
      by_top (Some top) lives f =
          let there = number_within s.processes q (top.0 ∷ top.1) (top_there (numbered s.processes q) top lives) in
          step_moved program p q pure.stack s there.0 d there.1 ∙ ap (option_map (moved q pure.stack)) e

  -- ---- they are independent

  pub made_is : (q : ℕ) (s u : State) (pure : IsPure q s) → step program q s ≡ Some u → moved q pure.stack s ≡ u
  made_is q s u pure e = same_Some (moved q pure.stack s) u (sym (pure_step q s pure) ∙ e)

  stopped_alike : (q : ℕ) (stack : Process) (t : State) → t.halted ≡ true → ending_of program (moved q stack t) ≡ ending_of program t
  stopped_alike q stack t halted =
      let none : (xs : List Blocked) → (if t.halted then [] else xs) ≡ [] = λ xs. ap (λ h. if h then [] else xs) halted in
      let left : State → List Blocked = λ s. map (blocked_of s) (process_views_from program s 1 s.processes) in
      ap (λ ps. record { records = t.records; faults = t.faults; halted = t.halted; blocked = ps }) (
      none (left (moved q stack t)) ∙ sym (none (left t)))

  pub pure_are_independent : AreIndependent program (is_pure program)
  pure_are_independent =
      record {
        is_there = λ q s way is. some_isn't_none (pure_step q s (pure_is q s is));
        stays = λ p q s t by going. is_so q t (still p q s t by.reachable by.other by.stepped (pure_is q s by.is_independent) going).0;
        commutes = λ p q s t u by going made.
            let pure = pure_is q s by.is_independent in
            let later = still p q s t by.reachable by.other by.stepped pure going in (
              moved q pure.stack t,
              subst (λ k. step program q t ≡ Some (moved q k t)) later.1 (pure_step q t later.0),
              subst (λ v. step program p v ≡ Some (moved q pure.stack t)) (made_is q s u pure made) (
                  beside p q s t by.reachable by.other by.stepped pure),
            );
        stops = λ p q s t u by halted made.
            let pure = pure_is q s by.is_independent in (
              moved q pure.stack t,
              subst (λ v. step program p v ≡ Some (moved q pure.stack t)) (made_is q s u pure made) (
                  beside p q s t by.reachable by.other by.stepped pure),
              stopped_alike q pure.stack t halted,
            );
      }
