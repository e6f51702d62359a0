-- A step of one process is the same wherever another process is; and a process that lives makes a step or waits.
use Rattle.std.proofs.Common.{◌≡◌, ◌≢◌, ℕ, zero, suc, ◌-◌, ◌<◌, ◌≤◌, Bool, true, false, if◌then◌else◌, List, [], ◌∷◌, ◌++◌, length, is_some}
use Rattle.std.proofs.Common.{length-set, Option, Some, None, Result, Ok, Err, refl, sym, ap, ◌∙◌, arith, slice_set, ℤ, ◌-ℤ◌, ◌+ℤ◌, pos}
use Rattle.std.specs.Option.{option_map}
use Rattle.hep_machine.specs.declared.event.Kind.{Kind}
use Rattle.hep_machine.specs.Words.{Action, Binding, Level, Location, Loop, Name, Next, Process, State, Store, StepResult, RedexOrReference}
use Rattle.hep_machine.specs.Words.{Top, Units, Value, absent, answer_of, evaluating, referring, integer_of, integer_or_overflow, assigning}
use Rattle.hep_machine.specs.Words.{branching, calling, choosing, continuing, creating, does, ending_loop, entering_block, entering_loop}
use Rattle.hep_machine.specs.Words.{jumping, leaving, printing, purging, resuming, stopping, testing_condition, wants, next_of, living}
use Rattle.hep_machine.specs.Words.{step, step_result_of, step_result_of_top, state_made, stepped, waiting, with_numbered, with_process}
use Rattle.hep_machine.specs.Words.{top_of, unit_at, unit_of, Answer, fails, answer_at, binding_of, function_name, function_unit}
use Rattle.hep_machine.specs.Words.{iterations, level_after_statement, location_of_name, loop_at, result_after_action, result_after_answer}
use Rattle.hep_machine.specs.Words.{result_after_assignment, result_after_call, result_after_create, result_after_do}
use Rattle.hep_machine.specs.Words.{result_after_increment, result_after_leaving, result_after_loop_end, result_after_loop_variable}
use Rattle.hep_machine.specs.Words.{result_after_next, result_after_purge, result_after_result, result_after_value, result_after_write}
use Rattle.hep_machine.specs.Words.{scope_of, state_resumed, store_after_purge, unit_called, unit_on_top, variable_of, written, is_waiting}
use Rattle.hep_machine.specs.Words.{wanted_of}
use Rattle.hep_machine.specs.Step.{gives, waits, fault_of, result_after_fault, result_after_sought, stack_after_return, stack_after_value}
use Rattle.hep_machine.specs.Step.{state_after_count, state_with_level, state_with_store, with_activation, entry_level, next_activation}
use Rattle.hep_machine.specs.Step.{level_after_count}
use Rattle.hep_machine.specs.Storage.{with_value}
use Rattle.hep_machine.specs.Processes.{with_loop}
use Rattle.hep_machine.specs.Evaluation.{plug_work}
use Rattle.hep_machine.specs.Arithmetic.{logical_of}
use Rattle.hep_machine.specs.Control.{label_by_sign, label_chosen, level_after_condition, level_at_choice, level_at_label, level_in_block}
use Rattle.hep_machine.specs.declared.event.Kind.TheVariants.{Undefined}
use Rattle.hep_source.specs.declared.value.Value.TheVariants.{Int}
use Rattle.hep_machine.proofs.Others.{lives_from_one, other_numbered}

-- ---- lists

-- two elements may be set in both orders
set_others : {A : Type 0} (xs : List A) (i j : ℕ) (x y : A) → i ≢ j → slice_set (slice_set xs i x) j y ≡ slice_set (slice_set xs j y) i x
set_others [] i j x y d = refl
set_others (z ∷ zs) zero zero x y d = absurd (d refl)
set_others (z ∷ zs) zero (suc j) x y d = refl
set_others (z ∷ zs) (suc i) zero x y d = refl
set_others (z ∷ zs) (suc i) (suc j) x y d = ap (λ ws. z ∷ ws) (set_others zs i j x y (λ e. d (ap suc e)))

-- an element of the front is set in the front
set_front : {A : Type 0} (xs ys : List A) (i : ℕ) (x : A) → i < length xs → slice_set (xs ++ ys) i x ≡ slice_set xs i x ++ ys
set_front [] ys i x h = absurd (omega arith)
set_front (z ∷ zs) ys zero x h = refl
set_front (z ∷ zs) ys (suc i) x h = ap (λ ws. z ∷ ws) (set_front zs ys i x (omega arith))

-- so may two elements by number
number_others : {A : Type 0} (xs : List A) (p q : ℕ) (x y : A) → 1 ≤ p → 1 ≤ q → p ≢ q
    → with_numbered (with_numbered xs q y) p x ≡ with_numbered (with_numbered xs p x) q y
number_others xs p q x y one two d = set_others xs (q - 1) (p - 1) y x (λ e. d (omega arith))

-- ---- another process stands elsewhere

abbrev pub moved : ℕ → Process → State → State
moved q r s = with_process s q r

abbrev pub moved_result : ℕ → Process → StepResult → StepResult
moved_result q r (stepped s) = stepped (moved q r s)
moved_result q r (waiting w) = waiting w
moved_result q r absent = absent

abbrev moved_top : ℕ → Process → Top → Top
moved_top q r t = record t { state = moved q r t.state }

-- q is another process than that of the step
record IsOther (q : ℕ) (t : Top) : Type 0 where
  one : 1 ≤ t.process
  two : 1 ≤ q
  other : t.process ≢ q
  made : q ≤ length t.state.processes

module _ (program : Units) (q : ℕ) (r : Process) (t : Top) (is : IsOther q t) where
  both : (z : Process) → with_numbered (with_numbered t.state.processes q r) t.process z
      ≡ with_numbered (with_numbered t.state.processes t.process z) q r
  both z = number_others t.state.processes t.process q z r is.one is.two is.other

  both_and : (z n : Process)
      → with_numbered (with_numbered t.state.processes q r) t.process z ++ n ∷ []
      ≡ with_numbered (with_numbered t.state.processes t.process z ++ n ∷ []) q r
  both_and z n =
      let one = is.two in
      let two = is.made in
      let within : q - 1 < length (with_numbered t.state.processes t.process z) = rw length-set (omega arith) in
      ap (λ ps. ps ++ n ∷ []) (both z) ∙ sym (set_front (with_numbered t.state.processes t.process z) (n ∷ []) (q - 1) r within)

  of_fault : (k : Kind) → result_after_fault program (moved_top q r t) k ≡ moved_result q r (result_after_fault program t k)
  of_fault k = ap (λ ps. stepped (record t.state { faults = t.state.faults ++ fault_of program t k ∷ []; processes = ps })) (both [])

  of_level : (level : Level) → stepped (state_with_level (moved_top q r t) level) ≡ moved_result q r (stepped (state_with_level t level))
  of_level level = ap (λ ps. stepped (record t.state { processes = ps })) (both (level ∷ t.below))

  of_store : (store : Store) (level : Level)
      → stepped (state_with_store (moved_top q r t) store level) ≡ moved_result q r (stepped (state_with_store t store level))
  of_store store level = ap (λ ps. stepped (record t.state { processes = ps; store = store })) (both (level ∷ t.below))

  of_answer : (a : Answer) → result_after_answer program (moved_top q r t) a ≡ moved_result q r (result_after_answer program t a)
  of_answer (gives v store) = of_store store (record t.level { work = plug_work (unit_on_top program t) t.level.work v })
  of_answer (waits w) = refl
  of_answer (fails k) = of_fault k

  of_write : (level : Level) (a : Answer)
      → result_after_write program (moved_top q r t) level a ≡ moved_result q r (result_after_write program t level a)
  of_write level (gives v store) = of_store store level
  of_write level (waits w) = refl
  of_write level (fails k) = of_fault k

  of_assignment : (asynchronous : Bool) (at : Result Location Kind) (v : Value)
      → result_after_assignment program (moved_top q r t) asynchronous at v
      ≡ moved_result q r (result_after_assignment program t asynchronous at v)
  of_assignment asynchronous (Err k) v = of_fault k
  of_assignment asynchronous (Ok at) v =
      of_write (level_after_statement (unit_on_top program t) t.level) (
      answer_at t.state.store at (written asynchronous v (t.state.store at)))

  of_purge : (store : Result Store Kind)
      → result_after_purge program (moved_top q r t) store ≡ moved_result q r (result_after_purge program t store)
  of_purge (Err k) = of_fault k
  of_purge (Ok store) = of_store store (level_after_statement (unit_on_top program t) t.level)

  of_count : (d : ℕ) (at : Location) (value count increment : ℤ)
      → stepped (state_after_count program (moved_top q r t) d at value count increment)
      ≡ moved_result q r (stepped (state_after_count program t d at value count increment))
  of_count d at value count increment =
      of_store (with_value t.state.store at (Some (Int value))) (
      level_after_count (unit_on_top program t) (
      record t.level { loops = with_loop t.level.loops (record { statement = d; count = count; increment = increment }) }) d count)

  of_do : (at : Result Location Kind) (m increment : ℤ) (count : Result ℤ Kind)
      → result_after_do program (moved_top q r t) at m increment count ≡ moved_result q r (result_after_do program t at m increment count)
  of_do at m increment (Err k) = of_fault k
  of_do (Err k) m increment (Ok count) = of_fault k
  of_do (Ok at) m increment (Ok count) = of_count t.level.statement at m count increment

  of_increment : (l : Loop) (at : Location) (z : Result ℤ Kind)
      → result_after_increment program (moved_top q r t) l at z ≡ moved_result q r (result_after_increment program t l at z)
  of_increment l at (Err k) = of_fault k
  of_increment l at (Ok z) = of_count l.statement at z (l.count -ℤ pos 1) l.increment

  of_variable : (l : Loop) (at : Location) (v : Option Value)
      → result_after_loop_variable program (moved_top q r t) l at v ≡ moved_result q r (result_after_loop_variable program t l at v)
  of_variable l at None = of_fault Undefined
  of_variable l at (Some v) = of_increment l at (integer_or_overflow (integer_of v +ℤ l.increment))

  of_loop_end : (l : Loop) (at : Result Location Kind)
      → result_after_loop_end program (moved_top q r t) l at ≡ moved_result q r (result_after_loop_end program t l at)
  of_loop_end l (Err k) = of_fault k
  of_loop_end l (Ok at) = of_variable l at (t.state.store at).value

  of_call : (u : ℕ) (b : Result Binding Kind)
      → result_after_call program (moved_top q r t) u b ≡ moved_result q r (result_after_call program t u b)
  of_call u (Err k) = of_fault k
  of_call u (Ok b) =
      ap (λ ps. stepped (record (with_activation t u b) { processes = ps })) (
      both (entry_level (unit_at program u) (next_activation t.state) ∷ (t.level ∷ t.below)))

  of_create : (u : ℕ) (b : Result Binding Kind)
      → result_after_create program (moved_top q r t) u b ≡ moved_result q r (result_after_create program t u b)
  of_create u (Err k) = of_fault k
  of_create u (Ok b) =
      ap (λ ps. stepped (record (with_activation t u b) { processes = ps })) (
      both_and (level_after_statement (unit_on_top program t) t.level ∷ t.below) (
      entry_level (unit_at program u) (next_activation t.state) ∷ []))

  of_value : (v : Option Value) → result_after_value program (moved_top q r t) v ≡ moved_result q r (result_after_value program t v)
  of_value None = of_fault Undefined
  of_value (Some v) = ap (λ ps. stepped (record t.state { processes = ps })) (both_below v t.below) where
    same_below : (v : Value) (below : Process)
        → stack_after_value program (moved q r t.state) v below ≡ stack_after_value program t.state v below
    same_below v [] = refl
    same_below v (level ∷ levels) = refl

    both_below : (v : Value) (below : Process)
        → with_numbered (with_numbered t.state.processes q r) t.process (stack_after_value program (moved q r t.state) v below)
        ≡ with_numbered (with_numbered t.state.processes t.process (stack_after_value program t.state v below)) q r
    both_below v below =
        ap (with_numbered (with_numbered t.state.processes q r) t.process) (same_below v below)
        ∙ both (stack_after_value program t.state v below)

  same_return : (below : Process) → stack_after_return program (moved q r t.state) below ≡ stack_after_return program t.state below
  same_return [] = refl
  same_return (level ∷ levels) = refl

  of_result : (at : Result Location Kind)
      → result_after_result program (moved_top q r t) at ≡ moved_result q r (result_after_result program t at)
  of_result (Err k) = of_fault k
  of_result (Ok at) = of_value (t.state.store at).value

  of_leaving : (x : Option Name) → result_after_leaving program (moved_top q r t) x ≡ moved_result q r (result_after_leaving program t x)
  of_leaving None =
      ap (λ ps. stepped (record t.state { processes = ps })) (
      ap (with_numbered (with_numbered t.state.processes q r) t.process) (same_return t.below)
      ∙ both (stack_after_return program t.state t.below))
  of_leaving (Some x) = of_result (location_of_name (scope_of program t.state t.level.activation) x [])

  of_resuming : (below : Process)
      → stepped (state_resumed program (moved_top q r t) below) ≡ moved_result q r (stepped (state_resumed program t below))
  of_resuming [] = of_level (level_after_statement (unit_on_top program t) t.level)
  of_resuming (caller ∷ callers) =
      ap (λ ps. stepped (record t.state { processes = ps })) (
      ap (λ z. with_numbered (with_numbered t.state.processes q r) t.process z
      ++ (level_after_statement (unit_on_top program t) t.level ∷ []) ∷ []) (same_return (caller ∷ callers))
      ∙ both_and (stack_after_return program t.state (caller ∷ callers)) (level_after_statement (unit_on_top program t) t.level ∷ []))

  of_action : (a : Action) → result_after_action program (moved_top q r t) a ≡ moved_result q r (result_after_action program t a)
  of_action (assigning x v) = of_assignment x.0.asynchronous (location_of_name (scope_of program t.state t.level.activation) x.0 x.1) v
  of_action (jumping l) = of_level (level_at_label (unit_on_top program t) t.level l)
  of_action (choosing labels v) = of_level (level_at_choice (unit_on_top program t) t.level (label_chosen labels (integer_of v)))
  of_action (branching labels v) = of_level (level_at_label (unit_on_top program t) t.level (label_by_sign labels (integer_of v)))
  of_action (testing_condition v) = of_level (level_after_condition (unit_on_top program t) t.level (logical_of v))
  of_action (entering_block v) = of_level (level_in_block (unit_on_top program t) t.level (logical_of v))
  of_action (entering_loop x m n k) =
      of_do (location_of_name (scope_of program t.state t.level.activation) x []) (integer_of m) (integer_of k) (
      iterations (integer_of m) (integer_of n) (integer_of k))
  of_action (ending_loop d) =
      of_loop_end (loop_at t.level.loops d) (
      location_of_name (scope_of program t.state t.level.activation) (variable_of (unit_on_top program t) d) [])
  of_action (calling x actuals) = of_call (unit_called program x) (binding_of program t (unit_called program x) actuals)
  of_action (creating x actuals) = of_create (unit_called program x) (binding_of program t (unit_called program x) actuals)
  of_action (purging targets) = of_purge (store_after_purge (scope_of program t.state t.level.activation) targets t.state.store)
  of_action (printing items) =
      ap (λ ps. stepped (record t.state { records = t.state.records ++ items ∷ []; processes = ps })) (
      both (level_after_statement (unit_on_top program t) t.level ∷ t.below))
  of_action continuing = of_level (level_after_statement (unit_on_top program t) t.level)
  of_action leaving = of_leaving (function_name (unit_on_top program t))
  of_action resuming = of_resuming t.below
  of_action stopping = refl

  of_sought : (x : RedexOrReference) → result_after_sought program (moved_top q r t) x ≡ moved_result q r (result_after_sought program t x)
  of_sought (evaluating e) = of_answer (answer_of (scope_of program t.state t.level.activation) t.state.store e)
  of_sought (referring x actuals) = of_call (function_unit program x) (binding_of program t (function_unit program x) actuals)

  of_next : (n : Next) → result_after_next program (moved_top q r t) n ≡ moved_result q r (result_after_next program t n)
  of_next (wants x) = of_sought x
  of_next (does a) = of_action a

-- ---- a step of another process

module _ (program : Units) (p q : ℕ) (r : Process) (s : State) (one : 1 ≤ q) (d : p ≢ q) (made : q ≤ length s.processes) where
  same_living : living (moved q r s) p ≡ living s p
  same_living = ap top_of (other_numbered s.processes q p r one (λ e. d (sym e)))

  of_top : (top : Option (Level × Process)) → living s p ≡ top
      → step_result_of_top program (moved q r s) p top ≡ moved_result q r (step_result_of_top program s p top)
  of_top None e = refl
  of_top (Some top) e =
      let lives : 1 ≤ p = lives_from_one s p (λ n. absurd cc) in
      let t : Top = record { state = s; process = p; level = top.0; below = top.1 } in
      of_next program q r t (record { one = lives; two = one; other = d; made = made }) (
      next_of (unit_at program (unit_of s top.0.activation)) top.0.work)

  of_result_of : step_result_of program p (moved q r s) ≡ moved_result q r (step_result_of program p s)
  unfolding step_result_of
  of_result_of = ap (step_result_of_top program (moved q r s) p) same_living ∙ of_top (living s p) refl

  state_moved : (x : StepResult) → state_made (moved_result q r x) ≡ option_map (moved q r) (state_made x)
  state_moved (stepped u) = refl
  state_moved (waiting w) = refl
  state_moved absent = refl

  pub step_moved : step program p (moved q r s) ≡ option_map (moved q r) (step program p s)
  step_moved = by_halted s.halted where
    by_halted : (h : Bool)
        → (if h then None else state_made (step_result_of program p (moved q r s)))
        ≡ option_map (moved q r) (if h then None else state_made (step_result_of program p s))
    by_halted true = refl
    by_halted false = ap state_made of_result_of ∙ state_moved (step_result_of program p s)

-- ---- a process that lives makes a step or waits

-- a step is made, or waited for
abbrev IsMadeOrWaits : StepResult → Type 0
IsMadeOrWaits absent = ⊥
IsMadeOrWaits x = Unit {0}

module _ (program : Units) (t : Top) where
  made-answer : (a : Answer) → IsMadeOrWaits (result_after_answer program t a)
  made-answer (gives v store) = tt
  made-answer (waits w) = tt
  made-answer (fails k) = tt

  made-write : (level : Level) (a : Answer) → IsMadeOrWaits (result_after_write program t level a)
  made-write level (gives v store) = tt
  made-write level (waits w) = tt
  made-write level (fails k) = tt

  made-assignment : (asynchronous : Bool) (at : Result Location Kind) (v : Value)
      → IsMadeOrWaits (result_after_assignment program t asynchronous at v)
  made-assignment asynchronous (Err k) v = tt
  made-assignment asynchronous (Ok at) v =
      made-write (level_after_statement (unit_on_top program t) t.level) (
      answer_at t.state.store at (written asynchronous v (t.state.store at)))

  made-purge : (store : Result Store Kind) → IsMadeOrWaits (result_after_purge program t store)
  made-purge (Err k) = tt
  made-purge (Ok store) = tt

  made-do : (at : Result Location Kind) (m increment : ℤ) (count : Result ℤ Kind)
      → IsMadeOrWaits (result_after_do program t at m increment count)
  made-do at m increment (Err k) = tt
  made-do (Err k) m increment (Ok count) = tt
  made-do (Ok at) m increment (Ok count) = tt

  made-increment : (l : Loop) (at : Location) (z : Result ℤ Kind) → IsMadeOrWaits (result_after_increment program t l at z)
  made-increment l at (Err k) = tt
  made-increment l at (Ok z) = tt

  made-variable : (l : Loop) (at : Location) (v : Option Value) → IsMadeOrWaits (result_after_loop_variable program t l at v)
  made-variable l at None = tt
  made-variable l at (Some v) = made-increment l at (integer_or_overflow (integer_of v +ℤ l.increment))

  made-loop_end : (l : Loop) (at : Result Location Kind) → IsMadeOrWaits (result_after_loop_end program t l at)
  made-loop_end l (Err k) = tt
  made-loop_end l (Ok at) = made-variable l at (t.state.store at).value

  made-call : (u : ℕ) (b : Result Binding Kind) → IsMadeOrWaits (result_after_call program t u b)
  made-call u (Err k) = tt
  made-call u (Ok b) = tt

  made-create : (u : ℕ) (b : Result Binding Kind) → IsMadeOrWaits (result_after_create program t u b)
  made-create u (Err k) = tt
  made-create u (Ok b) = tt

  made-value : (v : Option Value) → IsMadeOrWaits (result_after_value program t v)
  made-value None = tt
  made-value (Some v) = tt

  made-result : (at : Result Location Kind) → IsMadeOrWaits (result_after_result program t at)
  made-result (Err k) = tt
  made-result (Ok at) = made-value (t.state.store at).value

  made-leaving : (x : Option Name) → IsMadeOrWaits (result_after_leaving program t x)
  made-leaving None = tt
  made-leaving (Some x) = made-result (location_of_name (scope_of program t.state t.level.activation) x [])

  made-action : (a : Action) → IsMadeOrWaits (result_after_action program t a)
  made-action (assigning x v) = made-assignment x.0.asynchronous (location_of_name (scope_of program t.state t.level.activation) x.0 x.1) v
  made-action (jumping l) = tt
  made-action (choosing labels v) = tt
  made-action (branching labels v) = tt
  made-action (testing_condition v) = tt
  made-action (entering_block v) = tt
  made-action (entering_loop x m n k) =
      made-do (location_of_name (scope_of program t.state t.level.activation) x []) (integer_of m) (integer_of k) (
      iterations (integer_of m) (integer_of n) (integer_of k))
  made-action (ending_loop d) =
      made-loop_end (loop_at t.level.loops d) (
      location_of_name (scope_of program t.state t.level.activation) (variable_of (unit_on_top program t) d) [])
  made-action (calling x actuals) = made-call (unit_called program x) (binding_of program t (unit_called program x) actuals)
  made-action (creating x actuals) = made-create (unit_called program x) (binding_of program t (unit_called program x) actuals)
  made-action (purging targets) = made-purge (store_after_purge (scope_of program t.state t.level.activation) targets t.state.store)
  made-action (printing items) = tt
  made-action continuing = tt
  made-action leaving = made-leaving (function_name (unit_on_top program t))
  made-action resuming = tt
  made-action stopping = tt

  made-sought : (x : RedexOrReference) → IsMadeOrWaits (result_after_sought program t x)
  made-sought (evaluating e) = made-answer (answer_of (scope_of program t.state t.level.activation) t.state.store e)
  made-sought (referring x actuals) = made-call (function_unit program x) (binding_of program t (function_unit program x) actuals)

  made-next : (n : Next) → IsMadeOrWaits (result_after_next program t n)
  made-next (wants x) = made-sought x
  made-next (does a) = made-action a

module _ (program : Units) (p : ℕ) (s : State) where
  -- so it is of each process that lives
  made_or_waits : (top : Option (Level × Process)) → is_some top ≡ true → IsMadeOrWaits (step_result_of_top program s p top)
  made_or_waits None lives = absurd cc
  made_or_waits (Some top) lives =
      made-next program (record { state = s; process = p; level = top.0; below = top.1 }) (
      next_of (unit_at program (unit_of s top.0.activation)) top.0.work)

  -- one that lives and has no step waits, unless a STOP was made
  pub idle_waits : s.halted ≡ false → is_some (living s p) ≡ true → step program p s ≡ None → is_waiting program s p ≡ true
  unfolding step_result_of
  idle_waits going lives idle = by_result (step_result_of_top program s p (living s p)) (made_or_waits (living s p) lives) (
      sym (ap (λ h. if h then None else state_made (step_result_of program p s)) going) ∙ idle) where
        by_result : (x : StepResult) → IsMadeOrWaits x → state_made x ≡ None → is_some (wanted_of x) ≡ true
        by_result (stepped t) there none = absurd cc
        by_result (waiting w) there none = refl
        by_result absent there none = absurd there
