-- How a step changes the processes and the activations.
use Rattle.std.proofs.Common.{◌≡◌, ℕ, Bool, true, false, List, [], ◌∷◌, ◌++◌, Option, Some, None, Result, Ok, Err, refl, sym, ◌∙◌, ap, subst, ℤ, ◌+ℤ◌, ◌-ℤ◌, if◌then◌else◌, int_lt, pos}
use Rattle.std.proofs.lemmas.Option.{same_Some, none-some}
use Rattle.hep_machine.specs.declared.event.Kind.{Kind}
use Rattle.hep_machine.specs.Words.{Name, Statement, Value, RedexOrReference, evaluating, referring, resuming, function_name, function_unit, result_after_leaving, result_after_result, result_after_value, stack_after_value, state_resumed, integer_of, logical_of, integer_or_overflow, Binding, level_at_end_of, level_after_statement, level_at_choice, label_chosen, level_after_condition, level_in_block, level_in_range, level_after_loop, terminal_of, loops_around, loops_ending_at, variable_of, Action}
use Rattle.hep_machine.specs.Words.{assigning, jumping, choosing, branching, testing_condition, entering_block, entering_loop, ending_loop, calling, creating, purging, printing, continuing, leaving, stopping, Next, wants, does, next_of, activations_on, location_of_name, Activation, Level, Loop, Process, State}
use Rattle.hep_machine.specs.Words.{Location, Store, Answer, fails, answer_of, StepResult, stepped, waiting, absent, Top, unit_on_top, scope_of, result_after_answer, answer_at, written, result_after_write, result_after_store, result_after_assignment, store_after_purge, result_after_purge, iterations, level_after_count}
use Rattle.hep_machine.specs.Words.{state_after_count, result_after_do, result_after_increment, result_after_loop_variable, result_after_loop_end, entry_level, next_activation, result_after_call, result_after_create, unit_called, binding_of, stack_after_return, result_after_action, result_after_next}
use Rattle.hep_machine.specs.Words.{step_result_of_top, step_result_of, state_made, step, Units, unit_at, living, with_numbered, unit_of, loop_at, with_loop}
use Rattle.hep_machine.specs.Step.{gives, waits}

-- ---- what a step can make of the processes and the activations

-- the whole stack of a process
abbrev pub stack : Top → Process
stack t = t.level ∷ t.below

-- the state after has this stack for the process of the step
abbrev pub HasStack : Top → State → Process → Type 0
HasStack t s q = s.processes ≡ with_numbered t.state.processes t.process q

abbrev pub HasSame : Top → State → Type 0
HasSame t s = s.activations ≡ t.state.activations

-- one activation more, whose parent is the top one
abbrev pub HasOneMore : Top → State → Activation → Type 0
HasOneMore t s x = (s.activations ≡ t.state.activations ++ x ∷ []) × (x.parent ≡ Some t.level.activation)

pub data Change (t : Top) (s : State) : Type 0 where
  moves : (q : Process) → activations_on q ≡ activations_on (stack t) → HasStack t s q → HasSame t s → Change t s
  leaves : (q : Process) → activations_on q ≡ activations_on t.below → HasStack t s q → HasSame t s → Change t s
  faults : HasStack t s [] → HasSame t s → Change t s
  calls : (q : Process) (x : Activation) → activations_on q ≡ next_activation t.state ∷ activations_on (stack t) → HasStack t s q → HasOneMore t s x → Change t s
  creates : (q r : Process) (x : Activation) → activations_on q ≡ activations_on (stack t) → activations_on r ≡ next_activation t.state ∷ [] → s.processes ≡ with_numbered t.state.processes t.process q ++ r ∷ [] → HasOneMore t s x → Change t s
  resumes : (q r : Process) → activations_on q ≡ activations_on t.below → activations_on r ≡ t.level.activation ∷ [] → s.processes ≡ with_numbered t.state.processes t.process q ++ r ∷ [] → HasSame t s → Change t s
  stops : s.processes ≡ t.state.processes → HasSame t s → Change t s

-- what holds of the state of a step, where a turn makes one
abbrev pub Makes : (State → Type 0) → StepResult → Type 0
Makes P (stepped s) = P s
Makes P (waiting w) = Unit {0}
Makes P absent = Unit {0}

-- ---- the activation on top stays

-- the end of a DO leaves the level in its activation
pub stays-level_at_end_of : (unit : List Statement) (level : Level) (k : ℕ) (ds : List ℕ) → (level_at_end_of unit level k ds).activation ≡ level.activation
stays-level_at_end_of unit level k [] = refl
stays-level_at_end_of unit level k (d ∷ ds) = refl

stays-level_after_statement : (unit : List Statement) (level : Level) → (level_after_statement unit level).activation ≡ level.activation
stays-level_after_statement unit level = stays-level_at_end_of unit level level.statement (loops_ending_at unit level.statement)

stays-level_after_loop : (unit : List Statement) (level : Level) (d : ℕ) → (level_after_loop unit level d).activation ≡ level.activation
stays-level_after_loop unit level d = stays-level_at_end_of unit level (terminal_of unit d) (loops_around d (loops_ending_at unit (terminal_of unit d)))

stays-level_at_choice : (unit : List Statement) (level : Level) (l : Option ℕ) → (level_at_choice unit level l).activation ≡ level.activation
stays-level_at_choice unit level None = stays-level_after_statement unit level
stays-level_at_choice unit level (Some l) = refl

stays-level_after_condition : (unit : List Statement) (level : Level) (b : Bool) → (level_after_condition unit level b).activation ≡ level.activation
stays-level_after_condition unit level true = refl
stays-level_after_condition unit level false = stays-level_after_statement unit level

stays-level_in_block : (unit : List Statement) (level : Level) (b : Bool) → (level_in_block unit level b).activation ≡ level.activation
stays-level_in_block unit level true = refl
stays-level_in_block unit level false = refl

-- a count of a DO leaves the level in its activation
pub stays-level_after_count : (unit : List Statement) (level : Level) (d : ℕ) (count : ℤ) → (level_after_count unit level d count).activation ≡ level.activation
stays-level_after_count unit level d count =
    elim (int_lt (pos 0) count) as (λ (b : Bool). (if b then level_in_range unit level d else level_after_loop unit level d).activation ≡ level.activation)
    [ true ↦ refl | false ↦ stays-level_after_loop unit level d ]

-- ---- by what a turn does

-- another level on top, of the same activation
another_top : (t : Top) (s : State) (level : Level) → level.activation ≡ t.level.activation → HasStack t s (level ∷ t.below) → HasSame t s → Change t s
another_top t s level e h k = moves (level ∷ t.below) (ap (λ a. a ∷ activations_on t.below) e) h k

makes-answer : (program : Units) (t : Top) (a : Answer) → Makes (Change t) (result_after_answer program t a)
makes-answer program t (gives v store) = another_top t _ _ refl refl refl
makes-answer program t (waits w) = tt
makes-answer program t (fails k) = faults refl refl

makes-result_after_write : (program : Units) (t : Top) (level : Level) (a : Answer) → level.activation ≡ t.level.activation → Makes (Change t) (result_after_write program t level a)
makes-result_after_write program t level (gives v store) e = another_top t _ level e refl refl
makes-result_after_write program t level (waits w) e = tt
makes-result_after_write program t level (fails k) e = faults refl refl

makes-result_after_store : (program : Units) (asynchronous : Bool) (t : Top) (at : Location) (v : Value) (level : Level) → level.activation ≡ t.level.activation → Makes (Change t) (result_after_store program asynchronous t at v level)
makes-result_after_store program asynchronous t at v level e =
    makes-result_after_write program t level (answer_at t.state.store at (written asynchronous v (t.state.store at))) e

makes-assignment : (program : Units) (t : Top) (asynchronous : Bool) (at : Result Location Kind) (v : Value) → Makes (Change t) (result_after_assignment program t asynchronous at v)
makes-assignment program t asynchronous (Err k) v = faults refl refl
makes-assignment program t asynchronous (Ok at) v =
    makes-result_after_store program asynchronous t at v (level_after_statement (unit_on_top program t) t.level) (stays-level_after_statement (unit_on_top program t) t.level)

makes-purge : (program : Units) (t : Top) (r : Result Store Kind) → Makes (Change t) (result_after_purge program t r)
makes-purge program t (Err k) = faults refl refl
makes-purge program t (Ok store) = another_top t _ _ (stays-level_after_statement (unit_on_top program t) t.level) refl refl

change-state_after_count : (program : Units) (t : Top) (d : ℕ) (at : Location) (value count increment : ℤ) → Change t (state_after_count program t d at value count increment)
change-state_after_count program t d at value count increment =
    another_top t _ _ (stays-level_after_count (unit_on_top program t) (record t.level { loops = with_loop t.level.loops (record { statement = d; count = count; increment = increment }) }) d count) refl refl

makes-result_after_do : (program : Units) (t : Top) (at : Result Location Kind) (m increment : ℤ) (count : Result ℤ Kind) → Makes (Change t) (result_after_do program t at m increment count)
makes-result_after_do program t at m increment (Err k) = faults refl refl
makes-result_after_do program t (Err k) m increment (Ok count) = faults refl refl
makes-result_after_do program t (Ok at) m increment (Ok count) = change-state_after_count program t t.level.statement at m count increment

makes-result_after_increment : (program : Units) (t : Top) (l : Loop) (at : Location) (z : Result ℤ Kind) → Makes (Change t) (result_after_increment program t l at z)
makes-result_after_increment program t l at (Err k) = faults refl refl
makes-result_after_increment program t l at (Ok z) = change-state_after_count program t l.statement at z (l.count -ℤ pos 1) l.increment

makes-result_after_loop_variable : (program : Units) (t : Top) (l : Loop) (at : Location) (v : Option Value) → Makes (Change t) (result_after_loop_variable program t l at v)
makes-result_after_loop_variable program t l at None = faults refl refl
makes-result_after_loop_variable program t l at (Some v) = makes-result_after_increment program t l at (integer_or_overflow (integer_of v +ℤ l.increment))

makes-result_after_loop_end : (program : Units) (t : Top) (l : Loop) (at : Result Location Kind) → Makes (Change t) (result_after_loop_end program t l at)
makes-result_after_loop_end program t l (Err k) = faults refl refl
makes-result_after_loop_end program t l (Ok at) = makes-result_after_loop_variable program t l at (t.state.store at).value

makes-result_after_call : (program : Units) (t : Top) (u : ℕ) (b : Result Binding Kind) → Makes (Change t) (result_after_call program t u b)
makes-result_after_call program t u (Err k) = faults refl refl
makes-result_after_call program t u (Ok b) = calls (entry_level (unit_at program u) (next_activation t.state) ∷ stack t) _ refl refl (refl, refl)

makes-result_after_create : (program : Units) (t : Top) (u : ℕ) (b : Result Binding Kind) → Makes (Change t) (result_after_create program t u b)
makes-result_after_create program t u (Err k) = faults refl refl
makes-result_after_create program t u (Ok b) =
    creates (level_after_statement (unit_on_top program t) t.level ∷ t.below) (entry_level (unit_at program u) (next_activation t.state) ∷ []) _
    (ap (λ a. a ∷ activations_on t.below) (stays-level_after_statement (unit_on_top program t) t.level)) refl refl (refl, refl)

pub on-stack_after_return : (program : Units) (s : State) (below : Process) → activations_on (stack_after_return program s below) ≡ activations_on below
on-stack_after_return program s [] = refl
on-stack_after_return program s (level ∷ levels) = ap (λ a. a ∷ activations_on levels) (stays-level_after_statement (unit_at program (unit_of s level.activation)) level)

-- ---- the end of a function, and RESUME

pub on-stack_after_value : (program : Units) (s : State) (v : Value) (below : Process) → activations_on (stack_after_value program s v below) ≡ activations_on below
on-stack_after_value program s v [] = refl
on-stack_after_value program s v (level ∷ levels) = refl

makes-value : (program : Units) (t : Top) (v : Option Value) → Makes (Change t) (result_after_value program t v)
makes-value program t None = faults refl refl
makes-value program t (Some v) = leaves (stack_after_value program t.state v t.below) (on-stack_after_value program t.state v t.below) refl refl

makes-result : (program : Units) (t : Top) (at : Result Location Kind) → Makes (Change t) (result_after_result program t at)
makes-result program t (Err k) = faults refl refl
makes-result program t (Ok at) = makes-value program t (t.state.store at).value

makes-leaving : (program : Units) (t : Top) (x : Option Name) → Makes (Change t) (result_after_leaving program t x)
makes-leaving program t None = leaves (stack_after_return program t.state t.below) (on-stack_after_return program t.state t.below) refl refl
makes-leaving program t (Some x) = makes-result program t (location_of_name (scope_of program t.state t.level.activation) x [])

change-resumed : (program : Units) (t : Top) (below : Process) → t.below ≡ below → Change t (state_resumed program t below)
change-resumed program t [] is = another_top t _ _ (stays-level_after_statement (unit_on_top program t) t.level) refl refl
change-resumed program t (caller ∷ callers) is =
    resumes (stack_after_return program t.state (caller ∷ callers)) (level_after_statement (unit_on_top program t) t.level ∷ []) (
    on-stack_after_return program t.state (caller ∷ callers) ∙ ap activations_on (sym is)) (
    ap (λ a. a ∷ []) (stays-level_after_statement (unit_on_top program t) t.level)) refl refl

makes-action : (program : Units) (t : Top) (a : Action) → Makes (Change t) (result_after_action program t a)
makes-action program t (assigning r v) = makes-assignment program t r.0.asynchronous (location_of_name (scope_of program t.state t.level.activation) r.0 r.1) v
makes-action program t (jumping l) = another_top t _ _ refl refl refl
makes-action program t (choosing labels v) = another_top t _ _ (stays-level_at_choice (unit_on_top program t) t.level (label_chosen labels (integer_of v))) refl refl
makes-action program t (branching labels v) = another_top t _ _ refl refl refl
makes-action program t (testing_condition v) = another_top t _ _ (stays-level_after_condition (unit_on_top program t) t.level (logical_of v)) refl refl
makes-action program t (entering_block v) = another_top t _ _ (stays-level_in_block (unit_on_top program t) t.level (logical_of v)) refl refl
makes-action program t (entering_loop x m n k) =
    makes-result_after_do program t (location_of_name (scope_of program t.state t.level.activation) x []) (integer_of m) (integer_of k) (iterations (integer_of m) (integer_of n) (integer_of k))
makes-action program t (ending_loop d) =
    makes-result_after_loop_end program t (loop_at t.level.loops d) (location_of_name (scope_of program t.state t.level.activation) (variable_of (unit_on_top program t) d) [])
makes-action program t (calling x actuals) = makes-result_after_call program t (unit_called program x) (binding_of program t (unit_called program x) actuals)
makes-action program t (creating x actuals) = makes-result_after_create program t (unit_called program x) (binding_of program t (unit_called program x) actuals)
makes-action program t (purging targets) = makes-purge program t (store_after_purge (scope_of program t.state t.level.activation) targets t.state.store)
makes-action program t (printing items) = another_top t _ _ (stays-level_after_statement (unit_on_top program t) t.level) refl refl
makes-action program t continuing = another_top t _ _ (stays-level_after_statement (unit_on_top program t) t.level) refl refl
makes-action program t leaving = makes-leaving program t (function_name (unit_on_top program t))
makes-action program t resuming = change-resumed program t t.below refl
makes-action program t stopping = stops refl refl

makes-next : (program : Units) (t : Top) (n : Next) → Makes (Change t) (result_after_next program t n)
makes-next program t (wants (evaluating r)) = makes-answer program t (answer_of (scope_of program t.state t.level.activation) t.state.store r)
makes-next program t (wants (referring x actuals)) = makes-result_after_call program t (function_unit program x) (binding_of program t (function_unit program x) actuals)
makes-next program t (does a) = makes-action program t a

-- ---- a step

-- a process with its top, in a state
abbrev pub top_in : State → ℕ → Level × Process → Top
top_in s p both = record { state = s; process = p; level = both.0; below = both.1 }

made : (P : State → Type 0) (turn : StepResult) (t : State) → Makes P turn → state_made turn ≡ Some t → P t
made P (stepped s) t h e = subst P (same_Some s t e) h
made P (waiting w) t h e = absurd (none-some t e)
made P absent t h e = absurd (none-some t e)

not_halted : (b : Bool) (o : Option State) (t : State) → (if b then None else o) ≡ Some t → o ≡ Some t
not_halted true o t e = absurd (none-some t e)
not_halted false o t e = e

-- what comes next of the process with this top
abbrev pub next_on : Units → State → Level × Process → Next
next_on program s top = next_of (unit_at program (unit_of s top.0.activation)) top.0.work

-- what every turn makes of the top of a living process, a step does
pub by_step : (P : Top → State → Type 0) (program : Units) (p : ℕ) (s t : State) → ((top : Level × Process) → living s p ≡ Some top → Makes (P (top_in s p top)) (result_after_next program (top_in s p top) (next_on program s top))) → step program p s ≡ Some t → (top : Level × Process) × (living s p ≡ Some top) × P (top_in s p top) t
unfolding step_result_of
by_step P program p s t h e = by_top (living s p) refl (not_halted s.halted (state_made (step_result_of program p s)) t e) where
  by_top : (o : Option (Level × Process)) → living s p ≡ o → state_made (step_result_of_top program s p o) ≡ Some t → (top : Level × Process) × (living s p ≡ Some top) × P (top_in s p top) t
  by_top None is made_so = absurd (none-some t made_so)
  by_top (Some top) is made_so = (top, is, made (P (top_in s p top)) (result_after_next program (top_in s p top) (next_on program s top)) t (h top is) made_so)

-- the change of a step of p from one state to the next
pub record HasStepped (s : State) (p : ℕ) (t : State) : Type 0 where
  pub top : Level × Process
  pub lives : living s p ≡ Some top
  pub change : Change (top_in s p top) t

pub step_changes : (program : Units) (p : ℕ) (s t : State) → step program p s ≡ Some t → HasStepped s p t
step_changes program p s t e =
    let found = by_step Change program p s t (λ top is. makes-next program (top_in s p top) (next_on program s top)) e in
    record { top = found.0; lives = found.1; change = found.2 }
