-- Which storage units a step leaves as full as they were.
use Rattle.std.proofs.Common.{◌≡◌, ℕ, Bool, true, false, List, [], ◌∷◌, Option, Some, None, Result, Ok, Err, refl, sym, ap, ◌∙◌, ℤ, ◌+ℤ◌}
use Rattle.hep_machine.specs.declared.event.Kind.{Kind}
use Rattle.hep_machine.specs.Words.{Process, evaluating, referring, resuming, function_name, function_unit, result_after_leaving, result_after_result, result_after_value, state_resumed, StateFunction, IsFull, IsEmpty, ValueOf, SetEmpty, WaitFull, Name, Statement, Value, Int, Outcome, reading_asynchronous, setting_empty, waiting_full, integer_of, integer_or_overflow, signed_value, negated_value, combined_value, function_value, Binding, binding_for}
use Rattle.hep_machine.specs.Words.{binding_with_shapes, with_store, with_shapes, with_actual, with_actuals, dummies_for, level_after_statement, variable_of, Redex, signing, negating, combining, applying, testing, Actual, evaluated, referred, Action, assigning, jumping, choosing, branching, testing_condition}
use Rattle.hep_machine.specs.Words.{entering_block, entering_loop, ending_loop, calling, creating, purging, printing, continuing, leaving, stopping, Next, wants, does, KeepsStatesBut, purges, top_purges, is_purge, Scope, location_of_name, Dummy, Level, Loop, State, Location, local, common, Cell, Store, Answer, fails}
use Rattle.hep_machine.specs.Words.{by_result, answer_at, answer_of_read, answer_of_read_at, answer_of_test, answer_of_test_at, answer_of, Top, unit_on_top, scope_of, result_after_answer, written, result_after_write, result_after_store, result_after_assignment, iterations, result_after_do, result_after_increment}
use Rattle.hep_machine.specs.Words.{result_after_loop_variable, result_after_loop_end, next_activation, result_after_call, result_after_create, unit_called, binding_of, result_after_action, result_after_next, step, same_location, with_cell, with_value, Units, unit_at, dummies_of, loop_at}
use Rattle.hep_machine.specs.Access as access
use Rattle.hep_machine.specs.Evaluation.{reading}
use Rattle.hep_machine.specs.Step.{gives, waits}
use Rattle.hep_machine.proofs.Locations.{equal_locations}
use Rattle.hep_machine.proofs.Changes.{Makes, by_step, next_on, top_in}

-- ---- changes of the store

-- one storage unit at most changes its state
abbrev pub Keeps : Store → Store → Type 0
Keeps old new = (at : Location) × KeepsStatesBut at old new

keeps_all : (old : Store) → Keeps old old
keeps_all old = (common None 0, λ location other. refl)

keeps-with_cell : (old : Store) (at : Location) (cell : Cell) → Keeps old (with_cell old at cell)
keeps-with_cell old at cell = (at, λ location other. rw other refl)

pub state-with_value : (old : Store) (at : Location) (v : Option Value) (location : Location) → (with_value old at v location).full ≡ (old location).full
state-with_value old at v location = by_test (same_location location at) refl where
  by_test : (b : Bool) → same_location location at ≡ b → (with_value old at v location).full ≡ (old location).full
  by_test true e = rw e (ap (λ l. (old l).full) (sym (equal_locations location at e)))
  by_test false e = rw e refl

-- ---- a redex

abbrev GivesKept : Store → Answer → Type 0
GivesKept old (gives v new) = Keeps old new
GivesKept old (waits w) = Unit {0}
GivesKept old (fails k) = Unit {0}

kept-by_result : (old : Store) (r : Result Value Kind) → GivesKept old (by_result r old)
kept-by_result old (Ok v) = keeps_all old
kept-by_result old (Err k) = tt

kept-answer_at : (old : Store) (at : Location) (o : Outcome) → GivesKept old (answer_at old at o)
kept-answer_at old at (access.gives v) = keeps_all old
kept-answer_at old at (access.makes v cell) = keeps-with_cell old at cell
kept-answer_at old at (access.waits full) = tt
kept-answer_at old at access.undefined = tt

kept-answer_of_read : (asynchronous : Bool) (old : Store) (at : Location) → GivesKept old (answer_of_read asynchronous old at)
kept-answer_of_read false old at = kept-answer_at old at (access.reading (old at))
kept-answer_of_read true old at = kept-answer_at old at (reading_asynchronous (old at))

kept-answer_of_read_at : (asynchronous : Bool) (old : Store) (at : Result Location Kind) → GivesKept old (answer_of_read_at asynchronous old at)
kept-answer_of_read_at asynchronous old (Err k) = tt
kept-answer_of_read_at asynchronous old (Ok at) = kept-answer_of_read asynchronous old at

kept-answer_of_test : (f : StateFunction) (old : Store) (at : Location) → GivesKept old (answer_of_test f old at)
kept-answer_of_test IsFull old at = keeps_all old
kept-answer_of_test IsEmpty old at = keeps_all old
kept-answer_of_test ValueOf old at = kept-answer_at old at (access.reading (old at))
kept-answer_of_test SetEmpty old at = kept-answer_at old at (setting_empty (old at))
kept-answer_of_test WaitFull old at = kept-answer_at old at (waiting_full (old at))

kept-answer_of_test_at : (f : StateFunction) (old : Store) (at : Result Location Kind) → GivesKept old (answer_of_test_at f old at)
kept-answer_of_test_at f old (Err k) = tt
kept-answer_of_test_at f old (Ok at) = kept-answer_of_test f old at

kept-answer : (scope : Scope) (old : Store) (r : Redex) → GivesKept old (answer_of scope old r)
kept-answer scope old (reading r) = kept-answer_of_read_at r.0.asynchronous old (location_of_name scope r.0 r.1)
kept-answer scope old (signing s v) = kept-by_result old (signed_value s v)
kept-answer scope old (negating v) = kept-by_result old (negated_value v)
kept-answer scope old (combining o v w) = kept-by_result old (combined_value o v w)
kept-answer scope old (applying f vs) = kept-by_result old (function_value f vs)
kept-answer scope old (testing f r) = kept-answer_of_test_at f old (location_of_name scope r.0 r.1)

-- ---- binding

pub state-with_actual : (old : Store) (a : ℕ) (x : Name) (y : Actual) (location : Location) → (with_actual old a x y location).full ≡ (old location).full
state-with_actual old a x (evaluated v) location = state-with_value old (local a x 1) (Some v) location
state-with_actual old a x (referred r) location = refl

pub state-with_actuals : (old : Store) (a : ℕ) (xs : List Name) (ys : List Actual) (location : Location) → (with_actuals old a xs ys location).full ≡ (old location).full
state-with_actuals old a [] ys location = refl
state-with_actuals old a (x ∷ xs) [] location = refl
state-with_actuals old a (x ∷ xs) (y ∷ ys) location =
    state-with_actuals (with_actual old a x y) a xs ys location ∙ state-with_actual old a x y location

abbrev BindsKept : Store → Result Binding Kind → Type 0
BindsKept old (Err k) = Unit {0}
BindsKept old (Ok b) = Keeps old b.store

kept-with_store : (old new : Store) (ds : Result (List Dummy) Kind) → Keeps old new → BindsKept old (with_store new ds)
kept-with_store old new (Err k) h = tt
kept-with_store old new (Ok ds) h = h

kept-binding_with_shapes : (unit : List Statement) (a : ℕ) (old new : Store) (ds : Result (List Dummy) Kind) → Keeps old new → BindsKept old (binding_with_shapes unit a new ds)
kept-binding_with_shapes unit a old new (Err k) h = tt
kept-binding_with_shapes unit a old new (Ok ds) h =
    kept-with_store old new (with_shapes (record { unit = unit; number = a; dummies = ds }) new (dummies_of unit) ds) h

kept-binding_for : (scope : Scope) (old : Store) (unit : List Statement) (a : ℕ) (ys : List Actual) → BindsKept old (binding_for scope old unit a ys)
kept-binding_for scope old unit a ys =
    kept-binding_with_shapes unit a old (with_actuals old a (dummies_of unit) ys) (dummies_for scope a (dummies_of unit) ys) (common None 0, λ location other. state-with_actuals old a (dummies_of unit) ys location)

-- ---- by what a turn does

-- the state after keeps all states of storage units but one
abbrev pub Kept : Top → State → Type 0
Kept t s = Keeps t.state.store s.store

kept-result_after_answer : (program : Units) (t : Top) (a : Answer) → GivesKept t.state.store a → Makes (Kept t) (result_after_answer program t a)
kept-result_after_answer program t (gives v store) h = h
kept-result_after_answer program t (waits w) h = tt
kept-result_after_answer program t (fails k) h = keeps_all t.state.store

kept-with_value : (old : Store) (at : Location) (v : Option Value) → Keeps old (with_value old at v)
kept-with_value old at v = (at, λ location other. state-with_value old at v location)

kept-result_after_write : (program : Units) (t : Top) (level : Level) (a : Answer) → GivesKept t.state.store a → Makes (Kept t) (result_after_write program t level a)
kept-result_after_write program t level (gives v store) h = h
kept-result_after_write program t level (waits w) h = tt
kept-result_after_write program t level (fails k) h = keeps_all t.state.store

kept-result_after_store : (program : Units) (asynchronous : Bool) (t : Top) (at : Location) (v : Value) (level : Level) → Makes (Kept t) (result_after_store program asynchronous t at v level)
kept-result_after_store program asynchronous t at v level =
    kept-result_after_write program t level (answer_at t.state.store at (written asynchronous v (t.state.store at))) (
    kept-answer_at t.state.store at (written asynchronous v (t.state.store at)))

kept-assignment : (program : Units) (t : Top) (asynchronous : Bool) (at : Result Location Kind) (v : Value) → Makes (Kept t) (result_after_assignment program t asynchronous at v)
kept-assignment program t asynchronous (Err k) v = keeps_all t.state.store
kept-assignment program t asynchronous (Ok at) v = kept-result_after_store program asynchronous t at v (level_after_statement (unit_on_top program t) t.level)

kept-result_after_do : (program : Units) (t : Top) (at : Result Location Kind) (m increment : ℤ) (count : Result ℤ Kind) → Makes (Kept t) (result_after_do program t at m increment count)
kept-result_after_do program t at m increment (Err k) = keeps_all t.state.store
kept-result_after_do program t (Err k) m increment (Ok count) = keeps_all t.state.store
kept-result_after_do program t (Ok at) m increment (Ok count) = kept-with_value t.state.store at (Some (Int m))

kept-result_after_increment : (program : Units) (t : Top) (l : Loop) (at : Location) (z : Result ℤ Kind) → Makes (Kept t) (result_after_increment program t l at z)
kept-result_after_increment program t l at (Err k) = keeps_all t.state.store
kept-result_after_increment program t l at (Ok z) = kept-with_value t.state.store at (Some (Int z))

kept-result_after_loop_variable : (program : Units) (t : Top) (l : Loop) (at : Location) (v : Option Value) → Makes (Kept t) (result_after_loop_variable program t l at v)
kept-result_after_loop_variable program t l at None = keeps_all t.state.store
kept-result_after_loop_variable program t l at (Some v) = kept-result_after_increment program t l at (integer_or_overflow (integer_of v +ℤ l.increment))

kept-result_after_loop_end : (program : Units) (t : Top) (l : Loop) (at : Result Location Kind) → Makes (Kept t) (result_after_loop_end program t l at)
kept-result_after_loop_end program t l (Err k) = keeps_all t.state.store
kept-result_after_loop_end program t l (Ok at) = kept-result_after_loop_variable program t l at (t.state.store at).value

kept-result_after_call : (program : Units) (t : Top) (u : ℕ) (b : Result Binding Kind) → BindsKept t.state.store b → Makes (Kept t) (result_after_call program t u b)
kept-result_after_call program t u (Err k) h = keeps_all t.state.store
kept-result_after_call program t u (Ok b) h = h

kept-result_after_create : (program : Units) (t : Top) (u : ℕ) (b : Result Binding Kind) → BindsKept t.state.store b → Makes (Kept t) (result_after_create program t u b)
kept-result_after_create program t u (Err k) h = keeps_all t.state.store
kept-result_after_create program t u (Ok b) h = h

kept-binding_of : (program : Units) (t : Top) (u : ℕ) (ys : List Actual) → BindsKept t.state.store (binding_of program t u ys)
kept-binding_of program t u ys =
    kept-binding_for (scope_of program t.state t.level.activation) t.state.store (unit_at program u) (next_activation t.state) ys

kept-value : (program : Units) (t : Top) (v : Option Value) → Makes (Kept t) (result_after_value program t v)
kept-value program t None = keeps_all t.state.store
kept-value program t (Some v) = keeps_all t.state.store

kept-result : (program : Units) (t : Top) (at : Result Location Kind) → Makes (Kept t) (result_after_result program t at)
kept-result program t (Err k) = keeps_all t.state.store
kept-result program t (Ok at) = kept-value program t (t.state.store at).value

kept-leaving : (program : Units) (t : Top) (x : Option Name) → Makes (Kept t) (result_after_leaving program t x)
kept-leaving program t None = keeps_all t.state.store
kept-leaving program t (Some x) = kept-result program t (location_of_name (scope_of program t.state t.level.activation) x [])

kept-resumed : (program : Units) (t : Top) (below : Process) → Kept t (state_resumed program t below)
kept-resumed program t [] = keeps_all t.state.store
kept-resumed program t (caller ∷ callers) = keeps_all t.state.store

kept-action : (program : Units) (t : Top) (a : Action) → purges (does a) ≡ false → Makes (Kept t) (result_after_action program t a)
kept-action program t (assigning r v) h = kept-assignment program t r.0.asynchronous (location_of_name (scope_of program t.state t.level.activation) r.0 r.1) v
kept-action program t (jumping l) h = keeps_all t.state.store
kept-action program t (choosing labels v) h = keeps_all t.state.store
kept-action program t (branching labels v) h = keeps_all t.state.store
kept-action program t (testing_condition v) h = keeps_all t.state.store
kept-action program t (entering_block v) h = keeps_all t.state.store
kept-action program t (entering_loop x m n k) h =
    kept-result_after_do program t (location_of_name (scope_of program t.state t.level.activation) x []) (integer_of m) (integer_of k) (iterations (integer_of m) (integer_of n) (integer_of k))
kept-action program t (ending_loop d) h =
    kept-result_after_loop_end program t (loop_at t.level.loops d) (location_of_name (scope_of program t.state t.level.activation) (variable_of (unit_on_top program t) d) [])
kept-action program t (calling x actuals) h = kept-result_after_call program t (unit_called program x) _ (kept-binding_of program t (unit_called program x) actuals)
kept-action program t (creating x actuals) h = kept-result_after_create program t (unit_called program x) _ (kept-binding_of program t (unit_called program x) actuals)
kept-action program t (purging targets) h = absurd cc
kept-action program t (printing items) h = keeps_all t.state.store
kept-action program t continuing h = keeps_all t.state.store
kept-action program t leaving h = kept-leaving program t (function_name (unit_on_top program t))
kept-action program t resuming h = kept-resumed program t t.below
kept-action program t stopping h = keeps_all t.state.store

kept-next : (program : Units) (t : Top) (n : Next) → purges n ≡ false → Makes (Kept t) (result_after_next program t n)
kept-next program t (wants (referring x actuals)) h = kept-result_after_call program t (function_unit program x) _ (kept-binding_of program t (function_unit program x) actuals)
kept-next program t (wants (evaluating r)) h =
    kept-result_after_answer program t (answer_of (scope_of program t.state t.level.activation) t.state.store r) (
    kept-answer (scope_of program t.state t.level.activation) t.state.store r)
kept-next program t (does a) h = kept-action program t a h

pub states_kept : (program : Units) (p : ℕ) (s t : State) → step program p s ≡ Some t → is_purge program s p ≡ false → (at : Location) × KeepsStatesBut at s.store t.store
states_kept program p s t e h =
    (by_step Kept program p s t (λ top is. kept-next program (top_in s p top) (next_on program s top) (ap (top_purges program s) (sym is) ∙ h)) e).2
