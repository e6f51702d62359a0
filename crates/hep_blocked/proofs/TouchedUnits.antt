-- A step that is no PURGE changes the state of no storage unit but the one that it touches.
use Rattle.std.proofs.Common.{◌≡◌, ◌≢◌, ℕ, Bool, true, false, List, [], ◌∷◌, Option, Some, None, Result, Ok, Err, refl, sym, ap, ◌∙◌, subst, ℤ, ◌+ℤ◌, if◌then◌else◌}
use Rattle.hep_machine.specs.Words.{StateFunction, IsFull, IsEmpty, ValueOf, SetEmpty, WaitFull, Statement, Value, Int, Units, dummies_of, unit_at, Outcome, reading_asynchronous, setting_empty, with_stored, writing_asynchronous, combined_value, function_value, integer_of, integer_or_overflow, negated_value}
use Rattle.hep_machine.specs.Words.{signed_value, Binding, binding_for, binding_with_shapes, dummies_for, with_actuals, with_shapes, with_store, level_after_statement, variable_of, Action, assigning, branching, calling, choosing, continuing, creating, ending_loop, entering_block, entering_loop, jumping, leaving}
use Rattle.hep_machine.specs.Words.{Process, printing, purging, resuming, state_resumed, stopping, testing_condition, Actual, Next, does, wants, Redex, applying, combining, negating, signing, testing, next_of, is_purge, purges, top_purges, Scope, location_of_name, loop_at, Cell, Dummy, Level, Location, Loop, State, Store, Answer, fails, Top, answer_at}
use Rattle.hep_machine.specs.Words.{answer_of, answer_of_read_at, answer_of_test_at, binding_of, by_result, iterations, next_activation, result_after_action, result_after_answer, result_after_assignment, result_after_call, result_after_create, result_after_do, result_after_increment, result_after_loop_end}
use Rattle.hep_machine.specs.Words.{result_after_loop_variable, result_after_next, result_after_write, scope_of, step, unit_called, unit_on_top, written, same_location, with_cell}
use Rattle.hep_machine.specs.Words.{evaluating, function_name, function_unit, referring, result_after_leaving, result_after_result, result_after_value, Name}
use Rattle.hep_machine.specs.declared.event.Kind.{Kind}
use Rattle.hep_machine.specs.Access as access
use Rattle.hep_machine.specs.Evaluation.{reading}
use Rattle.hep_machine.specs.Step.{gives, waits}
use Rattle.hep_machine.proofs.Changes.{Makes, by_step, next_on, top_in}
use Rattle.hep_machine.proofs.Locations.{equal_locations}
use Rattle.hep_blocked.specs.Needs.{if_so, named_location, on_top, touched_by, touched_by_next, touched_by_test}
use Rattle.hep_machine.proofs.CellStates.{state-with_actuals, state-with_value}

-- ---- changes of the store

-- every storage unit is as full as it was, but for the one that is touched, if one is
abbrev pub KeepsBut : Option Location → Store → Store → Type 0
KeepsBut touched old new = (at : Location) → touched ≢ Some at → (new at).full ≡ (old at).full

all-stay : (touched : Option Location) (store : Store) → KeepsBut touched store store
all-stay touched store at other = refl

others-stay : (old : Store) (at : Location) (cell : Cell) → KeepsBut (Some at) old (with_cell old at cell)
others-stay old at cell l other = by_test (same_location l at) refl where
  by_test : (b : Bool) → same_location l at ≡ b → (if b then cell else old l).full ≡ (old l).full
  by_test true e = absurd (other (ap (λ m. Some m) (sym (equal_locations l at e))))
  by_test false e = refl

-- ---- what is given

abbrev GivesBut : Option Location → Store → Answer → Type 0
GivesBut touched old (gives v new) = KeepsBut touched old new
GivesBut touched old (waits w) = Unit {0}
GivesBut touched old (fails k) = Unit {0}

module _ (old : Store) (at : Location) where
  outcome-touches : (o : Outcome) → GivesBut (Some at) old (answer_at old at o)
  outcome-touches (access.gives v) = all-stay (Some at) old
  outcome-touches (access.makes v cell) = others-stay old at cell
  outcome-touches (access.waits full) = tt
  outcome-touches access.undefined = tt

  stored-stays : (o : Option Value) → GivesBut None old (answer_at old at (with_stored o access.gives))
  stored-stays None = tt
  stored-stays (Some v) = all-stay None old

  once-stays : (full : Bool) (o : Option Value)
      → GivesBut None old (answer_at old at (if full then with_stored o access.gives else access.waits true))
  once-stays true o = stored-stays o
  once-stays false o = tt

read-touches : (asynchronous : Bool) (old : Store) (at : Result Location Kind)
    → GivesBut (if_so asynchronous (named_location at)) old (answer_of_read_at asynchronous old at)
read-touches asynchronous old (Err k) = tt
read-touches false old (Ok at) = stored-stays old at (old at).value
read-touches true old (Ok at) = outcome-touches old at (reading_asynchronous (old at))

test-touches : (f : StateFunction) (old : Store) (at : Result Location Kind)
    → GivesBut (touched_by_test f (named_location at)) old (answer_of_test_at f old at)
test-touches f old (Err k) = tt
test-touches IsFull old (Ok at) = all-stay None old
test-touches IsEmpty old (Ok at) = all-stay None old
test-touches ValueOf old (Ok at) = stored-stays old at (old at).value
test-touches SetEmpty old (Ok at) = outcome-touches old at (setting_empty (old at))
test-touches WaitFull old (Ok at) = once-stays old at (old at).full (old at).value

value-touches : (old : Store) (r : Result Value Kind) → GivesBut None old (by_result r old)
value-touches old (Ok v) = all-stay None old
value-touches old (Err k) = tt

redex-touches : (scope : Scope) (old : Store) (r : Redex) → GivesBut (touched_by_next scope (wants (evaluating r))) old (answer_of scope old r)
redex-touches scope old (reading r) = read-touches r.0.asynchronous old (location_of_name scope r.0 r.1)
redex-touches scope old (testing f r) = test-touches f old (location_of_name scope r.0 r.1)
redex-touches scope old (signing s v) = value-touches old (signed_value s v)
redex-touches scope old (negating v) = value-touches old (negated_value v)
redex-touches scope old (combining o v w) = value-touches old (combined_value o v w)
redex-touches scope old (applying f vs) = value-touches old (function_value f vs)

-- ---- binding

abbrev BindsBut : Store → Result Binding Kind → Type 0
BindsBut old (Err k) = Unit {0}
BindsBut old (Ok b) = KeepsBut None old b.store

shapes-stay : (old new : Store) (ds : Result (List Dummy) Kind) → KeepsBut None old new → BindsBut old (with_store new ds)
shapes-stay old new (Err k) h = tt
shapes-stay old new (Ok ds) h = h

dummies-stay : (unit : List Statement) (a : ℕ) (old new : Store) (ds : Result (List Dummy) Kind) → KeepsBut None old new
    → BindsBut old (binding_with_shapes unit a new ds)
dummies-stay unit a old new (Err k) h = tt
dummies-stay unit a old new (Ok ds) h =
    shapes-stay old new (with_shapes (record { unit = unit; number = a; dummies = ds }) new (dummies_of unit) ds) h

binding-stays : (scope : Scope) (old : Store) (unit : List Statement) (a : ℕ) (ys : List Actual)
    → BindsBut old (binding_for scope old unit a ys)
binding-stays scope old unit a ys =
    dummies-stay unit a old (with_actuals old a (dummies_of unit) ys) (dummies_for scope a (dummies_of unit) ys) (λ at other.
    state-with_actuals old a (dummies_of unit) ys at)

-- ---- a turn

module _ (program : Units) (t : Top) where
  abbrev scope : Scope
  scope = scope_of program t.state t.level.activation

  abbrev Keeping : Option Location → State → Type 0
  Keeping touched s = KeepsBut touched t.state.store s.store

  answer-keeps : (touched : Option Location) (a : Answer) → GivesBut touched t.state.store a
      → Makes (Keeping touched) (result_after_answer program t a)
  answer-keeps touched (gives v store) h = h
  answer-keeps touched (waits w) h = tt
  answer-keeps touched (fails k) h = all-stay touched t.state.store

  write-keeps : (touched : Option Location) (level : Level) (a : Answer) → GivesBut touched t.state.store a
      → Makes (Keeping touched) (result_after_write program t level a)
  write-keeps touched level (gives v store) h = h
  write-keeps touched level (waits w) h = tt
  write-keeps touched level (fails k) h = all-stay touched t.state.store

  assignment-keeps : (asynchronous : Bool) (at : Result Location Kind) (v : Value)
      → Makes (Keeping (if_so asynchronous (named_location at))) (result_after_assignment program t asynchronous at v)
  assignment-keeps asynchronous (Err k) v = all-stay (if_so asynchronous None) t.state.store
  assignment-keeps false (Ok at) v = λ l other. state-with_value t.state.store at (Some v) l
  assignment-keeps true (Ok at) v =
      write-keeps (Some at) (level_after_statement (unit_on_top program t) t.level) (
      answer_at t.state.store at (written true v (t.state.store at))) (
      outcome-touches t.state.store at (writing_asynchronous v (t.state.store at)))

  do-keeps : (at : Result Location Kind) (m increment : ℤ) (count : Result ℤ Kind)
      → Makes (Keeping None) (result_after_do program t at m increment count)
  do-keeps at m increment (Err k) = all-stay None t.state.store
  do-keeps (Err k) m increment (Ok count) = all-stay None t.state.store
  do-keeps (Ok at) m increment (Ok count) = λ l other. state-with_value t.state.store at (Some (Int m)) l

  increment-keeps : (l : Loop) (at : Location) (z : Result ℤ Kind) → Makes (Keeping None) (result_after_increment program t l at z)
  increment-keeps l at (Err k) = all-stay None t.state.store
  increment-keeps l at (Ok z) = λ m other. state-with_value t.state.store at (Some (Int z)) m

  variable-keeps : (l : Loop) (at : Location) (v : Option Value) → Makes (Keeping None) (result_after_loop_variable program t l at v)
  variable-keeps l at None = all-stay None t.state.store
  variable-keeps l at (Some v) = increment-keeps l at (integer_or_overflow (integer_of v +ℤ l.increment))

  end-keeps : (l : Loop) (at : Result Location Kind) → Makes (Keeping None) (result_after_loop_end program t l at)
  end-keeps l (Err k) = all-stay None t.state.store
  end-keeps l (Ok at) = variable-keeps l at (t.state.store at).value

  call-keeps : (u : ℕ) (b : Result Binding Kind) → BindsBut t.state.store b → Makes (Keeping None) (result_after_call program t u b)
  call-keeps u (Err k) h = all-stay None t.state.store
  call-keeps u (Ok b) h = h

  create-keeps : (u : ℕ) (b : Result Binding Kind) → BindsBut t.state.store b → Makes (Keeping None) (result_after_create program t u b)
  create-keeps u (Err k) h = all-stay None t.state.store
  create-keeps u (Ok b) h = h

  bound : (u : ℕ) (ys : List Actual) → BindsBut t.state.store (binding_of program t u ys)
  bound u ys = binding-stays scope t.state.store (unit_at program u) (next_activation t.state) ys

  -- the end of an activation
  value-keeps : (v : Option Value) → Makes (Keeping None) (result_after_value program t v)
  value-keeps None = all-stay None t.state.store
  value-keeps (Some v) = all-stay None t.state.store

  result-keeps : (at : Result Location Kind) → Makes (Keeping None) (result_after_result program t at)
  result-keeps (Err k) = all-stay None t.state.store
  result-keeps (Ok at) = value-keeps (t.state.store at).value

  leaving-keeps : (x : Option Name) → Makes (Keeping None) (result_after_leaving program t x)
  leaving-keeps None = all-stay None t.state.store
  leaving-keeps (Some x) = result-keeps (location_of_name scope x [])

  resuming-keeps : (below : Process) → Keeping None (state_resumed program t below)
  resuming-keeps [] = all-stay None t.state.store
  resuming-keeps (caller ∷ callers) = all-stay None t.state.store

  action-keeps : (a : Action) → purges (does a) ≡ false → Makes (Keeping (touched_by_next scope (does a))) (result_after_action program t a)
  action-keeps (assigning r v) calm = assignment-keeps r.0.asynchronous (location_of_name scope r.0 r.1) v
  action-keeps (jumping l) calm = all-stay None t.state.store
  action-keeps (choosing labels v) calm = all-stay None t.state.store
  action-keeps (branching labels v) calm = all-stay None t.state.store
  action-keeps (testing_condition v) calm = all-stay None t.state.store
  action-keeps (entering_block v) calm = all-stay None t.state.store
  action-keeps (entering_loop x m n k) calm =
      do-keeps (location_of_name scope x []) (integer_of m) (integer_of k) (iterations (integer_of m) (integer_of n) (integer_of k))
  action-keeps (ending_loop d) calm =
      end-keeps (loop_at t.level.loops d) (location_of_name scope (variable_of (unit_on_top program t) d) [])
  action-keeps (calling x actuals) calm =
      call-keeps (unit_called program x) (binding_of program t (unit_called program x) actuals) (bound (unit_called program x) actuals)
  action-keeps (creating x actuals) calm =
      create-keeps (unit_called program x) (binding_of program t (unit_called program x) actuals) (bound (unit_called program x) actuals)
  action-keeps (purging targets) calm = absurd cc
  action-keeps (printing items) calm = all-stay None t.state.store
  action-keeps continuing calm = all-stay None t.state.store
  action-keeps leaving calm = leaving-keeps (function_name (unit_on_top program t))
  action-keeps resuming calm = resuming-keeps t.below
  action-keeps stopping calm = all-stay None t.state.store

  next-keeps : (n : Next) → purges n ≡ false → Makes (Keeping (touched_by_next scope n)) (result_after_next program t n)
  next-keeps (wants (referring x actuals)) calm =
      call-keeps (function_unit program x) (binding_of program t (function_unit program x) actuals) (bound (function_unit program x) actuals)
  next-keeps (wants (evaluating r)) calm =
      answer-keeps (touched_by_next scope (wants (evaluating r))) (answer_of scope t.state.store r) (redex-touches scope t.state.store r)
  next-keeps (does a) calm = action-keeps a calm

-- ---- a step

abbrev touched_on : Units → Top → Option Location
touched_on program t = touched_by_next (scope program t) (next_of (unit_on_top program t) t.level.work)

pub states-stay : (program : Units) (p : ℕ) (s t : State) (at : Location) → step program p s ≡ Some t → is_purge program s p ≡ false
    → touched_by program p s ≢ Some at → (t.store at).full ≡ (s.store at).full
states-stay program p s t at made calm other =
    let found = by_step (λ u. Keeping program u (touched_on program u)) program p s t (λ top lives.
    next-keeps program (top_in s p top) (next_on program s top) (ap (top_purges program s) (sym lives) ∙ calm)) made in
    found.2 at (subst (λ o. on_top touched_by_next program s o ≢ Some at) found.1 other)
