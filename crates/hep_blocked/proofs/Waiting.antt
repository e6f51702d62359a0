-- A step waits just where what it needs isn't so.
use Rattle.std.proofs.Common.{◌≡◌, ℕ, Bool, true, false, [], Option, Some, None, Result, Ok, Err, refl, ◌∙◌, ℤ, ◌+ℤ◌, not, if◌then◌else◌}
use Rattle.hep_machine.specs.Words.{StateFunction, IsFull, IsEmpty, ValueOf, SetEmpty, WaitFull, Value, Units, unit_at, Outcome, purged_cell, setting_empty, with_stored, combined_value, function_value, integer_of, integer_or_overflow, negated_value, signed_value, Binding, level_after_statement, variable_of, Action}
use Rattle.hep_machine.specs.Words.{assigning, branching, calling, choosing, continuing, creating, ending_loop, entering_block, entering_loop, jumping, leaving, printing, purging, resuming, stopping, testing_condition, Next, does, wants, Redex, applying, combining, negating, signing, testing, next_of, Scope, location_of_name}
use Rattle.hep_machine.specs.Words.{living, loop_at, unit_of, Level, Location, Loop, Process, State, Store, Answer, fails, Top, Wanted, answer_at, answer_of, answer_of_read_at, answer_of_test_at, binding_of, by_result, iterations, result_after_action, result_after_answer, result_after_assignment, result_after_call}
use Rattle.hep_machine.specs.Words.{result_after_create, result_after_do, result_after_increment, result_after_loop_end, result_after_loop_variable, result_after_next, result_after_purge, result_after_write, scope_of, step_result_of, step_result_of_top, store_after_purge, unit_called, unit_on_top, wanted_by, wanted_of}
use Rattle.hep_machine.specs.Words.{written}
use Rattle.hep_machine.specs.Words.{evaluating, function_name, function_unit, referring, result_after_leaving, result_after_result, result_after_value, Name}
use Rattle.hep_machine.specs.declared.event.Kind.{Kind}
use Rattle.hep_machine.specs.Access as access
use Rattle.hep_machine.specs.Evaluation.{reading}
use Rattle.hep_machine.specs.Step.{gives, waits}
use Rattle.hep_blocked.specs.Needs.{if_so, named_location, need_of, need_of_next, need_of_test, on_top, unmet, wanted_at}

-- ---- accesses

-- what an answer waits for
abbrev awaited : Answer → Option Wanted
awaited (gives v store) = None
awaited (waits w) = Some w
awaited (fails k) = None

-- a storage unit that is to be full, or empty, unless it is so
abbrev unless : Bool → Location → Bool → Option Wanted
unless full at so = if so then None else Some (record { at = at; full = full })

module _ (store : Store) (at : Location) where
  abbrev outcome_awaits : Outcome → Option Wanted
  outcome_awaits o = awaited (answer_at store at o)

  -- what was stored is given at once
  stored-now : (o : Option Value) (more : Value → Outcome) → ((v : Value) → outcome_awaits (more v) ≡ None)
      → outcome_awaits (with_stored o more) ≡ None
  stored-now None more h = refl
  stored-now (Some v) more h = h v

  once-awaits : (so : Bool) (o : Outcome) → outcome_awaits o ≡ None
      → outcome_awaits (if so then o else access.waits true) ≡ unless true at so
  once-awaits true o h = h
  once-awaits false o h = refl

  fill-awaits : (full : Bool) (v : Value)
      → outcome_awaits (if full then access.waits false else access.makes v (record { value = Some v; full = true }))
      ≡ unless false at (not full)
  fill-awaits true v = refl
  fill-awaits false v = refl

  plain-read : outcome_awaits (access.reading (store at)) ≡ None
  plain-read = stored-now (store at).value access.gives (λ v. refl)

  emptied : outcome_awaits (setting_empty (store at)) ≡ None
  emptied = stored-now (store at).value (λ v. access.makes v (purged_cell (store at))) (λ v. refl)

  write-awaits : (asynchronous : Bool) (v : Value)
      → outcome_awaits (written asynchronous v (store at)) ≡ unmet (if_so asynchronous (wanted_at false (Some at))) store
  write-awaits false v = refl
  write-awaits true v = fill-awaits (store at).full v

-- ---- what is wanted of a name

read-awaits : (asynchronous : Bool) (store : Store) (at : Result Location Kind)
    → awaited (answer_of_read_at asynchronous store at) ≡ unmet (if_so asynchronous (wanted_at true (named_location at))) store
read-awaits false store (Err k) = refl
read-awaits true store (Err k) = refl
read-awaits false store (Ok at) = plain-read store at
read-awaits true store (Ok at) = once-awaits store at (store at).full (setting_empty (store at)) (emptied store at)

test-awaits : (f : StateFunction) (store : Store) (at : Result Location Kind)
    → awaited (answer_of_test_at f store at) ≡ unmet (need_of_test f (named_location at)) store
test-awaits IsFull store (Err k) = refl
test-awaits IsEmpty store (Err k) = refl
test-awaits ValueOf store (Err k) = refl
test-awaits SetEmpty store (Err k) = refl
test-awaits WaitFull store (Err k) = refl
test-awaits IsFull store (Ok at) = refl
test-awaits IsEmpty store (Ok at) = refl
test-awaits ValueOf store (Ok at) = plain-read store at
test-awaits SetEmpty store (Ok at) = emptied store at
test-awaits WaitFull store (Ok at) = once-awaits store at (store at).full (access.reading (store at)) (plain-read store at)

value-now : (r : Result Value Kind) (store : Store) → awaited (by_result r store) ≡ None
value-now (Ok v) store = refl
value-now (Err k) store = refl

redex-awaits : (scope : Scope) (store : Store) (r : Redex) → awaited (answer_of scope store r) ≡ unmet (need_of_next scope (wants (evaluating r))) store
redex-awaits scope store (reading r) = read-awaits r.0.asynchronous store (location_of_name scope r.0 r.1)
redex-awaits scope store (testing f r) = test-awaits f store (location_of_name scope r.0 r.1)
redex-awaits scope store (signing s v) = value-now (signed_value s v) store
redex-awaits scope store (negating v) = value-now (negated_value v) store
redex-awaits scope store (combining o v w) = value-now (combined_value o v w) store
redex-awaits scope store (applying f vs) = value-now (function_value f vs) store

-- ---- a turn

module _ (program : Units) (t : Top) where
  abbrev scope : Scope
  scope = scope_of program t.state t.level.activation

  answer-wanted : (a : Answer) → wanted_of (result_after_answer program t a) ≡ awaited a
  answer-wanted (gives v store) = refl
  answer-wanted (waits w) = refl
  answer-wanted (fails k) = refl

  write-wanted : (level : Level) (a : Answer) → wanted_of (result_after_write program t level a) ≡ awaited a
  write-wanted level (gives v store) = refl
  write-wanted level (waits w) = refl
  write-wanted level (fails k) = refl

  assignment-wanted : (asynchronous : Bool) (at : Result Location Kind) (v : Value)
      → wanted_of (result_after_assignment program t asynchronous at v)
      ≡ unmet (if_so asynchronous (wanted_at false (named_location at))) t.state.store
  assignment-wanted false (Err k) v = refl
  assignment-wanted true (Err k) v = refl
  assignment-wanted asynchronous (Ok at) v =
      write-wanted (level_after_statement (unit_on_top program t) t.level) (
      answer_at t.state.store at (written asynchronous v (t.state.store at)))
      ∙ write-awaits t.state.store at asynchronous v

  purge-wanted : (r : Result Store Kind) → wanted_of (result_after_purge program t r) ≡ None
  purge-wanted (Err k) = refl
  purge-wanted (Ok store) = refl

  do-wanted : (at : Result Location Kind) (m increment : ℤ) (count : Result ℤ Kind)
      → wanted_of (result_after_do program t at m increment count) ≡ None
  do-wanted at m increment (Err k) = refl
  do-wanted (Err k) m increment (Ok count) = refl
  do-wanted (Ok at) m increment (Ok count) = refl

  increment-wanted : (l : Loop) (at : Location) (z : Result ℤ Kind) → wanted_of (result_after_increment program t l at z) ≡ None
  increment-wanted l at (Err k) = refl
  increment-wanted l at (Ok z) = refl

  variable-wanted : (l : Loop) (at : Location) (v : Option Value) → wanted_of (result_after_loop_variable program t l at v) ≡ None
  variable-wanted l at None = refl
  variable-wanted l at (Some v) = increment-wanted l at (integer_or_overflow (integer_of v +ℤ l.increment))

  end-wanted : (l : Loop) (at : Result Location Kind) → wanted_of (result_after_loop_end program t l at) ≡ None
  end-wanted l (Err k) = refl
  end-wanted l (Ok at) = variable-wanted l at (t.state.store at).value

  call-wanted : (u : ℕ) (b : Result Binding Kind) → wanted_of (result_after_call program t u b) ≡ None
  call-wanted u (Err k) = refl
  call-wanted u (Ok b) = refl

  create-wanted : (u : ℕ) (b : Result Binding Kind) → wanted_of (result_after_create program t u b) ≡ None
  create-wanted u (Err k) = refl
  create-wanted u (Ok b) = refl

  value-wanted : (v : Option Value) → wanted_of (result_after_value program t v) ≡ None
  value-wanted None = refl
  value-wanted (Some v) = refl

  result-wanted : (at : Result Location Kind) → wanted_of (result_after_result program t at) ≡ None
  result-wanted (Err k) = refl
  result-wanted (Ok at) = value-wanted (t.state.store at).value

  leaving-wanted : (x : Option Name) → wanted_of (result_after_leaving program t x) ≡ None
  leaving-wanted None = refl
  leaving-wanted (Some x) = result-wanted (location_of_name scope x [])

  action-wanted : (a : Action) → wanted_of (result_after_action program t a) ≡ unmet (need_of_next scope (does a)) t.state.store
  action-wanted (assigning r v) = assignment-wanted r.0.asynchronous (location_of_name scope r.0 r.1) v
  action-wanted (jumping l) = refl
  action-wanted (choosing labels v) = refl
  action-wanted (branching labels v) = refl
  action-wanted (testing_condition v) = refl
  action-wanted (entering_block v) = refl
  action-wanted (entering_loop x m n k) =
      do-wanted (location_of_name scope x []) (integer_of m) (integer_of k) (iterations (integer_of m) (integer_of n) (integer_of k))
  action-wanted (ending_loop d) = end-wanted (loop_at t.level.loops d) (location_of_name scope (variable_of (unit_on_top program t) d) [])
  action-wanted (calling x actuals) = call-wanted (unit_called program x) (binding_of program t (unit_called program x) actuals)
  action-wanted (creating x actuals) = create-wanted (unit_called program x) (binding_of program t (unit_called program x) actuals)
  action-wanted (purging targets) = purge-wanted (store_after_purge scope targets t.state.store)
  action-wanted (printing items) = refl
  action-wanted continuing = refl
  action-wanted leaving = leaving-wanted (function_name (unit_on_top program t))
  action-wanted resuming = refl
  action-wanted stopping = refl

  next-wanted : (n : Next) → wanted_of (result_after_next program t n) ≡ unmet (need_of_next scope n) t.state.store
  next-wanted (wants (referring x actuals)) = call-wanted (function_unit program x) (binding_of program t (function_unit program x) actuals)
  next-wanted (wants (evaluating r)) = answer-wanted (answer_of scope t.state.store r) ∙ redex-awaits scope t.state.store r
  next-wanted (does a) = action-wanted a

-- ---- a step

pub waits-unmet : (program : Units) (p : ℕ) (s : State) → wanted_by program p s ≡ unmet (need_of program p s) s.store
unfolding step_result_of
waits-unmet program p s = by_top (living s p) where
  by_top : (o : Option (Level × Process)) → wanted_of (step_result_of_top program s p o) ≡ unmet (on_top need_of_next program s o) s.store
  by_top None = refl
  by_top (Some top) =
      next-wanted program (record { state = s; process = p; level = top.0; below = top.1 }) (
      next_of (unit_at program (unit_of s top.0.activation)) top.0.work)
