-- A step makes no activation, or one of which holds what holds of what its actual arguments bind.
use Rattle.std.proofs.Common.{◌≡◌, ◌⊎◌, inl, inr, ℕ, Bool, List, [], ◌∷◌, ◌++◌, length, Option, Some, None, Result, Ok, Err, refl, ℤ, ◌+ℤ◌}
use Rattle.hep_machine.specs.Words.{evaluating, function_name, function_unit, leaving, Name, referring, result_after_leaving, result_after_result, result_after_value}
use Rattle.hep_machine.specs.Words.{Value, Units, dummies_of, unit_at, integer_of, integer_or_overflow, Binding, level_after_statement, variable_of, Actual, Action, assigning, entering_loop, ending_loop, calling, creating, purging, resuming, Next, wants, does, Scope, location_of_name, loop_at, Activation, Level, Location, Loop}
use Rattle.hep_machine.specs.Words.{Process, State, Store, state_resumed, Answer, answer_at, answer_of, binding_of, iterations, result_after_action, result_after_answer, result_after_assignment, result_after_call, result_after_create, result_after_do, result_after_increment, result_after_loop_end, result_after_loop_variable}
use Rattle.hep_machine.specs.Words.{result_after_next, result_after_purge, result_after_write, scope_of, store_after_purge, Top, unit_called, unit_on_top, written}
use Rattle.hep_machine.specs.declared.event.Kind.{Kind}
use Rattle.hep_machine.specs.Step.{waits}
use Rattle.hep_machine.proofs.Changes.{Makes}
use Rattle.hep_image.specs.BoundActivations.{Agrees, NextAgrees}

module _ (program : Units) (t : Top) (Holds : Activation → Type 0) where
  abbrev pub Adds : State → Type 0
  Adds s = (s.activations ≡ t.state.activations) ⊎ ((x : Activation) × (s.activations ≡ t.state.activations ++ x ∷ []) × Holds x)

  -- what the actual arguments bind that a unit is given
  abbrev pub Binds : ℕ → Result Binding Kind → Type 0
  Binds u (Err k) = Unit {0}
  Binds u (Ok b) = Holds (record { unit = u; parent = Some t.level.activation; dummies = b.dummies })

  abbrev old : Store
  old = t.state.store

  abbrev scope : Scope
  scope = scope_of program t.state t.level.activation

  same : Adds t.state
  same = inl refl

  added-answer : (a : Answer) → Makes Adds (result_after_answer program t a)
  added-answer (waits w) = tt
  added-answer _ = same

  added-write : (level : Level) (a : Answer) → Makes Adds (result_after_write program t level a)
  added-write level (waits w) = tt
  added-write level _ = same

  added-assignment : (asynchronous : Bool) (at : Result Location Kind) (v : Value) → Makes Adds (result_after_assignment program t asynchronous at v)
  added-assignment asynchronous (Err k) v = same
  added-assignment asynchronous (Ok at) v = added-write (level_after_statement (unit_on_top program t) t.level) (answer_at old at (written asynchronous v (old at)))

  added-purge : (r : Result Store Kind) → Makes Adds (result_after_purge program t r)
  added-purge (Err k) = same
  added-purge (Ok store) = same

  added-do : (at : Result Location Kind) (m increment : ℤ) (count : Result ℤ Kind) → Makes Adds (result_after_do program t at m increment count)
  added-do at m increment (Err k) = same
  added-do (Err k) m increment (Ok count) = same
  added-do (Ok at) m increment (Ok count) = same

  added-increment : (l : Loop) (at : Location) (z : Result ℤ Kind) → Makes Adds (result_after_increment program t l at z)
  added-increment l at (Err k) = same
  added-increment l at (Ok z) = same

  added-variable : (l : Loop) (at : Location) (v : Option Value) → Makes Adds (result_after_loop_variable program t l at v)
  added-variable l at None = same
  added-variable l at (Some v) = added-increment l at (integer_or_overflow (integer_of v +ℤ l.increment))

  added-loop_end : (l : Loop) (at : Result Location Kind) → Makes Adds (result_after_loop_end program t l at)
  added-loop_end l (Err k) = same
  added-loop_end l (Ok at) = added-variable l at (old at).value

  -- a new activation
  added-call : (u : ℕ) (b : Result Binding Kind) → Binds u b → Makes Adds (result_after_call program t u b)
  added-call u (Err k) h = same
  added-call u (Ok b) h = inr (_, refl, h)

  added-create : (u : ℕ) (b : Result Binding Kind) → Binds u b → Makes Adds (result_after_create program t u b)
  added-create u (Err k) h = same
  added-create u (Ok b) h = inr (_, refl, h)

  -- the end of an activation
  added-value : (v : Option Value) → Makes Adds (result_after_value program t v)
  added-value None = same
  added-value (Some v) = same

  added-result : (at : Result Location Kind) → Makes Adds (result_after_result program t at)
  added-result (Err k) = same
  added-result (Ok at) = added-value (old at).value

  added-leaving : (x : Option Name) → Makes Adds (result_after_leaving program t x)
  added-leaving None = same
  added-leaving (Some x) = added-result (location_of_name scope x [])

  -- a process more, or a statement further
  added-resuming : (below : Process) → Adds (state_resumed program t below)
  added-resuming [] = same
  added-resuming (caller ∷ callers) = same

  module _ (binds : (u : ℕ) (ys : List Actual) → length ys ≡ length (dummies_of (unit_at program u)) → Binds u (binding_of program t u ys)) where
    added-action : (a : Action) → Agrees program a → Makes Adds (result_after_action program t a)
    added-action (assigning r v) h = added-assignment r.0.asynchronous (location_of_name scope r.0 r.1) v
    added-action (entering_loop x m k l) h = added-do (location_of_name scope x []) (integer_of m) (integer_of l) (iterations (integer_of m) (integer_of k) (integer_of l))
    added-action (ending_loop d) h = added-loop_end (loop_at t.level.loops d) (location_of_name scope (variable_of (unit_on_top program t) d) [])
    added-action (calling x actuals) h = added-call (unit_called program x) (binding_of program t (unit_called program x) actuals) (binds (unit_called program x) actuals h)
    added-action (creating x actuals) h = added-create (unit_called program x) (binding_of program t (unit_called program x) actuals) (binds (unit_called program x) actuals h)
    added-action (purging targets) h = added-purge (store_after_purge scope targets old)
    added-action leaving h = added-leaving (function_name (unit_on_top program t))
    added-action resuming h = added-resuming t.below
    added-action _ h = same

    pub added-next : (m : Next) → NextAgrees program m → Makes Adds (result_after_next program t m)
    added-next (wants (evaluating r)) h = added-answer (answer_of scope old r)
    added-next (wants (referring x actuals)) h = added-call (function_unit program x) (binding_of program t (function_unit program x) actuals) (binds (function_unit program x) actuals h)
    added-next (does a) h = added-action a h
