-- What a step accesses, which state it needs, and what it uses: docs/MACHINE.md, "The order of steps".
use Rattle.std.specs.Prelude.{ℕ, zero, suc, Bool, true, false, not, ◌&&◌, ◌||◌, nat_eq, if◌then◌else◌, List, [], ◌∷◌, Option, Some, None}
use Rattle.std.specs.Prelude.{is_none, Result, Ok, Err, map, ◌++◌, ◌+ℤ◌}
use Rattle.std.specs.List.{filter, flat_map}
use Rattle.hep_source.specs.declared.function.StateFunction.{StateFunction}
use Rattle.hep_source.specs.declared.function.StateFunction.TheVariants.{SetEmpty, WaitFull}
use Rattle.hep_source.specs.declared.name.Name.{Name}
use Rattle.hep_source.specs.declared.name.Occurrence.{Occurrence}
use Rattle.hep_source.specs.declared.statement.Statement.{Statement}
use Rattle.hep_machine.specs.declared.event.Kind.{Kind}
use Rattle.hep_machine.specs.Evaluation.{reading}
use Rattle.hep_machine.specs.Words.{Action, Actual, Dummy, Location, Loop, Next, Redex, Reference, Top, Units, Value, constant_value}
use Rattle.hep_machine.specs.Words.{dimensions_of, dummies_for, dummies_of, function_name, function_unit, integer_of, integer_or_overflow}
use Rattle.hep_machine.specs.Words.{common, is_common, is_dummy, iterations, line_at, local, location_of_name, loop_at, next_activation, next_of}
use Rattle.hep_machine.specs.Words.{occurrences_in_dimension, same_name, Scope, further, is_array, is_nonempty, scope_of, storage_of}
use Rattle.hep_machine.specs.Words.{unit_at, unit_called, unit_of, unit_on_top, variable_of, assigning, calling, creating, does}
use Rattle.hep_machine.specs.Words.{ending_loop, entering_loop, evaluating, leaving, referring, testing, wants, purging}
use Rattle.hep_accesses.specs.Events.{Access as AnAccess}

-- from where in a program an access is made: the unit and the line of the statement, and the name
pub record Site : Type 0 where
  pub unit : ℕ
  pub line : ℕ
  pub name : Name

abbrev pub same_site : Site → Site → Bool
same_site a b = nat_eq a.unit b.unit && (nat_eq a.line b.line && same_name a.name b.name)

abbrev pub Access : Type 0
Access = AnAccess Location Site

abbrev pub is_ok : {A : Type 0} → Result A Kind → Bool
is_ok (Ok x) = true
is_ok (Err k) = false

-- n storage units from one on
abbrev pub locations_from : ℕ → Location → List Location
locations_from zero at = []
locations_from (suc n) at = at ∷ locations_from n (further at 1)

-- SETE empties; FULL, EMPTY, VALUE and WAITF leave the state as it is
abbrev pub empties : StateFunction → Bool
empties SetEmpty = true
empties _ = false

-- of an activation on top of a process, before its step
module _ (program : Units) (t : Top) where
  abbrev pub scope_on_top : Scope
  scope_on_top = scope_of program t.state t.level.activation

  abbrev pub site_of : Name → Site
  site_of x = record { unit = unit_of t.state t.level.activation; line = line_at (unit_on_top program t) t.level.statement; name = x }

  abbrev pub location_of : Reference → Result Location Kind
  location_of r = location_of_name scope_on_top r.0 r.1

  -- none where a subscript is outside its bounds: the fault RANGE
  abbrev pub access_at : Name → Bool → Result Location Kind → List Access
  access_at x stores (Err k) = []
  access_at x stores (Ok at) = record { at = at; stores = stores; site = site_of x } ∷ []

  abbrev pub plain_access : Reference → Bool → List Access
  plain_access r stores = if r.0.asynchronous then [] else access_at r.0 stores (location_of r)

  -- ---- a DO: X3.9-1978, 11.10.3 to 11.10.7

  -- the variable is stored unless the iteration count is a fault
  abbrev pub access_of_do : Name → Bool → List Access
  access_of_do x true = access_at x true (location_of (x, []))
  access_of_do x false = []

  abbrev pub value_at : Result Location Kind → Option Value
  value_at (Ok at) = (t.state.store at).value
  value_at (Err k) = None

  -- there is a value, and with the increment it is an integer
  abbrev pub is_incremented : Loop → Option Value → Bool
  is_incremented l None = false
  is_incremented l (Some v) = is_ok (integer_or_overflow (integer_of v +ℤ l.increment))

  -- the variable is read, and stored unless that is a fault
  abbrev pub access_of_end : Name → ℕ → List Access
  access_of_end x d = access_at x (is_incremented (loop_at t.level.loops d) (value_at (location_of (x, [])))) (location_of (x, []))

  -- ---- binding: X3.9-1978, 5.5.1 and 15.9.3

  -- the names other than constants in the bounds of a unit's dummy arrays
  abbrev pub bound_names : List Statement → List Name
  bound_names unit =
      filter (λ (x : Name). is_none (constant_value unit x) && (is_dummy unit x || is_common unit x)) (
      map (λ (o : Occurrence). o.name)
      (flat_map (λ (x : Name). flat_map (occurrences_in_dimension unit) (dimensions_of unit x)) (dummies_of unit)))

  -- a storage unit of the new activation: the value of an expression is in it
  abbrev pub is_new : Location → Bool
  is_new (local a x i) = nat_eq a (next_activation t.state)
  is_new (common b i) = false

  -- the value of an expression is stored and read in one step, before all other accesses to it
  abbrev pub bound_access : Name → Location → List Access
  bound_access x at = if is_new at then [] else access_at x false (Ok at)

  -- each other name is read, where the new activation has it
  abbrev pub bound_accesses : List Statement → Result (List Dummy) Kind → List Access
  bound_accesses unit (Err k) = []
  bound_accesses unit (Ok dummies) =
      flat_map (λ (x : Name). bound_access x (storage_of (record { unit = unit; number = next_activation t.state; dummies = dummies }) x).start) (
      bound_names unit)

  abbrev pub binding_accesses : ℕ → List Actual → List Access
  binding_accesses u actuals =
      bound_accesses (unit_at program u) (
      dummies_for scope_on_top (next_activation t.state) (dummies_of (unit_at program u)) actuals)

  -- ---- all accesses of a step

  abbrev pub accesses_of_redex : Redex → List Access
  accesses_of_redex (reading r) = plain_access r false
  accesses_of_redex _ = []

  -- a function's result is read at its end
  abbrev pub accesses_of_result : Option Name → List Access
  accesses_of_result None = []
  accesses_of_result (Some x) = access_at x false (location_of (x, []))

  abbrev pub accesses_of_action : Action → List Access
  accesses_of_action (assigning r v) = plain_access r true
  accesses_of_action (entering_loop x m n k) = access_of_do x (is_ok (iterations (integer_of m) (integer_of n) (integer_of k)))
  accesses_of_action (ending_loop d) = access_of_end (variable_of (unit_on_top program t) d) d
  accesses_of_action (calling x actuals) = binding_accesses (unit_called program x) actuals
  accesses_of_action (creating x actuals) = binding_accesses (unit_called program x) actuals
  accesses_of_action leaving = accesses_of_result (function_name (unit_on_top program t))
  accesses_of_action _ = []

  abbrev pub accesses_of_next : Next → List Access
  accesses_of_next (wants (evaluating r)) = accesses_of_redex r
  accesses_of_next (wants (referring x actuals)) = binding_accesses (function_unit program x) actuals
  accesses_of_next (does a) = accesses_of_action a

  abbrev pub accesses_on_top : List Access
  accesses_on_top = accesses_of_next (next_of (unit_on_top program t) t.level.work)

  -- ---- the full/empty storage unit whose state a step needs

  abbrev pub found : Result Location Kind → Option Location
  found (Ok at) = Some at
  found (Err k) = None

  -- a read needs it full, an assignment empty
  abbrev pub need_of_reference : Reference → Option Location
  need_of_reference r = if r.0.asynchronous then found (location_of r) else None

  -- WAITF needs it full; FULL, EMPTY, VALUE and SETE go on in any state
  abbrev pub need_of_test : StateFunction → Reference → Option Location
  need_of_test WaitFull r = found (location_of r)
  need_of_test _ r = None

  abbrev pub need_of_next : Next → Option Location
  need_of_next (wants (evaluating (reading r))) = need_of_reference r
  need_of_next (wants (evaluating (testing f r))) = need_of_test f r
  need_of_next (does (assigning r v)) = need_of_reference r
  need_of_next _ = None

  abbrev pub need_on_top : Option Location
  need_on_top = need_of_next (next_of (unit_on_top program t) t.level.work)

  -- ---- the full/empty storage units that a step uses, as accesses: it stores where it may fill or empty

  abbrev pub asynchronous_access : Reference → List Access
  asynchronous_access r = if r.0.asynchronous then access_at r.0 true (location_of r) else []

  abbrev pub test_access : StateFunction → Reference → List Access
  test_access f r = access_at r.0 (empties f) (location_of r)

  -- a whole array, or one storage unit
  abbrev pub target_accesses : Reference → List Access
  target_accesses r =
      if is_array scope_on_top.unit r.0 && not (is_nonempty r.1)
      then map (λ (at : Location). record { at = at; stores = true; site = site_of r.0 }) (
      locations_from (storage_of scope_on_top r.0).rest (storage_of scope_on_top r.0).start)
      else access_at r.0 true (location_of r)

  abbrev pub asynchronous_accesses_of : Next → List Access
  asynchronous_accesses_of (wants (evaluating (reading r))) = asynchronous_access r
  asynchronous_accesses_of (wants (evaluating (testing f r))) = test_access f r
  asynchronous_accesses_of (does (assigning r v)) = asynchronous_access r
  asynchronous_accesses_of (does (purging targets)) = flat_map target_accesses targets
  asynchronous_accesses_of _ = []

  abbrev pub uses_of_next : Next → List Access
  uses_of_next n = accesses_of_next n ++ asynchronous_accesses_of n

  -- all storage units that a step uses
  abbrev pub uses_on_top : List Access
  uses_on_top = uses_of_next (next_of (unit_on_top program t) t.level.work)
