-- What a step makes full or empty, and what it accesses.
use Rattle.std.proofs.Common.{◌≡◌, ℕ, zero, suc, ◌+◌, Bool, true, false, ◌&&◌, ◌||◌, not, nat_lt, List, [], ◌∷◌, ◌++◌, length, map}
use Rattle.std.proofs.Common.{Option, Some, None}
use Rattle.std.proofs.Common.{◌⊎◌, inl, inr, Result, Ok, Err, ℤ, ◌+ℤ◌, refl, sym, ap, ◌∙◌, subst, arith, if◌then◌else◌}
use Rattle.std.proofs.lemmas.Bool.Decides.{nat_tests}
use Rattle.std.specs.List.{filter, flat_map, list_any}
use Rattle.std.proofs.lemmas.List.{length-append}
use Rattle.hep_source.specs.declared.function.StateFunction.{StateFunction}
use Rattle.hep_source.specs.declared.function.StateFunction.TheVariants.{IsFull, IsEmpty, ValueOf, SetEmpty, WaitFull}
use Rattle.hep_machine.specs.declared.event.Fault.{Fault}
use Rattle.hep_machine.specs.declared.event.Kind.{Kind}
use Rattle.hep_machine.specs.declared.event.Kind.TheVariants.{Undefined}
use Rattle.hep_machine.specs.declared.slot.Slot.{Slot}
use Rattle.hep_machine.specs.Access as access
use Rattle.hep_machine.specs.Evaluation.{reading}
use Rattle.hep_machine.specs.Step.{gives}
use Rattle.hep_machine.specs.Words.{Answer, Binding, Level, Location, Loop, Name, Next, Process, Redex, Reference, Scope, State, Store, Int}
use Rattle.hep_machine.specs.Words.{Top, Units, Value}
use Rattle.hep_machine.specs.Words.{Actual, Dummy, Statement, binding_with_shapes, dummies_for, with_actuals, with_shapes, with_store}
use Rattle.hep_machine.specs.Words.{Action, absent, stepped, waiting, StepResult, same_location, same_logical, further, with_cell}
use Rattle.hep_machine.specs.Words.{with_value, with_empty, emptied_from, purged_cell}
use Rattle.hep_machine.specs.Words.{answer_at, answer_of_read_at, answer_of_test_at, binding_of, by_result, dummies_of, next_activation}
use Rattle.hep_machine.specs.Words.{level_after_statement}
use Rattle.hep_machine.specs.Words.{evaluating, referring, signing, negating, combining, applying, testing, wants, does, assigning}
use Rattle.hep_machine.specs.Words.{jumping, choosing, branching}
use Rattle.hep_machine.specs.Words.{testing_condition, entering_block, entering_loop, ending_loop, calling, creating, purging, printing}
use Rattle.hep_machine.specs.Words.{continuing, leaving, resuming, stopping}
use Rattle.hep_machine.specs.Words.{function_name, function_unit, integer_of, integer_or_overflow, is_array, is_nonempty, iterations}
use Rattle.hep_machine.specs.Words.{location_of_name, loop_at, scope_of, storage_of}
use Rattle.hep_machine.specs.Words.{result_after_answer, result_after_assignment, result_after_call, result_after_create, result_after_do}
use Rattle.hep_machine.specs.Words.{result_after_fault, result_after_increment}
use Rattle.hep_machine.specs.Words.{result_after_leaving, result_after_loop_end, result_after_loop_variable, result_after_next}
use Rattle.hep_machine.specs.Words.{result_after_purge, result_after_result, result_after_value}
use Rattle.hep_machine.specs.Words.{result_after_write, fault_of, signed_value, negated_value, combined_value, function_value}
use Rattle.hep_machine.specs.Words.{state_resumed, step, store_after_both, store_after_purge}
use Rattle.hep_machine.specs.Words.{store_after_purge_at, store_after_purge_of, unit_called, unit_on_top, variable_of, living, unit_at}
use Rattle.hep_source.proofs.Tests.{and-false, and-true, or-assoc, or-false}
use Rattle.hep_machine.proofs.Changes.{Makes, by_step, top_in}
use Rattle.hep_machine.proofs.CellStates.{state-with_actuals, state-with_value}
use Rattle.hep_machine.proofs.Locations.{equal_locations}
use Rattle.hep_accesses.specs.Accesses.{access_at, access_of_do, accesses_of_next, is_incremented, is_ok, location_of, locations_from}
use Rattle.hep_accesses.specs.Accesses.{value_at}
use Rattle.hep_accesses.specs.RunEvents.{has_changed}
use Rattle.std.proofs.lemmas.Option.{same_Some}
use Rattle.hep_accesses.specs.Accesses.{accesses_on_top}
use Rattle.hep_accesses.specs.Exchanges.{next_on_top}
use Rattle.hep_races.specs.StepChanges.{accesses_after, accesses_of_fault, accesses_unless_fault, as_read, changes_of_next}
use Rattle.hep_races.specs.StepChanges.{changes_on_top, has_failed, located, units_of_target}

-- ---- truth values and numbers

-- a truth value that is the same hasn't changed
unchanged : (b c : Bool) → c ≡ b → not (same_logical b c) ≡ false
unchanged true true e = refl
unchanged false false e = refl
unchanged true false e = absurd cc
unchanged false true e = absurd cc

-- no number is below itself
not-below : (n : ℕ) → nat_lt n n ≡ false
not-below n = grind (arith, nat_tests)

-- without one and without the other
and-nor : (f a b : Bool) → ((f && not a) && not b) ≡ (f && not (a || b))
and-nor true true b = refl
and-nor true false b = refl
and-nor false a b = refl

-- what was full, and is no more
lost : (f u : Bool) → not (same_logical f (f && not u)) ≡ (f && u)
lost true true = refl
lost true false = refl
lost false u = refl

-- a list is shorter than with one item more
below-more : {A : Type 0} (xs : List A) (x : A) → nat_lt (length xs) (length (xs ++ x ∷ [])) ≡ true
below-more xs x =
    let more : length (xs ++ x ∷ []) ≡ length xs + 1 = length-append xs (x ∷ []) in
    rw more (grind (arith, nat_tests))

-- ---- stores

module _ (program : Units) (t : Top) where
  abbrev store : Store
  store = t.state.store

  -- with these faults and this store, just these storage units were changed, unless there is a fault more
  abbrev ChangesJust : List Location → List Fault → Store → Type 0
  ChangesJust cs faults new =
      (l : Location) → not (same_logical (store l).full (new l).full)
      ≡ (not (nat_lt (length t.state.faults) (length faults)) && list_any (same_location l) cs)

  abbrev HasChangedJust : List Location → State → Type 0
  HasChangedJust cs u = ChangesJust cs u.faults u.store

  -- a store in which the same storage units are full
  still : (faults : List Fault) (new : Store) → ((l : Location) → (new l).full ≡ (store l).full) → ChangesJust [] faults new
  still faults new same l =
      unchanged (store l).full (new l).full (same l) ∙ sym (and-false (not (nat_lt (length t.state.faults) (length faults))))

  -- a fault changes nothing
  failing : (cs : List Location) (k : Kind) → Makes (HasChangedJust cs) (result_after_fault program t k)
  failing cs k l =
      unchanged (store l).full (store l).full refl
      ∙ sym (ap (λ b. not b && list_any (same_location l) cs) (below-more t.state.faults (fault_of program t k)))

  -- no fault
  going : (cs : List Location) (new : Store) → ((l : Location) → not (same_logical (store l).full (new l).full) ≡ list_any
      (same_location l) cs)
      → ChangesJust cs t.state.faults new
  going cs new changes l = changes l ∙ sym (ap (λ b. not b && list_any (same_location l) cs) (not-below (length t.state.faults)))

  -- ---- one cell

  -- one that is full where the old one was not, or not where it was
  flipped : (at : Location) (cell : Slot) → cell.full ≡ not (store at).full → (l : Location)
      → not (same_logical (store l).full (with_cell store at cell l).full) ≡ list_any (same_location l) (at ∷ [])
  flipped at cell other l = by (same_location l at) refl
    where
      differs : (b c : Bool) → c ≡ not b → not (same_logical b c) ≡ true
      differs true false e = refl
      differs false true e = refl
      differs true true e = absurd cc
      differs false false e = absurd cc

      by : (b : Bool) → same_location l at ≡ b → not (same_logical (store l).full (if b then cell else store l).full) ≡ (b || false)
      by true e = differs (store l).full cell.full (other ∙ ap (λ m. not (store m).full) (sym (equal_locations l at e)))
      by false e = unchanged (store l).full (store l).full refl

  -- one that is as full as the old one
  same-cell : (at : Location) (cell : Slot) → cell.full ≡ (store at).full → (l : Location) → (with_cell store at cell l).full
      ≡ (store l).full
  same-cell at cell same l = by (same_location l at) refl
    where
      by : (b : Bool) → same_location l at ≡ b → (if b then cell else store l).full ≡ (store l).full
      by true e = same ∙ ap (λ m. (store m).full) (sym (equal_locations l at e))
      by false e = refl

  -- ---- redexes

  -- the state after an answer
  abbrev Answered : List Location → Answer → Type 0
  Answered cs a = Makes (HasChangedJust cs) (result_after_answer program t a)

  -- one that leaves the store as it was
  answered-still : (v : Value) → Answered [] (gives v store)
  answered-still v = still t.state.faults store (λ l. refl)

  read-still : (at : Location) (o : Option Value) → Answered [] (answer_at store at (access.with_stored o access.gives))
  read-still at None = failing [] _
  read-still at (Some v) = answered-still v

  wait-still : (at : Location) (full : Bool) (o : Option Value)
      → Answered [] (answer_at store at (if full then access.with_stored o access.gives else access.waits true))
  wait-still at true o = read-still at o
  wait-still at false o = tt

  -- it is emptied where it was full
  taken : (at : Location) (full : Bool) (o : Option Value) → (store at).full ≡ full
      → Answered (at ∷ []) (answer_at store at (if full then access.with_stored o (λ value. access.makes value (purged_cell (store at)))
      else access.waits true))
  taken at true None e = failing (at ∷ []) _
  taken at true (Some v) e = going (at ∷ []) (with_cell store at (purged_cell (store at)))
      (flipped at (purged_cell (store at)) (sym (ap not e)))
  taken at false o e = tt

  emptied : (at : Location) (full : Bool) (o : Option Value) → (store at).full ≡ full
      → Answered (if full then at ∷ [] else []) (answer_at store at
      (access.with_stored o (λ value. access.makes value (purged_cell (store at)))))
  emptied at full None e = failing (if full then at ∷ [] else []) _
  emptied at true (Some v) e = going (at ∷ []) (with_cell store at (purged_cell (store at)))
      (flipped at (purged_cell (store at)) (sym (ap not e)))
  emptied at false (Some v) e = still t.state.faults (with_cell store at (purged_cell (store at)))
      (same-cell at (purged_cell (store at)) (sym e))

  read-changes : (asynchronous : Bool) (at : Result Location Kind)
      → Answered (if asynchronous then located at else []) (answer_of_read_at asynchronous store at)
  read-changes true (Err k) = failing [] k
  read-changes false (Err k) = failing [] k
  read-changes false (Ok at) = read-still at (store at).value
  read-changes true (Ok at) = taken at (store at).full (store at).value refl

  abbrev change_of : StateFunction → Result Location Kind → List Location
  change_of SetEmpty at = filter (λ l. (store l).full) (located at)
  change_of _ at = []

  test-changes : (f : StateFunction) (at : Result Location Kind) → Answered (change_of f at) (answer_of_test_at f store at)
  test-changes IsFull (Err k) = failing [] k
  test-changes IsEmpty (Err k) = failing [] k
  test-changes ValueOf (Err k) = failing [] k
  test-changes SetEmpty (Err k) = failing [] k
  test-changes WaitFull (Err k) = failing [] k
  test-changes IsFull (Ok at) = still t.state.faults store (λ l. refl)
  test-changes IsEmpty (Ok at) = still t.state.faults store (λ l. refl)
  test-changes ValueOf (Ok at) = read-still at (store at).value
  test-changes SetEmpty (Ok at) = emptied at (store at).full (store at).value refl
  test-changes WaitFull (Ok at) = wait-still at (store at).full (store at).value

  by-result-changes : (r : Result Value Kind) → Answered [] (by_result r store)
  by-result-changes (Ok v) = answered-still v
  by-result-changes (Err k) = failing [] k

  abbrev scope : Scope
  scope = scope_of program t.state t.level.activation

  abbrev Told : Next → Type 0
  Told n = Makes (HasChangedJust (changes_of_next program t n)) (result_after_next program t n)

  test-told : (f : StateFunction) (r : Reference) → Told (wants (evaluating (testing f r)))
  test-told IsFull r = test-changes IsFull (location_of_name scope r.0 r.1)
  test-told IsEmpty r = test-changes IsEmpty (location_of_name scope r.0 r.1)
  test-told ValueOf r = test-changes ValueOf (location_of_name scope r.0 r.1)
  test-told SetEmpty r = test-changes SetEmpty (location_of_name scope r.0 r.1)
  test-told WaitFull r = test-changes WaitFull (location_of_name scope r.0 r.1)

  redex-told : (r : Redex) → Told (wants (evaluating r))
  redex-told (reading r) = read-changes r.0.asynchronous (location_of_name scope r.0 r.1)
  redex-told (signing s v) = by-result-changes (signed_value s v)
  redex-told (negating v) = by-result-changes (negated_value v)
  redex-told (combining o v w) = by-result-changes (combined_value o v w)
  redex-told (applying f vs) = by-result-changes (function_value f vs)
  redex-told (testing f r) = test-told f r

  -- ---- assignments

  filled : (at : Location) (v : Value) (full : Bool) → (store at).full ≡ full
      → Makes (HasChangedJust (at ∷ [])) (result_after_write program t (level_after_statement (unit_on_top program t) t.level)
      (answer_at store at (if full then access.waits false else access.makes v (record { value = Some v; full = true }))))
  filled at v true e = tt
  filled at v false e =
      let cell : Slot = record { value = Some v; full = true } in
      going (at ∷ []) (with_cell store at cell) (flipped at cell (sym (ap not e)))

  assignment-told : (asynchronous : Bool) (at : Result Location Kind) (v : Value)
      → Makes (HasChangedJust (if asynchronous then located at else [])) (result_after_assignment program t asynchronous at v)
  assignment-told true (Err k) v = failing [] k
  assignment-told false (Err k) v = failing [] k
  assignment-told false (Ok at) v =
      let cell : Slot = record { value = Some v; full = (store at).full } in
      still t.state.faults (with_cell store at cell) (same-cell at cell refl)
  assignment-told true (Ok at) v = filled at v (store at).full refl

  -- ---- DO

  value-still : (at : Location) (v : Option Value) → ChangesJust [] t.state.faults (with_value store at v)
  value-still at v = still t.state.faults (with_value store at v) (λ l. state-with_value store at v l)

  do-told : (at : Result Location Kind) (m increment : ℤ) (count : Result ℤ Kind)
      → Makes (HasChangedJust []) (result_after_do program t at m increment count)
  do-told at m increment (Err k) = failing [] k
  do-told (Err k) m increment (Ok count) = failing [] k
  do-told (Ok at) m increment (Ok count) = value-still at (Some (Int m))

  increment-told : (l : Loop) (at : Location) (z : Result ℤ Kind) → Makes (HasChangedJust []) (result_after_increment program t l at z)
  increment-told l at (Err k) = failing [] k
  increment-told l at (Ok z) = value-still at (Some (Int z))

  variable-told : (l : Loop) (at : Location) (v : Option Value) → Makes (HasChangedJust []) (result_after_loop_variable program t l at v)
  variable-told l at None = failing [] _
  variable-told l at (Some v) = increment-told l at (integer_or_overflow (integer_of v +ℤ l.increment))

  end-told : (l : Loop) (at : Result Location Kind) → Makes (HasChangedJust []) (result_after_loop_end program t l at)
  end-told l (Err k) = failing [] k
  end-told l (Ok at) = variable-told l at (store at).value

  -- ---- CALL, CREATE and references

  abbrev IsStill : Store → Type 0
  IsStill new = (l : Location) → (new l).full ≡ (store l).full

  abbrev BindsStill : Result Binding Kind → Type 0
  BindsStill (Err k) = Unit {0}
  BindsStill (Ok b) = IsStill b.store

  with_store-still : (new : Store) (ds : Result (List Dummy) Kind) → IsStill new → BindsStill (with_store new ds)
  with_store-still new (Err k) h = tt
  with_store-still new (Ok ds) h = h

  shapes-still : (unit : List Statement) (a : ℕ) (new : Store) (ds : Result (List Dummy) Kind) → IsStill new
      → BindsStill (binding_with_shapes unit a new ds)
  shapes-still unit a new (Err k) h = tt
  shapes-still unit a new (Ok ds) h =
      with_store-still new (with_shapes (record { unit = unit; number = a; dummies = ds }) new (dummies_of unit) ds) h

  binding-still : (u : ℕ) (ys : List Actual) → BindsStill (binding_of program t u ys)
  binding-still u ys =
      let unit = unit_at program u in
      let a = next_activation t.state in
      shapes-still unit a (with_actuals store a (dummies_of unit) ys) (dummies_for scope a (dummies_of unit) ys) (
      state-with_actuals store a (dummies_of unit) ys)

  call-told : (u : ℕ) (b : Result Binding Kind) → BindsStill b → Makes (HasChangedJust []) (result_after_call program t u b)
  call-told u (Err k) h = failing [] k
  call-told u (Ok b) h = still t.state.faults b.store h

  create-told : (u : ℕ) (b : Result Binding Kind) → BindsStill b → Makes (HasChangedJust []) (result_after_create program t u b)
  create-told u (Err k) h = failing [] k
  create-told u (Ok b) h = still t.state.faults b.store h

  -- ---- the end of an activation, and RESUME

  nothing : ChangesJust [] t.state.faults store
  nothing = still t.state.faults store (λ l. refl)

  value-told : (v : Option Value) → Makes (HasChangedJust []) (result_after_value program t v)
  value-told None = failing [] Undefined
  value-told (Some v) = nothing

  result-told : (at : Result Location Kind) → Makes (HasChangedJust []) (result_after_result program t at)
  result-told (Err k) = failing [] k
  result-told (Ok at) = value-told (store at).value

  leaving-told : (x : Option Name) → Makes (HasChangedJust []) (result_after_leaving program t x)
  leaving-told None = nothing
  leaving-told (Some x) = result-told (location_of_name scope x [])

  resumed-told : (below : Process) → HasChangedJust [] (state_resumed program t below)
  resumed-told [] = nothing
  resumed-told (caller ∷ callers) = nothing

  -- ---- PURGE

  -- of two lists of storage units
  among-both : (f : Location → Bool) (xs ys : List Location) → list_any f (xs ++ ys) ≡ (list_any f xs || list_any f ys)
  among-both f [] ys = refl
  among-both f (x ∷ xs) ys = ap (λ b. f x || b) (among-both f xs ys) ∙ sym (or-assoc (f x) (list_any f xs) (list_any f ys))

  -- of those that are full
  among-full : (l : Location) (xs : List Location)
      → list_any (same_location l) (filter (λ m. (store m).full) xs) ≡ ((store l).full && list_any (same_location l) xs)
  among-full l [] = sym (and-false (store l).full)
  among-full l (x ∷ xs) = by (same_location l x) refl (store x).full refl (among-full l xs)
    where
      cases : (a f r : Bool) → (a || (f && r)) ≡ (f && (a || r)) ⊎ (f ≡ false)
      cases true true r = inl refl
      cases false true r = inl refl
      cases a false r = inr refl

      by : (b : Bool) → same_location l x ≡ b → (full : Bool) → (store x).full ≡ full
          → list_any (same_location l) (filter (λ m. (store m).full) xs) ≡ ((store l).full && list_any (same_location l) xs)
          → list_any (same_location l) (if full then x ∷ filter (λ m. (store m).full) xs else filter (λ m. (store m).full) xs)
          ≡ ((store l).full && (b || list_any (same_location l) xs))
      by true same true is rest =
          let full : (store l).full ≡ true = ap (λ m. (store m).full) (equal_locations l x same) ∙ is in
          ap (λ b. b || list_any (same_location l) (filter (λ m. (store m).full) xs)) same ∙ sym (ap (λ b. b && true) full)
      by true same false is rest =
          let full : (store l).full ≡ false = ap (λ m. (store m).full) (equal_locations l x same) ∙ is in
          rest ∙ ap (λ b. b && list_any (same_location l) xs) full ∙ sym (ap (λ b. b && true) full)
      by false same true is rest = ap (λ b. b || list_any (same_location l) (filter (λ m. (store m).full) xs)) same ∙ rest
      by false same false is rest = rest

  -- what is left full by emptying one storage unit, and several from one on
  emptied-one : (old : Store) (at l : Location) → (with_empty old at l).full ≡ ((old l).full && not (same_location l at))
  emptied-one old at l = by (same_location l at)
    where
      by : (b : Bool) → (if b then purged_cell (old at) else old l).full ≡ ((old l).full && not b)
      by true = sym (and-false (old l).full)
      by false = sym (and-true (old l).full)

  emptied-all : (n : ℕ) (at : Location) (old : Store) (l : Location)
      → (emptied_from n at old l).full ≡ ((old l).full && not (list_any (same_location l) (locations_from n at)))
  emptied-all zero at old l = sym (and-true (old l).full)
  emptied-all (suc n) at old l =
      emptied-all n (further at 1) (with_empty old at) l
      ∙ ap (λ b. b && not (list_any (same_location l) (locations_from n (further at 1)))) (emptied-one old at l)
      ∙ and-nor (old l).full (same_location l at) (list_any (same_location l) (locations_from n (further at 1)))

  -- a store in which just these storage units were emptied
  abbrev EmptiesJust : List Location → Store → Result Store Kind → Type 0
  EmptiesJust us old (Err k) = Unit {0}
  EmptiesJust us old (Ok new) = (l : Location) → (new l).full ≡ ((old l).full && not (list_any (same_location l) us))

  purged-at : (old : Store) (at : Result Location Kind) → EmptiesJust (located at) old (store_after_purge_at old at)
  purged-at old (Err k) = tt
  purged-at old (Ok at) = λ l. emptied-one old at l ∙ ap (λ b. (old l).full && not b) (sym (or-false (same_location l at)))

  target-purged : (r : Reference) (old : Store) → EmptiesJust (units_of_target program t r) old (store_after_purge_of scope r old)
  target-purged r old = by (is_array scope.unit r.0 && not (is_nonempty r.1))
    where
      by : (b : Bool) → EmptiesJust (if b then locations_from (storage_of scope r.0).rest (storage_of scope r.0).start else located
          (location_of_name scope r.0 r.1)) old
          (if b then Ok (emptied_from (storage_of scope r.0).rest (storage_of scope r.0).start old) else store_after_purge_at old
          (location_of_name scope r.0 r.1))
      by true = emptied-all (storage_of scope r.0).rest (storage_of scope r.0).start old
      by false = purged-at old (location_of_name scope r.0 r.1)

  all-purged : (rs : List Reference) (old : Store)
      → EmptiesJust (flat_map (units_of_target program t) rs) old (store_after_purge scope rs old)
  all-purged [] old = λ l. sym (and-true (old l).full)
  all-purged (r ∷ rs) old = by (store_after_purge_of scope r old) (target-purged r old) (λ next. all-purged rs next)
    where
      us : List Location
      us = units_of_target program t r

      vs : List Location
      vs = flat_map (units_of_target program t) rs

      more : (next : Store) (last : Result Store Kind) → EmptiesJust us old (Ok next) → EmptiesJust vs next last
          → EmptiesJust (us ++ vs) old last
      more next (Err k) g h = tt
      more next (Ok new) g h =
          λ l. h l ∙ ap (λ b. b && not (list_any (same_location l) vs)) (g l)
          ∙ and-nor (old l).full (list_any (same_location l) us) (list_any (same_location l) vs)
          ∙ ap (λ b. (old l).full && not b) (sym (among-both (same_location l) us vs))

      by : (first : Result Store Kind) → EmptiesJust us old first → ((next : Store) → EmptiesJust vs next (store_after_purge scope rs next))
          → EmptiesJust (us ++ vs) old (store_after_both first (store_after_purge scope rs))
      by (Err k) g rest = tt
      by (Ok next) g rest = more next (store_after_purge scope rs next) g (rest next)

  purge-told : (us : List Location) (r : Result Store Kind) → EmptiesJust us store r
      → Makes (HasChangedJust (filter (λ l. (store l).full) us)) (result_after_purge program t r)
  purge-told us (Err k) h = failing (filter (λ l. (store l).full) us) k
  purge-told us (Ok new) h =
      going (filter (λ l. (store l).full) us) new (λ l. ap (λ b. not (same_logical (store l).full b)) (h l)
      ∙ lost (store l).full (list_any (same_location l) us) ∙ sym (among-full l us))

  -- ---- what comes next

  action-told : (a : Action) → Told (does a)
  action-told (assigning r v) = assignment-told r.0.asynchronous (location_of_name scope r.0 r.1) v
  action-told (jumping l) = nothing
  action-told (choosing labels v) = nothing
  action-told (branching labels v) = nothing
  action-told (testing_condition v) = nothing
  action-told (entering_block v) = nothing
  action-told (entering_loop x m n k) = do-told (location_of_name scope x []) (integer_of m) (integer_of k)
      (iterations (integer_of m) (integer_of n) (integer_of k))
  action-told (ending_loop d) = end-told (loop_at t.level.loops d) (location_of_name scope (variable_of (unit_on_top program t) d) [])
  action-told (calling x actuals) = call-told (unit_called program x) (binding_of program t (unit_called program x) actuals)
      (binding-still (unit_called program x) actuals)
  action-told (creating x actuals) = create-told (unit_called program x) (binding_of program t (unit_called program x) actuals)
      (binding-still (unit_called program x) actuals)
  action-told (purging targets) = purge-told (flat_map (units_of_target program t) targets) (store_after_purge scope targets store)
      (all-purged targets store)
  action-told (printing items) = nothing
  action-told continuing = nothing
  action-told leaving = leaving-told (function_name (unit_on_top program t))
  action-told resuming = resumed-told t.below
  action-told stopping = nothing

  told : (n : Next) → Told n
  told (wants (evaluating r)) = redex-told r
  told (wants (referring x actuals)) = call-told (function_unit program x) (binding_of program t (function_unit program x) actuals)
      (binding-still (function_unit program x) actuals)
  told (does a) = action-told a

  -- ---- accesses

  -- what is accessed after all, where there are these faults
  abbrev AccessesJust : Next → List Fault → Type 0
  AccessesJust n faults =
      accesses_of_next program t n
      ≡ accesses_after n (nat_lt (length t.state.faults) (length faults)) (accesses_unless_fault program t n)

  abbrev HasAccessedJust : Next → State → Type 0
  HasAccessedJust n u = AccessesJust n u.faults

  failing-accesses : (n : Next) (k : Kind) → accesses_of_next program t n ≡ accesses_after n true (accesses_unless_fault program t n)
      → Makes (HasAccessedJust n) (result_after_fault program t k)
  failing-accesses n k h =
      h ∙ sym (ap (λ b. accesses_after n b (accesses_unless_fault program t n)) (below-more t.state.faults (fault_of program t k)))

  going-accesses : (n : Next) → accesses_of_next program t n ≡ accesses_after n false (accesses_unless_fault program t n)
      → AccessesJust n t.state.faults
  going-accesses n h = h ∙ sym (ap (λ b. accesses_after n b (accesses_unless_fault program t n)) (not-below (length t.state.faults)))

  -- the accesses of other steps don't depend on it
  always : (n : Next) → accesses_unless_fault program t n ≡ accesses_of_next program t n
      → accesses_of_fault n (accesses_unless_fault program t n) ≡ accesses_of_next program t n → (r : StepResult)
      → Makes (HasAccessedJust n) r
  always n h g (stepped u) = by (has_failed t.state u)
    where
      by : (b : Bool) → accesses_of_next program t n
          ≡ (if b then accesses_of_fault n (accesses_unless_fault program t n) else accesses_unless_fault program t n)
      by true = sym g
      by false = sym h
  always n h g (waiting w) = tt
  always n h g absent = tt

  do-accesses : (x : Name) (m n k : Value) (at : Result Location Kind) (count : Result ℤ Kind) → location_of program t (x, []) ≡ at
      → iterations (integer_of m) (integer_of n) (integer_of k) ≡ count
      → Makes (HasAccessedJust (does (entering_loop x m n k))) (result_after_do program t at (integer_of m) (integer_of k) count)
  do-accesses x m n k at (Err kind) e f = failing-accesses (does (entering_loop x m n k)) kind
      (ap (λ c. access_of_do program t x (is_ok c)) f)
  do-accesses x m n k (Err kind) (Ok count) e f =
      failing-accesses (does (entering_loop x m n k)) kind (ap (λ c. access_of_do program t x (is_ok c)) f
      ∙ ap (access_at program t x true) e)
  do-accesses x m n k (Ok at) (Ok count) e f =
      going-accesses (does (entering_loop x m n k)) (ap (λ c. access_of_do program t x (is_ok c)) f)

  module _ (d : ℕ) where
    abbrev name : Name
    name = variable_of (unit_on_top program t) d

    abbrev loop : Loop
    loop = loop_at t.level.loops d

    abbrev own_location : Result Location Kind
    own_location = location_of program t (name, [])

    abbrev next : Next
    next = does (ending_loop d)

    -- a read, or a store
    end-fault : (k : Kind) (at : Location) → own_location ≡ Ok at → is_incremented program t loop (value_at program t own_location) ≡ false
        → Makes (HasAccessedJust next) (result_after_fault program t k)
    end-fault k at e f =
        failing-accesses next k (ap (λ b. access_at program t name b own_location) f ∙ ap (access_at program t name false) e
        ∙ sym (ap (λ o. map as_read (access_at program t name true o)) e))

    incremented-accesses : (at : Location) (v : Value) (z : Result ℤ Kind) → own_location ≡ Ok at → (store at).value ≡ Some v
        → integer_or_overflow (integer_of v +ℤ loop.increment) ≡ z
        → Makes (HasAccessedJust next) (result_after_increment program t loop at z)
    incremented-accesses at v (Err k) e f g =
        end-fault k at e (ap (λ o. is_incremented program t loop (value_at program t o)) e ∙ ap (is_incremented program t loop) f
        ∙ ap is_ok g)
    incremented-accesses at v (Ok z) e f g =
        going-accesses next (ap (λ b. access_at program t name b own_location) (
        ap (λ o. is_incremented program t loop (value_at program t o)) e ∙ ap (is_incremented program t loop) f ∙ ap is_ok g))

    variable-accesses : (at : Location) (o : Option Value) → own_location ≡ Ok at → (store at).value ≡ o
        → Makes (HasAccessedJust next) (result_after_loop_variable program t loop at o)
    variable-accesses at None e f =
        end-fault Undefined at e (ap (λ o. is_incremented program t loop (value_at program t o)) e ∙ ap (is_incremented program t loop) f)
    variable-accesses at (Some v) e f = incremented-accesses at v (integer_or_overflow (integer_of v +ℤ loop.increment)) e f refl

    end-accesses : (at : Result Location Kind) → own_location ≡ at → Makes (HasAccessedJust next) (result_after_loop_end program t loop at)
    end-accesses (Err k) e =
        failing-accesses next k (
        ap (access_at program t name (is_incremented program t loop (value_at program t own_location))) e
        ∙ sym (ap (λ o. map as_read (access_at program t name true o)) e))
    end-accesses (Ok at) e = variable-accesses at (store at).value e refl

  action-accesses : (a : Action) → Makes (HasAccessedJust (does a)) (result_after_next program t (does a))
  action-accesses (entering_loop x m n k) =
      do-accesses x m n k (location_of program t (x, [])) (iterations (integer_of m) (integer_of n) (integer_of k)) refl refl
  action-accesses (ending_loop d) = end-accesses d (location_of program t (variable_of (unit_on_top program t) d, [])) refl
  action-accesses (assigning r v) = always (does (assigning r v)) refl refl (result_after_next program t (does (assigning r v)))
  action-accesses (jumping l) = always (does (jumping l)) refl refl (result_after_next program t (does (jumping l)))
  action-accesses (choosing ls v) = always (does (choosing ls v)) refl refl (result_after_next program t (does (choosing ls v)))
  action-accesses (branching ls v) = always (does (branching ls v)) refl refl (result_after_next program t (does (branching ls v)))
  action-accesses (testing_condition v) =
      always (does (testing_condition v)) refl refl (result_after_next program t (does (testing_condition v)))
  action-accesses (entering_block v) = always (does (entering_block v)) refl refl (result_after_next program t (does (entering_block v)))
  action-accesses (calling x ys) = always (does (calling x ys)) refl refl (result_after_next program t (does (calling x ys)))
  action-accesses (creating x ys) = always (does (creating x ys)) refl refl (result_after_next program t (does (creating x ys)))
  action-accesses (purging rs) = always (does (purging rs)) refl refl (result_after_next program t (does (purging rs)))
  action-accesses (printing items) = always (does (printing items)) refl refl (result_after_next program t (does (printing items)))
  action-accesses continuing = always (does continuing) refl refl (result_after_next program t (does continuing))
  action-accesses leaving = always (does leaving) refl refl (result_after_next program t (does leaving))
  action-accesses resuming = always (does resuming) refl refl (result_after_next program t (does resuming))
  action-accesses stopping = always (does stopping) refl refl (result_after_next program t (does stopping))

  accesses-told : (n : Next) → Makes (HasAccessedJust n) (result_after_next program t n)
  accesses-told (wants r) = always (wants r) refl refl (result_after_next program t (wants r))
  accesses-told (does a) = action-accesses a

-- ---- a step

-- what holds of each result of what comes next of a process holds of its step
of-step : (P : Top → State → Type 0) (program : Units) (p : ℕ) (s u : State) (top : Level × Process) → living s p ≡ Some top
    → ((t : Top) → Makes (P t) (result_after_next program t (next_on_top program t))) → step program p s ≡ Some u → P (top_in s p top) u
of-step P program p s u top lives h e =
    let found = by_step P program p s u (λ z is. h (top_in s p z)) e in
    subst (λ z. P (top_in s p z) u) (same_Some found.0 top (sym found.1 ∙ lives)) found.2

-- what a step makes full or empty
pub changed-units : (program : Units) (p : ℕ) (s u : State) (top : Level × Process) → living s p ≡ Some top → step program p s ≡ Some u
    → (l : Location)
    → has_changed s u l ≡ (not (has_failed s u) && list_any (same_location l) (changes_on_top program (top_in s p top)))
changed-units program p s u top lives e =
    of-step (λ t v. HasChangedJust program t (changes_on_top program t) v) program p s u top lives
    (λ t. told program t (next_on_top program t)) e

-- what it accesses
pub accessed-units : (program : Units) (p : ℕ) (s u : State) (top : Level × Process) → living s p ≡ Some top → step program p s ≡ Some u
    → accesses_on_top program (top_in s p top)
    ≡ accesses_after (next_on_top program (top_in s p top)) (has_failed s u)
    (accesses_unless_fault program (top_in s p top) (next_on_top program (top_in s p top)))
accessed-units program p s u top lives e =
    of-step (λ t v. HasAccessedJust program t (next_on_top program t) v) program p s u top lives
    (λ t. accesses-told program t (next_on_top program t)) e
