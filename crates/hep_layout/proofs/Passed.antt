-- What a step passes to a new activation, and where it stores.
use Rattle.std.specs.Result.{IfOk}
use Rattle.std.proofs.Common.{◌≡◌, ◌⊎◌, inl, inr, ℕ, zero, suc, ◌-◌, ◌<◌, ◌≤◌, Bool, true, false, List, [], ◌∷◌, ◌++◌, length, Option, Some, None, Result, Ok, Err, refl, ◌∙◌, arith, ℤ, ◌+ℤ◌, ◌&&◌, not, length-append}
use Rattle.hep_machine.specs.Words.{StateFunction, IsFull, IsEmpty, ValueOf, SetEmpty, WaitFull, Name, Statement, Value, Int, index_among, Units, unit_at, dummies_of, Outcome, reading_asynchronous, setting_empty, waiting_full, integer_of, integer_or_overflow, signed_value, negated_value, combined_value, function_value}
use Rattle.hep_machine.specs.Words.{Binding, binding_for, binding_with_shapes, bound_values, dummies_for, dummy_before, dummy_for, dummy_with_shape, first_element, from_element, with_actual, with_actuals, with_shape, with_shapes, with_store, shape_by, level_after_statement, variable_of, BlockName, common_block}
use Rattle.hep_machine.specs.Words.{is_array, is_nonempty, Redex, signing, negating, combining, applying, testing, Actual, evaluated, referred, Action, assigning, jumping, choosing, branching, testing_condition, entering_block, entering_loop, ending_loop, calling, creating, purging, printing, continuing, leaving, resuming, RedexOrReference, evaluating, referring, function_name, function_unit, Process, state_resumed}
use Rattle.hep_machine.specs.Words.{result_after_leaving, result_after_result, result_after_sought, result_after_value}
use Rattle.hep_machine.specs.Words.{stopping, Next, wants, does, Reference, Scope, dummy_at, element_of, location_in, location_of_name, start_by_block, storage_by_dummy, storage_of, loop_at, Bounds, fits, Activation, Cell, Dummy, Level, Location, Loop, State, Store, local, common, Answer, fails, answer_at, answer_of}
use Rattle.hep_machine.specs.Words.{answer_of_read_at, answer_of_test_at, binding_of, by_result, iterations, next_activation, result_after_action, result_after_answer, result_after_assignment, result_after_call, result_after_create, result_after_do, result_after_increment, result_after_loop_end}
use Rattle.hep_machine.specs.Words.{result_after_loop_variable, result_after_next, result_after_purge, result_after_write, scope_of, store_after_both, store_after_purge, store_after_purge_at, store_after_purge_of, Top, unit_called, unit_on_top, written, with_activation, emptied_from, further, same_location, with_cell}
use Rattle.hep_machine.specs.Words.{with_empty, with_value}
use Rattle.hep_machine.specs.declared.event.Kind.{Kind}
use Rattle.hep_machine.specs.declared.event.Kind.TheVariants.{Shape}
use Rattle.hep_machine.specs.Access as access
use Rattle.hep_machine.specs.Evaluation.{reading}
use Rattle.hep_machine.specs.Step.{gives, waits}
use Rattle.hep_machine.proofs.Changes.{Makes}
use Rattle.hep_layout.specs.Words.{IsMadeAt}
use Rattle.std.proofs.lemmas.Bool.{ne_eqb, cond_both}

-- ---- dummy arguments

-- what a dummy argument of a new activation stands for: a variable of its own, or a part of what a name stands for where it is made
abbrev pub IsPassed : Scope → ℕ → Location → Type 0
IsPassed scope a at = ((x : Name) × (at ≡ local a x 1)) ⊎ ((x : Name) × (k : ℕ) × (at ≡ further (storage_of scope x).start k))

abbrev pub ArePassed : Scope → ℕ → List Dummy → Type 0
ArePassed scope a [] = Unit {0}
ArePassed scope a (d ∷ ds) = IsPassed scope a d.start × ArePassed scope a ds

abbrev OnePassed : Scope → ℕ → Result Dummy Kind → Type 0
OnePassed scope a r = IfOk r (λ d. IsPassed scope a d.start)

abbrev AllPassed : Scope → ℕ → Result (List Dummy) Kind → Type 0
AllPassed scope a r = IfOk r (ArePassed scope a)

passed-before : (scope : Scope) (a : ℕ) (d : Result Dummy Kind) (ds : Result (List Dummy) Kind) → OnePassed scope a d → AllPassed scope a ds → AllPassed scope a (dummy_before d ds)
passed-before scope a (Err k) ds h l = tt
passed-before scope a (Ok d) (Err k) h l = tt
passed-before scope a (Ok d) (Ok ds) h l = (h, l)

passed-element : (scope : Scope) (a : ℕ) (x : Name) (n : Result ℕ Kind) → OnePassed scope a (from_element (storage_of scope x) n)
passed-element scope a x (Err k) = tt
passed-element scope a x (Ok n) = inr (x, n - 1, refl)

passed-dummy : (scope : Scope) (a : ℕ) (x : Name) (y : Actual) → OnePassed scope a (dummy_for scope a x y)
passed-dummy scope a x (evaluated v) = inl (x, refl)
passed-dummy scope a x (referred r) = passed-element scope a r.0 (first_element scope r)

passed-dummies : (scope : Scope) (a : ℕ) (xs : List Name) (ys : List Actual) → AllPassed scope a (dummies_for scope a xs ys)
passed-dummies scope a [] ys = tt
passed-dummies scope a (x ∷ xs) [] = tt
passed-dummies scope a (x ∷ xs) (y ∷ ys) = passed-before scope a (dummy_for scope a x y) (dummies_for scope a xs ys) (passed-dummy scope a x y) (passed-dummies scope a xs ys)

passed-shaped : (scope : Scope) (a : ℕ) (d : Dummy) (shape : Option Bounds) → IsPassed scope a d.start → OnePassed scope a (dummy_with_shape d shape)
passed-shaped scope a d None h = tt
passed-shaped scope a d (Some bs) h = cond_both (fits bs d.rest) (Ok (record d { shape = bs })) (Err Shape) (OnePassed scope a) (λ e. h) (λ e. tt)

passed-shape : (scope : Scope) (a : ℕ) (new : Scope) (store : Store) (x : Name) (d : Dummy) → IsPassed scope a d.start → OnePassed scope a (with_shape new store x d)
passed-shape scope a new store x d h =
    let shape = shape_by new.unit (bound_values new store) x in
    cond_both (is_array new.unit x) (dummy_with_shape d shape) (Ok d) (OnePassed scope a) (λ e. passed-shaped scope a d shape h) (λ e. h)

passed-shapes : (scope : Scope) (a : ℕ) (new : Scope) (store : Store) (xs : List Name) (ds : List Dummy) → ArePassed scope a ds → AllPassed scope a (with_shapes new store xs ds)
passed-shapes scope a new store [] ds h = tt
passed-shapes scope a new store (x ∷ xs) [] h = tt
passed-shapes scope a new store (x ∷ xs) (d ∷ ds) h =
    passed-before scope a (with_shape new store x d) (with_shapes new store xs ds) (passed-shape scope a new store x d h.0) (passed-shapes scope a new store xs ds h.1)

-- ---- stores

-- what activations after the n-th one would have stored is the same in both
abbrev pub KeepsLater : ℕ → Store → Store → Type 0
KeepsLater n old new = (a : ℕ) (x : Name) (i : ℕ) → n < a → new (local a x i) ≡ old (local a x i)

elsewhere : (n a : ℕ) (x : Name) (i : ℕ) (at : Location) → IsMadeAt n at → n < a → same_location (local a x i) at ≡ false
elsewhere n a x i (common b k) made later = refl
elsewhere n a x i (local b y j) made later = rw (ne_eqb a b (λ same. omega arith)) refl

later-with_cell : (n : ℕ) (old : Store) (at : Location) (cell : Cell) → IsMadeAt n at → KeepsLater n old (with_cell old at cell)
later-with_cell n old at cell made a x i later = rw (elsewhere n a x i at made later) refl

pub made-further : (n : ℕ) (at : Location) (k : ℕ) → IsMadeAt n at → IsMadeAt n (further at k)
made-further n (local a x i) k made = made
made-further n (common b i) k made = tt

later-emptied : (n count : ℕ) (at : Location) (old : Store) → IsMadeAt n at → KeepsLater n old (emptied_from count at old)
later-emptied n zero at old made a x i later = refl
later-emptied n (suc count) at old made a x i later =
    later-emptied n count (further at 1) (with_empty old at) (made-further n at 1 made) a x i later ∙ later-with_cell n old at (access.purged_cell (old at)) made a x i later

later-with_actual : (old : Store) (a : ℕ) (x : Name) (y : Actual) → KeepsLater a old (with_actual old a x y)
later-with_actual old a x (evaluated v) = later-with_cell a old (local a x 1) (record { value = Some v; full = (old (local a x 1)).full }) (omega arith)
later-with_actual old a x (referred r) = λ b z i later. refl

later-with_actuals : (old : Store) (a : ℕ) (xs : List Name) (ys : List Actual) → KeepsLater a old (with_actuals old a xs ys)
later-with_actuals old a [] ys b z i later = refl
later-with_actuals old a (x ∷ xs) [] b z i later = refl
later-with_actuals old a (x ∷ xs) (y ∷ ys) b z i later = later-with_actuals (with_actual old a x y) a xs ys b z i later ∙ later-with_actual old a x y b z i later

-- ---- binding

abbrev BindsPassed : Scope → ℕ → Store → Result Binding Kind → Type 0
BindsPassed scope a old r = IfOk r (λ b. KeepsLater a old b.store × ArePassed scope a b.dummies)

binds-with_store : (scope : Scope) (a : ℕ) (old new : Store) (ds : Result (List Dummy) Kind) → KeepsLater a old new → AllPassed scope a ds → BindsPassed scope a old (with_store new ds)
binds-with_store scope a old new (Err k) h l = tt
binds-with_store scope a old new (Ok ds) h l = (h, l)

binds-with_shapes : (scope : Scope) (unit : List Statement) (a : ℕ) (old new : Store) (ds : Result (List Dummy) Kind) → KeepsLater a old new → AllPassed scope a ds → BindsPassed scope a old (binding_with_shapes unit a new ds)
binds-with_shapes scope unit a old new (Err k) h l = tt
binds-with_shapes scope unit a old new (Ok ds) h l =
    binds-with_store scope a old new (with_shapes (record { unit = unit; number = a; dummies = ds }) new (dummies_of unit) ds) h (passed-shapes scope a (record { unit = unit; number = a; dummies = ds }) new (dummies_of unit) ds l)

binds-binding : (scope : Scope) (old : Store) (unit : List Statement) (a : ℕ) (ys : List Actual) → BindsPassed scope a old (binding_for scope old unit a ys)
binds-binding scope old unit a ys =
    binds-with_shapes scope unit a old (with_actuals old a (dummies_of unit) ys) (dummies_for scope a (dummies_of unit) ys) (later-with_actuals old a (dummies_of unit) ys) (passed-dummies scope a (dummies_of unit) ys)

-- ---- what names stand for

-- a scope whose activation was made, and whose dummy arguments stand for what was made
abbrev pub IsMadeScope : ℕ → Scope → Type 0
IsMadeScope n scope = (scope.number ≤ n) × ((k : ℕ) → IsMadeAt n (dummy_at scope.dummies k).start)

abbrev OkMade : ℕ → Result Location Kind → Type 0
OkMade n r = IfOk r (IsMadeAt n)

pub made-storage : (n : ℕ) (scope : Scope) (x : Name) → IsMadeScope n scope → IsMadeAt n (storage_of scope x).start
made-storage n scope x made = by_index (index_among x (dummies_of scope.unit)) where
  by_block : (b : Option BlockName) → IsMadeAt n (start_by_block scope x b)
  by_block None = made.0
  by_block (Some b) = tt

  by_index : (o : Option ℕ) → IsMadeAt n (storage_by_dummy scope x o).start
  by_index None = by_block (common_block scope.unit x)
  by_index (Some k) = made.1 k

made-location : (n : ℕ) (scope : Scope) (x : Name) (subscripts : List Value) → IsMadeScope n scope → OkMade n (location_of_name scope x subscripts)
made-location n scope x subscripts made = by_element (element_of (storage_of scope x) subscripts) where
  by_element : (r : Result ℕ Kind) → OkMade n (location_in (storage_of scope x) r)
  by_element (Err k) = tt
  by_element (Ok m) = made-further n (storage_of scope x).start (m - 1) (made-storage n scope x made)

-- ---- a redex

abbrev GivesLater : ℕ → Store → Answer → Type 0
GivesLater n old (gives v new) = KeepsLater n old new
GivesLater n old (waits w) = Unit {0}
GivesLater n old (fails k) = Unit {0}

keeps-all : (n : ℕ) (old : Store) → KeepsLater n old old
keeps-all n old a x i later = refl

later-by_result : (n : ℕ) (old : Store) (r : Result Value Kind) → GivesLater n old (by_result r old)
later-by_result n old (Ok v) = keeps-all n old
later-by_result n old (Err k) = tt

later-answer_at : (n : ℕ) (old : Store) (at : Location) (o : Outcome) → IsMadeAt n at → GivesLater n old (answer_at old at o)
later-answer_at n old at (access.gives v) made = keeps-all n old
later-answer_at n old at (access.makes v cell) made = later-with_cell n old at cell made
later-answer_at n old at (access.waits full) made = tt
later-answer_at n old at access.undefined made = tt

later-read : (n : ℕ) (asynchronous : Bool) (old : Store) (at : Result Location Kind) → OkMade n at → GivesLater n old (answer_of_read_at asynchronous old at)
later-read n asynchronous old (Err k) made = tt
later-read n false old (Ok at) made = later-answer_at n old at (access.reading (old at)) made
later-read n true old (Ok at) made = later-answer_at n old at (reading_asynchronous (old at)) made

later-test : (n : ℕ) (f : StateFunction) (old : Store) (at : Result Location Kind) → OkMade n at → GivesLater n old (answer_of_test_at f old at)
later-test n f old (Err k) made = tt
later-test n IsFull old (Ok at) made = keeps-all n old
later-test n IsEmpty old (Ok at) made = keeps-all n old
later-test n ValueOf old (Ok at) made = later-answer_at n old at (access.reading (old at)) made
later-test n SetEmpty old (Ok at) made = later-answer_at n old at (setting_empty (old at)) made
later-test n WaitFull old (Ok at) made = later-answer_at n old at (waiting_full (old at)) made

later-answer : (n : ℕ) (scope : Scope) (old : Store) (r : Redex) → IsMadeScope n scope → GivesLater n old (answer_of scope old r)
later-answer n scope old (reading r) made = later-read n r.0.asynchronous old (location_of_name scope r.0 r.1) (made-location n scope r.0 r.1 made)
later-answer n scope old (signing s v) made = later-by_result n old (signed_value s v)
later-answer n scope old (negating v) made = later-by_result n old (negated_value v)
later-answer n scope old (combining o v w) made = later-by_result n old (combined_value o v w)
later-answer n scope old (applying f vs) made = later-by_result n old (function_value f vs)
later-answer n scope old (testing f r) made = later-test n f old (location_of_name scope r.0 r.1) (made-location n scope r.0 r.1 made)

-- ---- PURGE

abbrev OkLater : ℕ → Store → Result Store Kind → Type 0
OkLater n old r = IfOk r (KeepsLater n old)

later-purge_at : (n : ℕ) (old : Store) (at : Result Location Kind) → OkMade n at → OkLater n old (store_after_purge_at old at)
later-purge_at n old (Err k) made = tt
later-purge_at n old (Ok at) made = later-with_cell n old at (access.purged_cell (old at)) made

later-purge_of : (n : ℕ) (scope : Scope) (r : Reference) (old : Store) → IsMadeScope n scope → OkLater n old (store_after_purge_of scope r old)
later-purge_of n scope r old made =
    let all = storage_of scope r.0 in
    cond_both (is_array scope.unit r.0 && not (is_nonempty r.1)) (Ok (emptied_from all.rest all.start old)) (store_after_purge_at old (location_of_name scope r.0 r.1)) (OkLater n old)
    (λ e. later-emptied n all.rest all.start old (made-storage n scope r.0 made)) (λ e. later-purge_at n old (location_of_name scope r.0 r.1) (made-location n scope r.0 r.1 made))

later-purge : (n : ℕ) (scope : Scope) (rs : List Reference) (first old : Store) → IsMadeScope n scope → KeepsLater n first old → OkLater n first (store_after_purge scope rs old)
later-purge n scope [] first old made h = h
later-purge n scope (r ∷ rs) first old made h = by_first (store_after_purge_of scope r old) (later-purge_of n scope r old made) (λ new k. later-purge n scope rs first new made k) where
  by_first : (o : Result Store Kind) → OkLater n old o → ((new : Store) → KeepsLater n first new → OkLater n first (store_after_purge scope rs new)) → OkLater n first (store_after_both o (store_after_purge scope rs))
  by_first (Err k) l rest = tt
  by_first (Ok new) l rest = rest new (λ a x i later. l a x i later ∙ h a x i later)

-- ---- a step

-- a new activation is the child of the one on top, and gets what that one passes
abbrev pub HasPassed : Units → Top → State → Type 0
HasPassed program t s =
    (s.activations ≡ t.state.activations) ⊎ ((x : Activation) × (s.activations ≡ t.state.activations ++ x ∷ []) × (x.parent ≡ Some t.level.activation)
    × ArePassed (scope_of program t.state t.level.activation) (next_activation t.state) x.dummies)

abbrev pub HasStored : Units → Top → State → Type 0
HasStored program t s = KeepsLater (length s.activations) t.state.store s.store × HasPassed program t s

module _ (program : Units) (t : Top) (made : IsMadeScope (length t.state.activations) (scope_of program t.state t.level.activation)) where
  abbrev n : ℕ
  n = length t.state.activations

  abbrev old : Store
  old = t.state.store

  abbrev scope : Scope
  scope = scope_of program t.state t.level.activation

  unchanged : HasStored program t t.state
  unchanged = (keeps-all n old, inl refl)

  stored-answer : (a : Answer) → GivesLater n old a → Makes (HasStored program t) (result_after_answer program t a)
  stored-answer (gives v store) h = (h, inl refl)
  stored-answer (waits w) h = tt
  stored-answer (fails k) h = unchanged

  stored-write : (level : Level) (a : Answer) → GivesLater n old a → Makes (HasStored program t) (result_after_write program t level a)
  stored-write level (gives v store) h = (h, inl refl)
  stored-write level (waits w) h = tt
  stored-write level (fails k) h = unchanged

  stored-assignment : (asynchronous : Bool) (at : Result Location Kind) (v : Value) → OkMade n at → Makes (HasStored program t) (result_after_assignment program t asynchronous at v)
  stored-assignment asynchronous (Err k) v there = unchanged
  stored-assignment asynchronous (Ok at) v there =
      stored-write (level_after_statement (unit_on_top program t) t.level) (answer_at old at (written asynchronous v (old at))) (later-answer_at n old at (written asynchronous v (old at)) there)

  stored-purge : (r : Result Store Kind) → OkLater n old r → Makes (HasStored program t) (result_after_purge program t r)
  stored-purge (Err k) h = unchanged
  stored-purge (Ok store) h = (h, inl refl)

  stored-value : (at : Location) (v : Option Value) → IsMadeAt n at → KeepsLater n old (with_value old at v)
  stored-value at v there = later-with_cell n old at (record { value = v; full = (old at).full }) there

  stored-do : (at : Result Location Kind) (m increment : ℤ) (count : Result ℤ Kind) → OkMade n at → Makes (HasStored program t) (result_after_do program t at m increment count)
  stored-do at m increment (Err k) there = unchanged
  stored-do (Err k) m increment (Ok count) there = unchanged
  stored-do (Ok at) m increment (Ok count) there = (stored-value at (Some (Int m)) there, inl refl)

  stored-increment : (l : Loop) (at : Location) (z : Result ℤ Kind) → IsMadeAt n at → Makes (HasStored program t) (result_after_increment program t l at z)
  stored-increment l at (Err k) there = unchanged
  stored-increment l at (Ok z) there = (stored-value at (Some (Int z)) there, inl refl)

  stored-variable : (l : Loop) (at : Location) (v : Option Value) → IsMadeAt n at → Makes (HasStored program t) (result_after_loop_variable program t l at v)
  stored-variable l at None there = unchanged
  stored-variable l at (Some v) there = stored-increment l at (integer_or_overflow (integer_of v +ℤ l.increment)) there

  stored-loop_end : (l : Loop) (at : Result Location Kind) → OkMade n at → Makes (HasStored program t) (result_after_loop_end program t l at)
  stored-loop_end l (Err k) there = unchanged
  stored-loop_end l (Ok at) there = stored-variable l at (old at).value there

  -- a new activation
  stored-new : (u : ℕ) (b : Binding) → KeepsLater (next_activation t.state) old b.store × ArePassed scope (next_activation t.state) b.dummies → HasStored program t (with_activation t u b)
  stored-new u b h = (λ a z i later. h.0 a z i (omega (arith, simp length-append at later)), inr (_, refl, refl, h.1))

  stored-call : (u : ℕ) (b : Result Binding Kind) → BindsPassed scope (next_activation t.state) old b → Makes (HasStored program t) (result_after_call program t u b)
  stored-call u (Err k) h = unchanged
  stored-call u (Ok b) h = stored-new u b h

  stored-create : (u : ℕ) (b : Result Binding Kind) → BindsPassed scope (next_activation t.state) old b → Makes (HasStored program t) (result_after_create program t u b)
  stored-create u (Err k) h = unchanged
  stored-create u (Ok b) h = stored-new u b h

  binds : (u : ℕ) (ys : List Actual) → BindsPassed scope (next_activation t.state) old (binding_of program t u ys)
  binds u ys = binds-binding (scope_of program t.state t.level.activation) t.state.store (unit_at program u) (next_activation t.state) ys

  -- the end of an activation
  stored-result : (v : Option Value) → Makes (HasStored program t) (result_after_value program t v)
  stored-result None = unchanged
  stored-result (Some v) = unchanged

  stored-at_result : (at : Result Location Kind) → Makes (HasStored program t) (result_after_result program t at)
  stored-at_result (Err k) = unchanged
  stored-at_result (Ok at) = stored-result (old at).value

  stored-leaving : (x : Option Name) → Makes (HasStored program t) (result_after_leaving program t x)
  stored-leaving None = unchanged
  stored-leaving (Some x) = stored-at_result (location_of_name scope x [])

  stored-resuming : (below : Process) → HasStored program t (state_resumed program t below)
  stored-resuming [] = unchanged
  stored-resuming (caller ∷ callers) = unchanged

  stored-action : (a : Action) → Makes (HasStored program t) (result_after_action program t a)
  stored-action (assigning r v) = stored-assignment r.0.asynchronous (location_of_name scope r.0 r.1) v (made-location n scope r.0 r.1 made)
  stored-action (jumping l) = unchanged
  stored-action (choosing labels v) = unchanged
  stored-action (branching labels v) = unchanged
  stored-action (testing_condition v) = unchanged
  stored-action (entering_block v) = unchanged
  stored-action (entering_loop x m k l) =
      stored-do (location_of_name scope x []) (integer_of m) (integer_of l) (iterations (integer_of m) (integer_of k) (integer_of l)) (made-location n scope x [] made)
  stored-action (ending_loop d) =
      stored-loop_end (loop_at t.level.loops d) (location_of_name scope (variable_of (unit_on_top program t) d) []) (made-location n scope (variable_of (unit_on_top program t) d) [] made)
  stored-action (calling x actuals) = stored-call (unit_called program x) (binding_of program t (unit_called program x) actuals) (binds (unit_called program x) actuals)
  stored-action (creating x actuals) = stored-create (unit_called program x) (binding_of program t (unit_called program x) actuals) (binds (unit_called program x) actuals)
  stored-action (purging targets) = stored-purge (store_after_purge scope targets old) (later-purge n scope targets old old made (keeps-all n old))
  stored-action (printing items) = unchanged
  stored-action continuing = unchanged
  stored-action leaving = stored-leaving (function_name (unit_on_top program t))
  stored-action resuming = stored-resuming t.below
  stored-action stopping = unchanged

  stored-sought : (r : RedexOrReference) → Makes (HasStored program t) (result_after_sought program t r)
  stored-sought (evaluating r) = stored-answer (answer_of scope old r) (later-answer n scope old r made)
  stored-sought (referring x actuals) = stored-call (function_unit program x) (binding_of program t (function_unit program x) actuals) (binds (function_unit program x) actuals)

  pub stored-next : (m : Next) → Makes (HasStored program t) (result_after_next program t m)
  stored-next (wants r) = stored-sought r
  stored-next (does a) = stored-action a
