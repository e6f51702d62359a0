-- In a run no dummy argument stands for a private scalar, and a step stores in none but those of its own activation.
use Rattle.std.specs.Result.{IfOk}
use Rattle.std.proofs.Common.{◌≡◌, ◌≢◌, ◌⊎◌, inl, inr, ℕ, zero, suc, ◌+◌, ◌-◌, ◌<◌, ◌≤◌, Bool, true, false, true≢false, List, [], ◌∷◌, ◌++◌, length, Option, Some, None, Result, Ok, Err, refl, sym, ap, ◌∙◌, subst, arith, ℤ, ◌+ℤ◌, ◌&&◌, not, nat_eq, slice_get, if◌then◌else◌, length-append}
use Rattle.std.proofs.lemmas.Bool.{cond_both, ne_eqb, eqb-true, cases_order, eq-eqb}
use Rattle.std.proofs.lemmas.Option.{none-some, same_Some, slice_get_past, slice_get_within}
use Rattle.hep_source.proofs.NameTests.{equal_names}
use Rattle.hep_machine.specs.Words.{Name, Statement, Value, Int, index_among, Units, dummies_of, unit_at, is_dummy, is_common, is_constant_name, is_local, same_name, BlockName, common_block, is_array, level_after_statement, variable_of, integer_of, integer_or_overflow}
use Rattle.hep_machine.specs.Words.{Binding, binding_for, binding_with_shapes, bound_values, dummies_for, dummy_before, dummy_for, dummy_with_shape, first_element, from_element, with_actuals, with_shape, with_shapes, with_store, shape_by, Actual, evaluated, referred, Reference, Bounds, fits, no_dummy, Scope, dummy_at, start_by_block, storage_by_dummy, storage_of, location_of_name, loop_at}
use Rattle.hep_machine.specs.Words.{Action, assigning, jumping, choosing, branching, testing_condition, entering_block, entering_loop, ending_loop, calling, creating, purging, printing, continuing, leaving, resuming, stopping, Next, wants, does, evaluating, referring, next_of, function_name, function_unit, result_after_leaving, result_after_result, result_after_value, state_resumed, activation_of, living, numbered, with_numbered, unit_of, opening, run, run_from, step, Activation, Dummy, Level, Location, Loop, Process, State, Store, Work, local, common}
use Rattle.hep_machine.specs.Words.{Answer, fails, answer_at, answer_of, binding_of, iterations, next_activation, result_after_action, result_after_answer, result_after_assignment, result_after_call, result_after_create, result_after_do, result_after_increment, result_after_loop_end, result_after_loop_variable, result_after_next, result_after_purge, result_after_write, scope_of, store_after_purge, Top, unit_called, unit_on_top, written, further, with_value}
use Rattle.hep_machine.specs.declared.event.Kind.{Kind}
use Rattle.hep_machine.specs.declared.event.Kind.TheVariants.{Shape}
use Rattle.hep_machine.specs.Step.{gives, waits}
use Rattle.hep_machine.proofs.Changes.{Makes, by_step, next_on, step_changes, top_in}
use Rattle.hep_machine.proofs.Others.{lives_from_one, other_numbered, others_stay}
use Rattle.hep_layout.specs.Words.{IsMadeAt}
use Rattle.hep_layout.proofs.Memory.{activation-kept, activation-last, same-activation}
use Rattle.hep_layout.proofs.Passed.{IsMadeScope, made-further, made-storage}
use Rattle.hep_layout.proofs.References.{each-state, references-made}
use Rattle.hep_layout.proofs.FrameTree.{stacked-top}
use Rattle.hep_layout.proofs.Stacks.{once, times_on-numbered, top-numbered}
use Rattle.hep_machine.proofs.Ages.{aged, on_stack_made}
use Rattle.hep_image.specs.Private.{is_private}
use Rattle.hep_accepted_laws.specs.WorkOrigins.{ComesFrom, IsCalledBy, IsReferredBy}
use Rattle.hep_accepted_laws.proofs.Levels.{Every, top-comes}
use Rattle.hep_accepted_laws.proofs.Members.{has_among}
use Rattle.hep_commit.specs.PrivateScalars.{AreUnshared, is_private_at, is_private_scalar}
use Rattle.hep_commit.proofs.PassedVariables.{called-shared, referred-shared}
use Rattle.hep_commit.proofs.UnchangedSaves.{GivesKept, IsFree, Keeps, Misses, OkMisses, free-location, keeps-all, keeps-with_actuals, keeps-with_cell, kept-answer, kept-answer_at, kept-purge}

-- ---- lists

every-of : {A : Type 0} (P : A → Type 0) (xs : List A) → ((i : ℕ) (x : A) → slice_get xs i ≡ Some x → P x) → Every P xs
every-of P [] h = tt
every-of P (x ∷ xs) h = (h 0 x refl, every-of P xs (λ i y e. h (suc i) y e))

-- ---- what dummy arguments stand for

module _ (P : Location → Type 0) where
  abbrev Starts : List Dummy → Type 0
  Starts [] = Unit {0}
  Starts (d ∷ ds) = P d.start × Starts ds

  starts-at : (ds : List Dummy) (k : ℕ) → P no_dummy.start → Starts ds → P (dummy_at ds k).start
  starts-at [] k none h = none
  starts-at (d ∷ ds) zero none h = h.0
  starts-at (d ∷ ds) (suc k) none h = starts-at ds k none h.1

  abbrev OneStarts : Result Dummy Kind → Type 0
  OneStarts r = IfOk r (λ d. P d.start)

  abbrev AllStart : Result (List Dummy) Kind → Type 0
  AllStart r = IfOk r Starts

  one-before : (d : Result Dummy Kind) (ds : Result (List Dummy) Kind) → OneStarts d → AllStart ds → AllStart (dummy_before d ds)
  one-before (Err k) ds h l = tt
  one-before (Ok d) (Err k) h l = tt
  one-before (Ok d) (Ok ds) h l = (h, l)

  shaped : (d : Dummy) (shape : Option Bounds) → P d.start → OneStarts (dummy_with_shape d shape)
  shaped d None h = tt
  shaped d (Some bs) h = cond_both (fits bs d.rest) (Ok (record d { shape = bs })) (Err Shape) OneStarts (λ e. h) (λ e. tt)

  one-shaped : (new : Scope) (store : Store) (x : Name) (d : Dummy) → P d.start → OneStarts (with_shape new store x d)
  one-shaped new store x d h =
      let shape = shape_by new.unit (bound_values new store) x in
      cond_both (is_array new.unit x) (dummy_with_shape d shape) (Ok d) OneStarts (λ e. shaped d shape h) (λ e. h)

  all-shaped : (new : Scope) (store : Store) (xs : List Name) (ds : List Dummy) → Starts ds → AllStart (with_shapes new store xs ds)
  all-shaped new store [] ds h = tt
  all-shaped new store (x ∷ xs) [] h = tt
  all-shaped new store (x ∷ xs) (d ∷ ds) h = one-before (with_shape new store x d) (with_shapes new store xs ds) (one-shaped new store x d h.0) (all-shaped new store xs ds h.1)

  module _ (scope : Scope) (a : ℕ) where
    -- all that begins further on in what is passed is so
    abbrev IsFine : Actual → Type 0
    IsFine (evaluated v) = Unit {0}
    IsFine (referred r) = (k : ℕ) → P (further (storage_of scope r.0).start k)

    fine-element : (x : Name) (n : Result ℕ Kind) → ((k : ℕ) → P (further (storage_of scope x).start k)) → OneStarts (from_element (storage_of scope x) n)
    fine-element x (Err k) h = tt
    fine-element x (Ok n) h = h (n - 1)

    fine-dummy : (x : Name) (y : Actual) → P (local a x 1) → IsFine y → OneStarts (dummy_for scope a x y)
    fine-dummy x (evaluated v) own fine = own
    fine-dummy x (referred r) own fine = fine-element r.0 (first_element scope r) fine

    fine-dummies : (xs : List Name) (ys : List Actual) → Every (λ x. P (local a x 1)) xs → Every IsFine ys → AllStart (dummies_for scope a xs ys)
    fine-dummies [] ys own fine = tt
    fine-dummies (x ∷ xs) [] own fine = tt
    fine-dummies (x ∷ xs) (y ∷ ys) own fine = one-before (dummy_for scope a x y) (dummies_for scope a xs ys) (fine-dummy x y own.0 fine.0) (fine-dummies xs ys own.1 fine.1)

-- ---- binding

module _ (P Q : Location → Type 0) (old : Store) where
  abbrev Binds : Result Binding Kind → Type 0
  Binds r = IfOk r (λ b. Keeps Q old b.store × Starts P b.dummies)

  binds-store : (new : Store) (ds : Result (List Dummy) Kind) → Keeps Q old new → AllStart P ds → Binds (with_store new ds)
  binds-store new (Err k) h l = tt
  binds-store new (Ok ds) h l = (h, l)

  binds-shapes : (unit : List Statement) (a : ℕ) (new : Store) (ds : Result (List Dummy) Kind) → Keeps Q old new → AllStart P ds → Binds (binding_with_shapes unit a new ds)
  binds-shapes unit a new (Err k) h l = tt
  binds-shapes unit a new (Ok ds) h l =
      let scope : Scope = record { unit = unit; number = a; dummies = ds } in
      binds-store new (with_shapes scope new (dummies_of unit) ds) h (all-shaped P scope new (dummies_of unit) ds l)

  binds : (scope : Scope) (unit : List Statement) (a : ℕ) (ys : List Actual) → ((x : Name) → Misses Q (local a x 1)) → Every (λ x. P (local a x 1)) (dummies_of unit) → Every (IsFine P scope a) ys → Binds (binding_for scope old unit a ys)
  binds scope unit a ys own names fine =
      binds-shapes unit a (with_actuals old a (dummies_of unit) ys) (dummies_for scope a (dummies_of unit) ys) (keeps-with_actuals Q a own old (dummies_of unit) ys) (fine-dummies P scope a (dummies_of unit) ys names fine)

-- ---- what names stand for

private-further : (program : Units) (s : State) (at : Location) (k : ℕ) → is_private_at program s (further at k) ≡ is_private_at program s at
private-further program s (local a x i) k = refl
private-further program s (common b i) k = refl

and-false : (a b : Bool) → a ≡ false → (a && b) ≡ false
and-false true b e = absurd (true≢false e)
and-false false b e = refl

false-last : (a b c : Bool) → c ≡ true → (a && (not c && b)) ≡ false
false-last true b true e = refl
false-last true b false e = absurd (true≢false (sym e))
false-last false b c e = refl

-- a variable that isn't private begins at no private scalar
module _ (program : Units) (s : State) (unshared : AreUnshared program s) (a : ℕ) (x : Name) where
  abbrev unit : List Statement
  unit = unit_at program (unit_of s a)

  shared-start : is_private unit x ≡ false → is_private_at program s (storage_of (scope_of program s a) x).start ≡ false
  shared-start h = by_index (index_among x (dummies_of unit)) where
    by_block : (b : Option BlockName) → is_private_at program s (start_by_block (scope_of program s a) x b) ≡ false
    by_block None = and-false (is_private unit x) (is_local unit x) h
    by_block (Some b) = refl

    by_index : (o : Option ℕ) → is_private_at program s (storage_by_dummy (scope_of program s a) x o).start ≡ false
    by_index None = by_block (common_block unit x)
    by_index (Some k) = unshared a k

  -- what any variable stands for is no private scalar but one of its own activation
  own-start : (is_private_at program s (storage_of (scope_of program s a) x).start ≡ false) ⊎ ((storage_of (scope_of program s a) x).start ≡ local a x 1)
  own-start = by_index (index_among x (dummies_of unit)) where
    by_block : (b : Option BlockName) → (is_private_at program s (start_by_block (scope_of program s a) x b) ≡ false) ⊎ (start_by_block (scope_of program s a) x b ≡ local a x 1)
    by_block None = inr refl
    by_block (Some b) = inl refl

    by_index : (o : Option ℕ) → (is_private_at program s (storage_by_dummy (scope_of program s a) x o).start ≡ false) ⊎ ((storage_by_dummy (scope_of program s a) x o).start ≡ local a x 1)
    by_index None = by_block (common_block unit x)
    by_index (Some k) = inl (unshared a k)

-- ---- a step

-- the private scalars of an activation that was made, other than the top one
abbrev IsOther : Units → Top → Location → Type 0
IsOther program t (local b y i) = (b ≤ length t.state.activations) × (b ≢ t.level.activation) × (is_private_scalar (unit_at program (unit_of t.state b)) y ≡ true)
IsOther program t (common b i) = ⊥

-- where a dummy argument of a new activation of unit u begins
abbrev IsBegun : Units → State → ℕ → Location → Type 0
IsBegun program s u at =
    ((x : Name) × (is_dummy (unit_at program u) x ≡ true) × (at ≡ local (next_activation s) x 1)) ⊎ ((is_private_at program s at ≡ false) × IsMadeAt (length s.activations) at)

abbrev HasNew : Units → Top → State → Type 0
HasNew program t s =
    (s.activations ≡ t.state.activations) ⊎ ((x : Activation) × (s.activations ≡ t.state.activations ++ x ∷ []) × Starts (IsBegun program t.state x.unit) x.dummies)

abbrev HasLeft : Units → Top → State → Type 0
HasLeft program t s = Keeps (IsOther program t) t.state.store s.store × HasNew program t s

-- what is passed next
abbrev passed_in_action : Action → List Actual
passed_in_action (calling x actuals) = actuals
passed_in_action (creating x actuals) = actuals
passed_in_action _ = []

abbrev passed_in : Next → List Actual
passed_in (wants (referring x actuals)) = actuals
passed_in (wants (evaluating r)) = []
passed_in (does a) = passed_in_action a

-- the variables among it are no private scalars
abbrev AreSharedNext : Units → Top → Next → Type 0
AreSharedNext program t n = (j : ℕ) (r : Reference) → slice_get (passed_in n) j ≡ Some (referred r) → is_private (unit_on_top program t) r.0 ≡ false

module _ (program : Units) (t : Top) (unshared : AreUnshared program t.state) (made : IsMadeScope (length t.state.activations) (scope_of program t.state t.level.activation)) where
  abbrev Q : Location → Type 0
  Q = IsOther program t

  abbrev old : Store
  old = t.state.store

  abbrev scope : Scope
  scope = scope_of program t.state t.level.activation

  -- a location at which no private scalar is
  shared-misses : (at : Location) → is_private_at program t.state at ≡ false → Misses Q at
  shared-misses at h (common b i) q = absurd q
  shared-misses (common c k) h (local b y i) q = refl
  shared-misses (local c z j) h (local b y i) q = by_number (nat_eq b c) refl where
    by_name : (e : Bool) → b ≡ c → same_name y z ≡ e → (e && nat_eq i j) ≡ false
    by_name true same is =
        let owner : is_private_scalar (unit_at program (unit_of t.state c)) z ≡ true = subst (λ x. is_private_scalar (unit_at program (unit_of t.state c)) x ≡ true) (equal_names y z is) (subst (λ n. is_private_scalar (unit_at program (unit_of t.state n)) y ≡ true) same q.2) in
        absurd (true≢false (sym owner ∙ h))
    by_name false same is = refl

    by_number : (e : Bool) → nat_eq b c ≡ e → (e && (same_name y z && nat_eq i j)) ≡ false
    by_number true is = by_name (same_name y z) (eqb-true b c is) refl
    by_number false is = refl

  own-misses : (x : Name) (i : ℕ) → Misses Q (local t.level.activation x i)
  own-misses x i (common b k) q = absurd q
  own-misses x i (local b y j) q = rw (ne_eqb b t.level.activation q.1) refl

  new-misses : (x : Name) → Misses Q (local (next_activation t.state) x 1)
  new-misses x (common b k) q = absurd q
  new-misses x (local b y j) q = rw (ne_eqb b (next_activation t.state) (λ same. omega (arith, same, q.0))) refl

  free : (x : Name) → IsFree Q (storage_of scope x).start
  free x k = elim (own-start program t.state unshared t.level.activation x) [
    | inl h ↦ shared-misses (further (storage_of scope x).start k) (private-further program t.state (storage_of scope x).start k ∙ h)
    | inr e ↦ subst (λ at. Misses Q (further at k)) (sym e) (own-misses x (1 + k))
  ]

  unchanged : HasLeft program t t.state
  unchanged = (keeps-all Q old, inl refl)

  left-answer : (a : Answer) → GivesKept Q old a → Makes (HasLeft program t) (result_after_answer program t a)
  left-answer (gives v store) h = (h, inl refl)
  left-answer (waits w) h = tt
  left-answer (fails k) h = unchanged

  left-write : (level : Level) (a : Answer) → GivesKept Q old a → Makes (HasLeft program t) (result_after_write program t level a)
  left-write level (gives v store) h = (h, inl refl)
  left-write level (waits w) h = tt
  left-write level (fails k) h = unchanged

  left-assignment : (asynchronous : Bool) (at : Result Location Kind) (v : Value) → OkMisses Q at → Makes (HasLeft program t) (result_after_assignment program t asynchronous at v)
  left-assignment asynchronous (Err k) v h = unchanged
  left-assignment asynchronous (Ok at) v h =
      left-write (level_after_statement (unit_on_top program t) t.level) (answer_at old at (written asynchronous v (old at))) (kept-answer_at Q old at (written asynchronous v (old at)) h)

  left-purge : (r : Result Store Kind) → IfOk r (Keeps Q old) → Makes (HasLeft program t) (result_after_purge program t r)
  left-purge (Err k) h = unchanged
  left-purge (Ok store) h = (h, inl refl)

  kept-value : (at : Location) (v : Option Value) → Misses Q at → Keeps Q old (with_value old at v)
  kept-value at v h = keeps-with_cell Q old at (record { value = v; full = (old at).full }) h

  left-do : (at : Result Location Kind) (m increment : ℤ) (count : Result ℤ Kind) → OkMisses Q at → Makes (HasLeft program t) (result_after_do program t at m increment count)
  left-do at m increment (Err k) h = unchanged
  left-do (Err k) m increment (Ok count) h = unchanged
  left-do (Ok at) m increment (Ok count) h = (kept-value at (Some (Int m)) h, inl refl)

  left-increment : (l : Loop) (at : Location) (z : Result ℤ Kind) → Misses Q at → Makes (HasLeft program t) (result_after_increment program t l at z)
  left-increment l at (Err k) h = unchanged
  left-increment l at (Ok z) h = (kept-value at (Some (Int z)) h, inl refl)

  left-variable : (l : Loop) (at : Location) (v : Option Value) → Misses Q at → Makes (HasLeft program t) (result_after_loop_variable program t l at v)
  left-variable l at None h = unchanged
  left-variable l at (Some v) h = left-increment l at (integer_or_overflow (integer_of v +ℤ l.increment)) h

  left-loop_end : (l : Loop) (at : Result Location Kind) → OkMisses Q at → Makes (HasLeft program t) (result_after_loop_end program t l at)
  left-loop_end l (Err k) h = unchanged
  left-loop_end l (Ok at) h = left-variable l at (old at).value h

  -- ---- a new activation

  dummies-begun : (u : ℕ) → Every (λ x. IsBegun program t.state u (local (next_activation t.state) x 1)) (dummies_of (unit_at program u))
  dummies-begun u = every-of (λ x. IsBegun program t.state u (local (next_activation t.state) x 1)) (dummies_of (unit_at program u)) (λ i x e. inl (x, has_dummy x i e, refl)) where
    has_dummy : (x : Name) (i : ℕ) → slice_get (dummies_of (unit_at program u)) i ≡ Some x → is_dummy (unit_at program u) x ≡ true
    has_dummy x i e = has_among (dummies_of (unit_at program u)) x (i, e)

  actuals-fine : (u : ℕ) (ys : List Actual) → ((j : ℕ) (r : Reference) → slice_get ys j ≡ Some (referred r) → is_private (unit_on_top program t) r.0 ≡ false) → Every (IsFine (IsBegun program t.state u) scope (next_activation t.state)) ys
  actuals-fine u ys shared = every-of (IsFine (IsBegun program t.state u) scope (next_activation t.state)) ys (λ j y e. fine y (λ r is. shared j r (e ∙ ap (λ z. Some z) is))) where
    fine : (y : Actual) → ((r : Reference) → y ≡ referred r → is_private (unit_on_top program t) r.0 ≡ false) → IsFine (IsBegun program t.state u) scope (next_activation t.state) y
    fine (evaluated v) h = tt
    fine (referred r) h = λ k.
        let start = (storage_of scope r.0).start in
        inr (
          private-further program t.state start k ∙ shared-start program t.state unshared t.level.activation r.0 (h r refl),
          made-further (length t.state.activations) start k (made-storage (length t.state.activations) scope r.0 made),
        )

  begun : (u : ℕ) (ys : List Actual) → ((j : ℕ) (r : Reference) → slice_get ys j ≡ Some (referred r) → is_private (unit_on_top program t) r.0 ≡ false) → Binds (IsBegun program t.state u) Q old (binding_of program t u ys)
  begun u ys shared =
      binds (IsBegun program t.state u) Q old scope (unit_at program u) (next_activation t.state) ys new-misses (dummies-begun u) (actuals-fine u ys shared)

  left-call : (u : ℕ) (b : Result Binding Kind) → Binds (IsBegun program t.state u) Q old b → Makes (HasLeft program t) (result_after_call program t u b)
  left-call u (Err k) h = unchanged
  left-call u (Ok b) h = (h.0, inr (_, refl, h.1))

  left-create : (u : ℕ) (b : Result Binding Kind) → Binds (IsBegun program t.state u) Q old b → Makes (HasLeft program t) (result_after_create program t u b)
  left-create u (Err k) h = unchanged
  left-create u (Ok b) h = (h.0, inr (_, refl, h.1))

  left-value : (v : Option Value) → Makes (HasLeft program t) (result_after_value program t v)
  left-value None = unchanged
  left-value (Some v) = unchanged

  left-result : (at : Result Location Kind) → Makes (HasLeft program t) (result_after_result program t at)
  left-result (Err k) = unchanged
  left-result (Ok at) = left-value (old at).value

  left-leaving : (x : Option Name) → Makes (HasLeft program t) (result_after_leaving program t x)
  left-leaving None = unchanged
  left-leaving (Some x) = left-result (location_of_name scope x [])

  left-resuming : (below : Process) → HasLeft program t (state_resumed program t below)
  left-resuming [] = unchanged
  left-resuming (caller ∷ callers) = unchanged

  left-action : (a : Action) → AreSharedNext program t (does a) → Makes (HasLeft program t) (result_after_action program t a)
  left-action (assigning r v) h = left-assignment r.0.asynchronous (location_of_name scope r.0 r.1) v (free-location Q scope free r.0 r.1)
  left-action (jumping l) h = unchanged
  left-action (choosing labels v) h = unchanged
  left-action (branching labels v) h = unchanged
  left-action (testing_condition v) h = unchanged
  left-action (entering_block v) h = unchanged
  left-action (entering_loop x m k l) h =
      left-do (location_of_name scope x []) (integer_of m) (integer_of l) (iterations (integer_of m) (integer_of k) (integer_of l)) (free-location Q scope free x [])
  left-action (ending_loop d) h =
      left-loop_end (loop_at t.level.loops d) (location_of_name scope (variable_of (unit_on_top program t) d) []) (free-location Q scope free (variable_of (unit_on_top program t) d) [])
  left-action (calling x actuals) h =
      left-call (unit_called program x) (binding_of program t (unit_called program x) actuals) (begun (unit_called program x) actuals h)
  left-action (creating x actuals) h =
      left-create (unit_called program x) (binding_of program t (unit_called program x) actuals) (begun (unit_called program x) actuals h)
  left-action (purging targets) h = left-purge (store_after_purge scope targets old) (kept-purge Q scope free targets old old (keeps-all Q old))
  left-action (printing items) h = unchanged
  left-action continuing h = unchanged
  left-action leaving h = left-leaving (function_name (unit_on_top program t))
  left-action resuming h = left-resuming t.below
  left-action stopping h = unchanged

  left-next : (n : Next) → AreSharedNext program t n → Makes (HasLeft program t) (result_after_next program t n)
  left-next (wants (evaluating r)) h = left-answer (answer_of scope old r) (kept-answer Q scope free old r)
  left-next (wants (referring x actuals)) h =
      left-call (function_unit program x) (binding_of program t (function_unit program x) actuals) (begun (function_unit program x) actuals h)
  left-next (does a) h = left-action a h

-- ---- dummy arguments after a step

-- a dummy argument is no local variable
dummy-not : (unit : List Statement) (x : Name) → is_dummy unit x ≡ true → is_private_scalar unit x ≡ false
dummy-not unit x e = false-last (is_private unit x) (not (is_common unit x) && not (is_constant_name unit x)) (is_dummy unit x) e

no-dummies : (s : State) (a k : ℕ) → length s.activations < a → (dummy_at (activation_of s a).dummies k).start ≡ common None 0
no-dummies s zero k less = absurd (omega arith)
no-dummies s (suc i) k less = rw (slice_get_past s.activations i (omega arith)) refl

module _ (program : Units) (s t : State) (x : Activation) (more : t.activations ≡ s.activations ++ x ∷ []) where
  -- what is so of locations that were made stays so
  private-later : (at : Location) → IsMadeAt (length s.activations) at → is_private_at program t at ≡ is_private_at program s at
  private-later (common b i) made = refl
  private-later (local a y i) made = ap (λ (z : Activation). is_private_scalar (unit_at program z.unit) y) (activation-kept s t x a more made)

  begun-shared : (at : Location) → IsBegun program s x.unit at → is_private_at program t at ≡ false
  begun-shared at (inr (h, made)) = private-later at made ∙ h
  begun-shared at (inl (y, is, e)) =
      let number : next_activation s ≡ suc (length s.activations) = omega arith in
      let unit : unit_of t (next_activation s) ≡ x.unit = ap (unit_of t) number ∙ ap (λ (z : Activation). z.unit) (activation-last s t x more) in
      ap (is_private_at program t) e ∙ (ap (λ u. is_private_scalar (unit_at program u) y) unit ∙ dummy-not (unit_at program x.unit) y is)

unshared-step : (program : Units) (t : Top) (s : State) → ((a k : ℕ) → a ≤ length t.state.activations → IsMadeAt (length t.state.activations) (dummy_at (activation_of t.state a).dummies k).start) → AreUnshared program t.state → HasNew program t s → AreUnshared program s
unshared-step program t s made h (inl same) a k =
    let kept = λ (c : ℕ). same-activation t.state s c same in
    let later : (at : Location) → is_private_at program s at ≡ is_private_at program t.state at = alike in
    ap (λ (z : Activation). is_private_at program s (dummy_at z.dummies k).start) (kept a) ∙ (later (dummy_at (activation_of t.state a).dummies k).start ∙ h a k)
  where
    alike : (at : Location) → is_private_at program s at ≡ is_private_at program t.state at
    alike (common b i) = refl
    alike (local b y i) = ap (λ (z : Activation). is_private_scalar (unit_at program z.unit) y) (same-activation t.state s b same)
unshared-step program t s made h (inr (x, more, starts)) a k = elim (cases_order a (suc (length t.state.activations))) [
  | inl same ↦
      let here : activation_of s a ≡ x = ap (activation_of s) same ∙ activation-last t.state s x more in
      let begun : IsBegun program t.state x.unit (dummy_at x.dummies k).start = starts-at (IsBegun program t.state x.unit) x.dummies k (inr (refl, tt)) starts in
      ap (λ (z : Activation). is_private_at program s (dummy_at z.dummies k).start) here ∙ begun-shared program t.state s x more (dummy_at x.dummies k).start begun
  | inr (inl less) ↦
      let le : a ≤ length t.state.activations = omega (arith, less) in
      let at = (dummy_at (activation_of t.state a).dummies k).start in
      ap (λ (z : Activation). is_private_at program s (dummy_at z.dummies k).start) (activation-kept t.state s x a more le) ∙ (private-later program t.state s x more at (made a k le) ∙ h a k)
  | inr (inr above) ↦ ap (is_private_at program s) (no-dummies s a k (omega (arith, above, simp length-append at (ap length more))))
]

-- ---- runs

opening-unshared : (program : Units) → AreUnshared program (run program [])
unfolding run run_from opening
opening-unshared program zero k = refl
opening-unshared program (suc zero) k = refl
opening-unshared program (suc (suc i)) k = refl

-- where what is passed comes from
pub record HaveSources : Type 0 where
  pub called : (unit : List Statement) (k : ℕ) (work : Work) (x : Name) (actuals : List Actual) → ComesFrom unit k work → next_of unit work ≡ does (calling x actuals) → IsCalledBy unit k x actuals
  pub created : (unit : List Statement) (k : ℕ) (work : Work) (x : Name) (actuals : List Actual) → ComesFrom unit k work → next_of unit work ≡ does (creating x actuals) → IsCalledBy unit k x actuals
  pub referred_to : (unit : List Statement) (k : ℕ) (work : Work) (x : Name) (actuals : List Actual) → ComesFrom unit k work → next_of unit work ≡ wants (referring x actuals) → IsReferredBy unit k x actuals

module _ (laws : HaveSources) where
  left : (program : Units) (ps : List ℕ) (p : ℕ) (t : State) → AreUnshared program (run program ps) → step program p (run program ps) ≡ Some t
      → (top : Level × Process) × (living (run program ps) p ≡ Some top) × HasLeft program (top_in (run program ps) p top) t
  left program ps p t unshared e = by_step (HasLeft program) program p s t (λ top lives. left-next program (top_in s p top) unshared (made top lives) (next_on program s top) (shared top lives)) e where
    s : State
    s = run program ps

    on-stack : (top : Level × Process) → living s p ≡ Some top → top.0.activation ≤ length s.activations
    on-stack top lives = (on_stack_made s top.0.activation (aged program ps) (stacked-top s p top (top-numbered s p top lives))).1

    made : (top : Level × Process) → living s p ≡ Some top → IsMadeScope (length s.activations) (scope_of program s top.0.activation)
    made top lives = (on-stack top lives, λ k. references-made program ps top.0.activation k (on-stack top lives))

    shared : (top : Level × Process) → living s p ≡ Some top → AreSharedNext program (top_in s p top) (next_on program s top)
    shared top lives = by_next (next_on program s top) refl where
      unit : List Statement
      unit = unit_at program (unit_of s top.0.activation)

      comes : ComesFrom unit top.0.statement top.0.work
      comes = top-comes program ps p top lives

      by_action : (a : Action) → next_of unit top.0.work ≡ does a → AreSharedNext program (top_in s p top) (does a)
      by_action (calling x actuals) is j r actual = called-shared unit top.0.statement j x actuals r (laws.called unit top.0.statement top.0.work x actuals comes is) actual
      by_action (creating x actuals) is j r actual = called-shared unit top.0.statement j x actuals r (laws.created unit top.0.statement top.0.work x actuals comes is) actual
      by_action _ is j r actual = absurd (none-some (referred r) actual)

      by_next : (n : Next) → next_of unit top.0.work ≡ n → AreSharedNext program (top_in s p top) n
      by_next (wants (evaluating r)) is j q actual = absurd (none-some (referred q) actual)
      by_next (wants (referring x actuals)) is j r actual = referred-shared unit top.0.statement j x actuals r (laws.referred_to unit top.0.statement top.0.work x actuals comes is) actual
      by_next (does a) is j r actual = by_action a is j r actual

  pub unshared : (program : Units) (ps : List ℕ) → AreUnshared program (run program ps)
  unshared program ps =
      each-state program (AreUnshared program) (λ qs p t e last h.
      let found = left program qs p t h e in
      unshared-step program (top_in (run program qs) p found.0) t (references-made program qs) h found.2.1) (opening-unshared program) ps

  -- ---- the private scalars of others

  module _ (program : Units) (ps : List ℕ) (p : ℕ) (top : Level × Process) (t : State) (made : step program p (run program ps) ≡ Some t) (lives : living (run program ps) p ≡ Some top) where
    abbrev s : State
    s = run program ps

    pub scalars-stay : (a : ℕ) (x : Name) (i : ℕ) → a ≤ length s.activations → a ≢ top.0.activation → is_private_scalar (unit_at program (unit_of s a)) x ≡ true → t.store (local a x i) ≡ s.store (local a x i)
    scalars-stay a x i le other private =
        let found = left program ps p t (unshared program ps) made in
        let same : found.0 ≡ top = same_Some found.0 top (sym found.1 ∙ lives) in
        found.2.0 (local a x i) (le, subst (λ (z : Level × Process). a ≢ z.0.activation) (sym same) other, private)

    module _ (q : ℕ) (other : p ≢ q) (top_q : Level × Process) (lives_q : living s q ≡ Some top_q) where
      -- no activation is on two stacks
      apart : top_q.0.activation ≢ top.0.activation
      apart same =
          let a = top.0.activation in
          let one : 1 ≤ p = lives_from_one s p (λ none. none-some top (sym none ∙ lives)) in
          let there = other_numbered s.processes p q [] one other ∙ top-numbered s q top_q lives_q in
          let here : ◌≡◌ {A = ℕ} (if nat_eq a top.0.activation then 1 else 0) 1 = rw (eq-eqb a top.0.activation refl) refl in
          let too : ◌≡◌ {A = ℕ} (if nat_eq a top_q.0.activation then 1 else 0) 1 = rw (eq-eqb a top_q.0.activation (sym same)) refl in
          omega (
            arith,
            times_on-numbered a s.processes p (top.0 ∷ top.1) [] (top-numbered s p top lives),
            times_on-numbered a (with_numbered s.processes p []) q (top_q.0 ∷ top_q.1) [] there,
            here,
            too,
            (once program ps a).0,
          )

      on-stack : top_q.0.activation ≤ length s.activations
      on-stack = (on_stack_made s top_q.0.activation (aged program ps) (stacked-top s q top_q (top-numbered s q top_q lives_q))).1

      within : (r : ℕ) → numbered s.processes r ≡ Some (top_q.0 ∷ top_q.1) → r ≤ length s.processes
      within zero e = absurd (none-some (top_q.0 ∷ top_q.1) e)
      within (suc r) e = slice_get_within s.processes r (top_q.0 ∷ top_q.1) e

      pub others-stay : (x : Name) (i : ℕ) → is_private_scalar (unit_at program (unit_of s top_q.0.activation)) x ≡ true
          → (t.store (local top_q.0.activation x i) ≡ s.store (local top_q.0.activation x i)) × (numbered t.processes q ≡ numbered s.processes q)
      others-stay x i private = (
        scalars-stay top_q.0.activation x i on-stack apart private,
        others_stay program p q s t made other (within q (top-numbered s q top_q lives_q)),
      )

  pub others-keep : (program : Units) (ps : List ℕ) (p q : ℕ) (top : Level × Process) (t : State) (x : Name) (i : ℕ) → step program p (run program ps) ≡ Some t → p ≢ q → living (run program ps) q ≡ Some top
      → is_private_scalar (unit_at program (unit_of (run program ps) top.0.activation)) x ≡ true
      → (t.store (local top.0.activation x i) ≡ (run program ps).store (local top.0.activation x i)) × (numbered t.processes q ≡ numbered (run program ps).processes q)
  others-keep program ps p q top t x i made other lives =
      let stepped = step_changes program p (run program ps) t made in
      others-stay program ps p stepped.top t made stepped.lives q other top lives x i
