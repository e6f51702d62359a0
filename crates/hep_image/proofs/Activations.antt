-- In a run the dummy arguments of each activation are bound.
use Rattle.std.proofs.Common.{◌≡◌, ◌≤◌, ◌<◌, ℕ, suc, ◌-◌, Bool, true, false, List, [], ◌∷◌, length, Option, Some, None, Result, Ok, Err, refl, sym, ap, ◌∙◌, subst, arith, inl, inr, zero, ◌+◌, ◌&&◌, ◌||◌, if◌then◌else◌, not, slice_get, nat_eq, nat_le, length-append}
use Rattle.std.specs.Option.{option_map, option_or, unwrap_or}
use Rattle.std.proofs.lemmas.Bool.Decides.{nat_tests}
use Rattle.std.proofs.lemmas.Option.{same_Some, none-some}
use Rattle.hep_machine.specs.Words.{Name, Statement, same_name, index_among, dummies_of, Units, main_unit, unit_at, Binding, binding_for, binding_with_shapes, bound_values, dummies_for, dummy_before, dummy_for, dummy_with_shape, first_element, from_element, with_actuals, with_shape, with_shapes, with_store, bounds_of}
use Rattle.hep_machine.specs.Words.{constant_value, if_shape, shape_by, adjustable_dimensions, cells_of_shape, constant_shape, dimensions_of, is_array, is_common, is_dummy, is_nonempty, Actual, Reference, evaluated, referred, Next, Scope, element_of, storage_of, storage_by_dummy, storage_of_dummy, Bounds, fits}
use Rattle.hep_machine.specs.Words.{most_elements, elements, is_shape, Dummy, Location, Store, local, common, Activation, Level, Process, State, further, is_owned, no_dummy, opening, activation_of, living, run, run_from, binding_of, next_activation, result_after_next, scope_of, step, Top}
use Rattle.hep_source.proofs.NameTests.{equal_names}
use Rattle.hep_machine.specs.declared.event.Kind.{Kind}
use Rattle.hep_machine.specs.declared.event.Kind.TheVariants.{Shape}
use Rattle.hep_layout.specs.Words.{IsMadeAt}
use Rattle.hep_layout.proofs.Passed.{IsMadeScope, made-further, made-storage}
use Rattle.hep_layout.proofs.Storages.{element-counted, same-ok, shape-fits}
use Rattle.hep_image.specs.BoundActivations.{IsBoundTo, AreClosed, CallsAgree, IsBound, NextAgrees}
use Rattle.hep_image.proofs.ArrayExtents.{AreMore, all-adjustable, bounds-length, bounds-same, none-adjustable, shape-some}
use Rattle.hep_machine.proofs.ConstantShapes.{shaped, constant-shape}
use Rattle.std.proofs.lemmas.Bool.{eqb-false, eqb-true}
use Rattle.hep_machine.proofs.Ages.{aged, on_stack_made}
use Rattle.hep_image.proofs.AddedNames.{Adds, Binds, added-next}
use Rattle.hep_machine.proofs.Changes.{Makes, by_step, next_on, top_in}
use Rattle.hep_layout.proofs.Memory.{activation-kept, activation-last, same-activation}
use Rattle.hep_layout.proofs.References.{each-state, references-made}
use Rattle.hep_layout.proofs.Stacks.{top-numbered}
use Rattle.hep_layout.proofs.FrameTree.{stacked-top}
use Rattle.hep_image.proofs.Variables.{most-or}

-- ---- results and lists

abbrev IfOkay : {A E : Type 0} → (A → Type 0) → Result A E → Type 0
IfOkay P (Err k) = Unit {0}
IfOkay P (Ok x) = P x

-- dummy arguments with what they stand for, one by one
abbrev pub ArePairs : (Name → Dummy → Type 0) → List Name → List Dummy → Type 0
ArePairs P [] [] = Unit {0}
ArePairs P [] (d ∷ ds) = ⊥
ArePairs P (x ∷ xs) [] = ⊥
ArePairs P (x ∷ xs) (d ∷ ds) = P x d × ArePairs P xs ds

pairs-before : (P : Name → Dummy → Type 0) (x : Name) (xs : List Name) (d : Result Dummy Kind) (ds : Result (List Dummy) Kind) → IfOkay (P x) d → IfOkay (ArePairs P xs) ds → IfOkay (ArePairs P (x ∷ xs)) (dummy_before d ds)
pairs-before P x xs (Err k) ds h l = tt
pairs-before P x xs (Ok d) (Err k) h l = tt
pairs-before P x xs (Ok d) (Ok ds) h l = (h, l)

pub pair-at : (P : Name → Dummy → Type 0) (x : Name) (xs : List Name) (ds : List Dummy) (k : ℕ) → ArePairs P xs ds → index_among x xs ≡ Some k → (d : Dummy) × (slice_get ds k ≡ Some d) × P x d
pair-at P x [] ds k h e = absurd (none-some k e)
pair-at P x (y ∷ ys) [] k h e = absurd h
pair-at P x (y ∷ ys) (d ∷ ds) k h e = by_test (λ j. pair-at P x ys ds j h.1) (same_name x y) refl e where
  behind : ((j : ℕ) → index_among x ys ≡ Some j → (z : Dummy) × (slice_get ds j ≡ Some z) × P x z) → (o : Option ℕ) → index_among x ys ≡ o → option_map suc o ≡ Some k → (z : Dummy) × (slice_get (d ∷ ds) k ≡ Some z) × P x z
  behind rest None i e = absurd (none-some k e)
  behind rest (Some j) i e =
      let found = rest j i in
      (found.0, ap (slice_get (d ∷ ds)) (sym (same_Some (suc j) k e)) ∙ found.1, found.2)

  by_test : ((j : ℕ) → index_among x ys ≡ Some j → (z : Dummy) × (slice_get ds j ≡ Some z) × P x z) → (b : Bool) → same_name x y ≡ b → (if b then Some 0 else option_map suc (index_among x ys)) ≡ Some k → (z : Dummy) × (slice_get (d ∷ ds) k ≡ Some z) × P x z
  by_test rest true t e = (d, ap (slice_get (d ∷ ds)) (sym (same_Some 0 k e)), subst (λ z. P z d) (sym (equal_names x y t)) h.0)
  by_test rest false t e = behind rest (index_among x ys) refl e

-- ---- what is passed

-- what a dummy argument of activation a stands for, its shape not yet known
record IsPassedTo (a : ℕ) (x : Name) (d : Dummy) : Type 0 where
  value : is_owned a d.start ≡ true → (d.start ≡ local a x 1) × (d.rest ≡ 1)
  some : 1 ≤ d.rest
  few : d.rest ≤ most_elements
  shapeless : d.shape ≡ []

pub not-owned : (n a : ℕ) (at : Location) → n < a → IsMadeAt n at → is_owned a at ≡ false
not-owned n a (local b x i) less made = grind (arith, nat_tests)
not-owned n a (common b i) less made = refl

abbrev pub AreSized : Scope → Type 0
AreSized scope = (x : Name) → (1 ≤ (storage_of scope x).rest) × ((storage_of scope x).rest ≤ most_elements)

module _ (scope : Scope) (n a : ℕ) (made : IsMadeScope n scope) (less : n < a) (sized : AreSized scope) where
  first-within : (r : Reference) (m : ℕ) → first_element scope r ≡ Ok m → (1 ≤ m) × (m ≤ (storage_of scope r.0).rest)
  first-within r m h = by_test (is_array scope.unit r.0 && not (is_nonempty r.1)) h where
    by_test : (b : Bool) → (if b then Ok 1 else element_of (storage_of scope r.0) r.1) ≡ Ok m → (1 ≤ m) × (m ≤ (storage_of scope r.0).rest)
    by_test true h = let same : 1 ≡ m = same-ok 1 m h in (omega (arith, same), omega (arith, same, (sized r.0).0))
    by_test false h = element-counted (storage_of scope r.0) r.1 m h

  element-passed : (x y : Name) (o : Result ℕ Kind) → ((m : ℕ) → o ≡ Ok m → (1 ≤ m) × (m ≤ (storage_of scope y).rest)) → IfOkay (IsPassedTo a x) (from_element (storage_of scope y) o)
  element-passed x y (Err k) within = tt
  element-passed x y (Ok m) within =
      let there = within m refl in
      let other = not-owned n a (further (storage_of scope y).start (m - 1)) less (made-further n (storage_of scope y).start (m - 1) (made-storage n scope y made)) in
      record {
        value = λ own. absurd (let both : true ≡ false = sym own ∙ other in cc);
        some = omega (arith, there.0, there.1);
        few = omega (arith, there.0, there.1, (sized y).1);
        shapeless = refl;
      }

  dummy-passed : (x : Name) (y : Actual) → IfOkay (IsPassedTo a x) (dummy_for scope a x y)
  dummy-passed x (evaluated v) = record { value = λ own. (refl, refl); some = omega arith; few = omega arith; shapeless = refl }
  dummy-passed x (referred r) = element-passed x r.0 (first_element scope r) (first-within r)

  dummies-passed : (xs : List Name) (ys : List Actual) → length ys ≡ length xs → IfOkay (ArePairs (IsPassedTo a) xs) (dummies_for scope a xs ys)
  dummies-passed [] ys e = tt
  dummies-passed (x ∷ xs) [] e = absurd (omega (arith, e))
  dummies-passed (x ∷ xs) (y ∷ ys) e = pairs-before (IsPassedTo a) x xs (dummy_for scope a x y) (dummies_for scope a xs ys) (dummy-passed x y) (dummies-passed xs ys (omega (arith, e)))

-- ---- shapes

constants-first : (scope : Scope) (store : Store) → AreMore (constant_value scope.unit) (bound_values scope store)
constants-first scope store x v e = ap (λ o. option_or o (if is_dummy scope.unit x || is_common scope.unit x then (store (storage_of scope x).start).value else None)) e

module _ (new : Scope) (store : Store) (a : ℕ) where
  array-bound : (x : Name) (d : Dummy) (bs : Bounds) → is_array new.unit x ≡ true → IsPassedTo a x d → shape_by new.unit (bound_values new store) x ≡ Some bs → fits bs d.rest ≡ true → IsBoundTo new.unit a x (record d { shape = bs })
  array-bound x d bs is h e fitting =
      let good = shaped new.unit (bounds_of new.unit (bound_values new store) (dimensions_of new.unit x)) bs e in
      record {
        value = h.value;
        scalar = λ other. absurd (let both : true ≡ false = sym is ∙ other in cc);
        constant = λ same none.
            let known = bounds-same new.unit (bound_values new store) (constants-first new store) (dimensions_of new.unit x) (none-adjustable new.unit x is none) in
            ap (λ b. if b then shape_by new.unit (constant_value new.unit) x else Some []) is ∙ (ap if_shape (sym known) ∙ e);
        adjustable = λ same other. (bounds-length new.unit (bound_values new store) (dimensions_of new.unit x) bs good.0 ∙ sym (all-adjustable new.unit x other), good.1);
        some = h.some;
        few = h.few;
        fitting = fitting;
      }

  scalar-bound : (x : Name) (d : Dummy) → is_array new.unit x ≡ false → IsPassedTo a x d → IsBoundTo new.unit a x d
  scalar-bound x d is h =
      let one = h.some in
      record {
        value = h.value;
        scalar = λ same. h.shapeless;
        constant = λ other. absurd (let both : false ≡ true = sym is ∙ other in cc);
        adjustable = λ other. absurd (let both : false ≡ true = sym is ∙ other in cc);
        some = h.some;
        few = h.few;
        fitting = ap (λ (bs : Bounds). fits bs d.rest) h.shapeless ∙ grind (arith, nat_tests, one);
      }

  shape-bound : (x : Name) (d : Dummy) → IsPassedTo a x d → IfOkay (IsBoundTo new.unit a x) (with_shape new store x d)
  shape-bound x d h = by_kind (is_array new.unit x) refl where
    by_fit : (bs : Bounds) → is_array new.unit x ≡ true → shape_by new.unit (bound_values new store) x ≡ Some bs → (b : Bool) → fits bs d.rest ≡ b → IfOkay (IsBoundTo new.unit a x) (if b then Ok (record d { shape = bs }) else Err Shape)
    by_fit bs is e true t = array-bound x d bs is h e t
    by_fit bs is e false t = tt

    by_shape : (o : Option Bounds) → is_array new.unit x ≡ true → shape_by new.unit (bound_values new store) x ≡ o → IfOkay (IsBoundTo new.unit a x) (dummy_with_shape d o)
    by_shape None is e = tt
    by_shape (Some bs) is e = by_fit bs is e (fits bs d.rest) refl

    by_kind : (b : Bool) → is_array new.unit x ≡ b → IfOkay (IsBoundTo new.unit a x) (if b then dummy_with_shape d (shape_by new.unit (bound_values new store) x) else Ok d)
    by_kind true is = by_shape (shape_by new.unit (bound_values new store) x) is refl
    by_kind false is = scalar-bound x d is h

  shapes-bound : (xs : List Name) (ds : List Dummy) → ArePairs (IsPassedTo a) xs ds → IfOkay (ArePairs (IsBoundTo new.unit a) xs) (with_shapes new store xs ds)
  shapes-bound [] [] h = tt
  shapes-bound (x ∷ xs) (d ∷ ds) h =
      pairs-before (IsBoundTo new.unit a) x xs (with_shape new store x d) (with_shapes new store xs ds) (shape-bound x d h.0) (shapes-bound xs ds h.1)
  shapes-bound _ _ h = absurd h

-- ---- binding

abbrev pub BindsAll : List Statement → ℕ → Result Binding Kind → Type 0
BindsAll unit a (Err k) = Unit {0}
BindsAll unit a (Ok b) = ArePairs (IsBoundTo unit a) (dummies_of unit) b.dummies

pub binding-bound : (scope : Scope) (n a : ℕ) (store : Store) (unit : List Statement) (ys : List Actual) → IsMadeScope n scope → n < a → AreSized scope → length ys ≡ length (dummies_of unit) → BindsAll unit a (binding_for scope store unit a ys)
binding-bound scope n a store unit ys made less sized e =
    by_dummies (with_actuals store a (dummies_of unit) ys) (dummies_for scope a (dummies_of unit) ys) (dummies-passed scope n a made less sized (dummies_of unit) ys e)
  where
    by_shapes : (new : Store) (ds : Result (List Dummy) Kind) → IfOkay (ArePairs (IsBoundTo unit a) (dummies_of unit)) ds → BindsAll unit a (with_store new ds)
    by_shapes new (Err k) h = tt
    by_shapes new (Ok ds) h = h

    by_dummies : (new : Store) (ds : Result (List Dummy) Kind) → IfOkay (ArePairs (IsPassedTo a) (dummies_of unit)) ds → BindsAll unit a (binding_with_shapes unit a new ds)
    by_dummies new (Err k) h = tt
    by_dummies new (Ok ds) h =
        let inner : Scope = record { unit = unit; number = a; dummies = ds } in
        by_shapes new (with_shapes inner new (dummies_of unit) ds) (shapes-bound inner new a (dummies_of unit) ds h)

-- ---- how many storage units names stand for

abbrev IsSize : ℕ → Type 0
IsSize n = (1 ≤ n) × (n ≤ most_elements)

abbrev HasElements : List Statement → Name → Type 0
HasElements unit x = (bs : Bounds) × (constant_shape unit x ≡ Some bs) × (n : ℕ) × (elements bs ≡ Some n)

own-sized : (unit : List Statement) (x : Name) → (is_array unit x ≡ true → HasElements unit x) → IsSize (cells_of_shape (constant_shape unit x))
own-sized unit x has = by_kind (is_array unit x) refl where
  by_kind : (b : Bool) → is_array unit x ≡ b → IsSize (cells_of_shape (constant_shape unit x))
  by_kind true is =
      let known = has is in
      let good = constant-shape unit x known.0 is known.1 in
      let cells : cells_of_shape (constant_shape unit x) ≡ known.2 = ap cells_of_shape known.1 ∙ ap (λ o. unwrap_or o 0) known.3 in
      let one : unwrap_or (elements known.0) 1 ≡ known.2 = ap (λ o. unwrap_or o 1) known.3 in
      let none : unwrap_or (elements known.0) 0 ≡ known.2 = ap (λ o. unwrap_or o 0) known.3 in
      (omega (arith, cells, one, shape-some known.0 1 good.0 (omega arith)), omega (arith, cells, none, most-or known.0 0 good.0 (omega arith)))
  by_kind false is =
      let one : cells_of_shape (constant_shape unit x) ≡ 1 = ap (λ b. cells_of_shape (if b then shape_by unit (constant_value unit) x else Some [])) is in
      (omega (arith, one), omega (arith, one))

-- a dummy array's bounds are a shape
pub dummy-shape : (unit : List Statement) (a : ℕ) (x : Name) (d : Dummy) → IsBoundTo unit a x d → is_array unit x ≡ true → is_shape d.shape ≡ true
dummy-shape unit a x d h is = by_test (nat_eq (adjustable_dimensions unit x) 0) refl where
  by_test : (b : Bool) → nat_eq (adjustable_dimensions unit x) 0 ≡ b → is_shape d.shape ≡ true
  by_test true t = (constant-shape unit x d.shape is (h.constant is (eqb-true (adjustable_dimensions unit x) 0 t))).0
  by_test false t = (h.adjustable is (eqb-false (adjustable_dimensions unit x) 0 t)).1

dummy-sized : (unit : List Statement) (a : ℕ) (x : Name) (d : Dummy) → IsBoundTo unit a x d → IsSize (unwrap_or (elements d.shape) d.rest)
dummy-sized unit a x d h = (by_kind (is_array unit x) refl, omega (arith, shape-fits d.shape d.rest h.fitting, h.few)) where
  by_kind : (b : Bool) → is_array unit x ≡ b → 1 ≤ unwrap_or (elements d.shape) d.rest
  by_kind true is = shape-some d.shape d.rest (dummy-shape unit a x d h is) h.some
  by_kind false is = subst (λ (bs : Bounds). 1 ≤ unwrap_or (elements bs) d.rest) (sym (h.scalar is)) (omega arith)

unit-closed : (program : Units) (u : ℕ) (x : Name) → AreClosed program → index_among x (dummies_of (unit_at program u)) ≡ None → is_array (unit_at program u) x ≡ true → HasElements (unit_at program u) x
unit-closed program u x closed = by_unit (slice_get program u) refl where
  by_unit : (o : Option (List Statement)) → slice_get program u ≡ o → index_among x (dummies_of (unwrap_or o [])) ≡ None → is_array (unwrap_or o []) x ≡ true → HasElements (unwrap_or o []) x
  by_unit None e none is = absurd cc
  by_unit (Some unit) e none is = closed u unit x e is none

pub scope-sized : (program : Units) (s : State) (a : ℕ) → AreClosed program → IsBound program s a → AreSized (scope_of program s a)
scope-sized program s a closed bound x = by_index (index_among x (dummies_of (scope_of program s a).unit)) refl where
  by_index : (o : Option ℕ) → index_among x (dummies_of (scope_of program s a).unit) ≡ o → IsSize (storage_by_dummy (scope_of program s a) x o).rest
  by_index None e = own-sized (scope_of program s a).unit x (unit-closed program (activation_of s a).unit x closed e)
  by_index (Some k) e =
      let there = bound x k e in
      subst (λ (o : Option Dummy). IsSize (storage_of_dummy (unwrap_or o no_dummy)).rest) (sym there.1) (dummy-sized (scope_of program s a).unit a x there.0 there.2)

-- ---- a step

-- it makes no activation, or one whose dummy arguments are bound
abbrev IsBoundNext : Units → Top → Activation → Type 0
IsBoundNext program t x = ArePairs (IsBoundTo (unit_at program x.unit) (next_activation t.state)) (dummies_of (unit_at program x.unit)) x.dummies

abbrev HasBound : Units → Top → State → Type 0
HasBound program t = Adds program t (IsBoundNext program t)

bound-next : (program : Units) (t : Top) → IsMadeScope (length t.state.activations) (scope_of program t.state t.level.activation)
    → AreSized (scope_of program t.state t.level.activation) → (m : Next) → NextAgrees program m → Makes (HasBound program t) (result_after_next program t m)
bound-next program t made sized = added-next program t (IsBoundNext program t) binds where
  as-bound : (u : ℕ) (b : Result Binding Kind) → BindsAll (unit_at program u) (next_activation t.state) b → Binds program t (IsBoundNext program t) u b
  as-bound u (Err k) h = tt
  as-bound u (Ok b) h = h

  binds : (u : ℕ) (ys : List Actual) → length ys ≡ length (dummies_of (unit_at program u)) → Binds program t (IsBoundNext program t) u (binding_of program t u ys)
  binds u ys e =
      as-bound u (binding_of program t u ys) (
      binding-bound (scope_of program t.state t.level.activation) (length t.state.activations) (next_activation t.state) t.state.store (unit_at program u) ys made (omega arith) sized e)

-- ---- runs

abbrev IsBoundAs : Units → ℕ → Activation → Type 0
IsBoundAs program a z =
    (x : Name) (k : ℕ) → index_among x (dummies_of (unit_at program z.unit)) ≡ Some k → (d : Dummy) × (slice_get z.dummies k ≡ Some d) × IsBoundTo (unit_at program z.unit) a x d

abbrev AreBound : Units → State → Type 0
AreBound program s = (a : ℕ) → 1 ≤ a → a ≤ length s.activations → IsBoundAs program a (activation_of s a)

bound-after : (program : Units) (t : Top) (s : State) → AreBound program t.state → HasBound program t s → AreBound program s
bound-after program t s h (inl e) a one le =
    let long : length s.activations ≡ length t.state.activations = ap length e in
    subst (IsBoundAs program a) (sym (same-activation t.state s a e)) (h a one (omega (arith, le, long)))
bound-after program t s h (inr (z, more, pairs)) a one le = by_number (nat_le a (length t.state.activations)) refl where
  long : length s.activations ≡ length t.state.activations + 1
  long = ap length more ∙ (length-append t.state.activations (z ∷ []) ∙ omega arith)

  by_number : (b : Bool) → nat_le a (length t.state.activations) ≡ b → IsBoundAs program a (activation_of s a)
  by_number true k =
      let within : a ≤ length t.state.activations = grind (arith, nat_tests) in
      subst (IsBoundAs program a) (sym (activation-kept t.state s z a more within)) (h a one within)
  by_number false k =
      let past : length t.state.activations < a = grind (arith, nat_tests) in
      let same : a ≡ suc (length t.state.activations) = omega (arith, past, le, long) in
      let number : next_activation t.state ≡ a = omega (arith, same) in
      let here : activation_of s a ≡ z = ap (activation_of s) same ∙ activation-last t.state s z more in
      subst (IsBoundAs program a) (sym here) (λ x j e. pair-at (IsBoundTo (unit_at program z.unit) a) x (dummies_of (unit_at program z.unit)) z.dummies j (
      subst (λ n. ArePairs (IsBoundTo (unit_at program z.unit) n) (dummies_of (unit_at program z.unit)) z.dummies) number pairs) e)

bound-opening : (program : Units) → dummies_of (unit_at program (main_unit program)) ≡ [] → AreBound program (run program [])
unfolding run run_from opening
bound-opening program none zero one le = absurd (omega (arith, one))
bound-opening program none (suc zero) one le = λ x k e. absurd (none-some k (ap (λ xs. index_among x xs) (sym none) ∙ e))
bound-opening program none (suc (suc a)) one le = absurd (omega (arith, le))

bound-turn : (program : Units) → AreClosed program → CallsAgree program → (ps : List ℕ) (p : ℕ) (t : State) → step program p (run program ps) ≡ Some t → AreBound program (run program ps) → AreBound program t
bound-turn program closed agree ps p t e h = bound-after program (top_in (run program ps) p found.0) t h found.2 where
  on : (top : Level × Process) → living (run program ps) p ≡ Some top → (1 ≤ top.0.activation) × (top.0.activation ≤ length (run program ps).activations)
  on top lives = on_stack_made (run program ps) top.0.activation (aged program ps) (stacked-top (run program ps) p top (top-numbered (run program ps) p top lives))

  found : (top : Level × Process) × (living (run program ps) p ≡ Some top) × HasBound program (top_in (run program ps) p top) t
  found =
      by_step (HasBound program) program p (run program ps) t (λ top lives. (
      let made = on top lives in
      bound-next program (top_in (run program ps) p top) (made.1, λ k. references-made program ps top.0.activation k made.1) (
      scope-sized program (run program ps) top.0.activation closed (h top.0.activation made.0 made.1)) (next_on program (run program ps) top) (agree ps p top lives))) e

pub activations-bound : (program : Units) (ps : List ℕ) (a : ℕ) → AreClosed program → dummies_of (unit_at program (main_unit program)) ≡ [] → CallsAgree program → 1 ≤ a → a ≤ length (run program ps).activations → IsBound program (run program ps) a
activations-bound program ps a closed none agree =
    each-state program (AreBound program) (λ qs p t e last h. bound-turn program closed agree qs p t e h) (bound-opening program none) ps a
