-- Where each array among dummy arguments fits what is given to it, they have their shapes, and else there is SHAPE: X3.9-1978, 5.5.1
-- and 15.9.3.3.
use Rattle.std.proofs.Common.{◌≡◌, ◌≢◌, ℕ, zero, suc, ◌+◌, ◌<◌, Bool, true, false, if◌then◌else◌, List, [], ◌∷◌, Option, Some, None, Result, Ok, Err, refl, ap, sym, ◌∙◌, subst, arith, ◌&&◌, ◌||◌, length, map, nat_eq, slice_get}
use Rattle.std.specs.List.{list_all}
use Rattle.std.specs.Option.{option_or, unwrap_or}
use Rattle.std.proofs.lemmas.Bool.{and_parts}
use Rattle.std.proofs.lemmas.List.{length-map}
use Rattle.std.proofs.lemmas.Option.{none-some, same_Some}
use Rattle.hep_machine.specs.Words.{Dimension, Name, Statement, Units, dummies_of, Binding, binding_for, binding_with_shapes, bound_values, dummies_for, dummy_before, dummy_with_shape, with_actuals, with_shape, with_shapes, with_store, adjustable_dimensions, bounds_of, cells_of, constant_shape, constant_value}
use Rattle.hep_machine.specs.Words.{if_shape, is_constant_dimension, shape_by, dimensions_of, is_array, is_common, is_dummy, is_nonempty, no_shape, Actual, evaluated, referred, Layout, Scope, dummy_at, storage_of, Bounds, fits, is_shape, Dummy, State, Store}
use Rattle.hep_machine.specs.declared.event.Kind.{Kind}
use Rattle.hep_machine.specs.declared.event.Kind.TheVariants.{Shape}
use Rattle.hep_machine.specs.declared.slot.Slot.{Slot}
use Rattle.hep_arena.specs.Gaps.{frame_among}
use Rattle.hep_layout.specs.Words.{Holds}
use Rattle.hep_image.specs.declared.dummy.DummyArgument.{DummyArgument}
use Rattle.hep_image.specs.declared.dummy.DummyArgument.TheVariants.{Scalar, Array, Adjustable}
use Rattle.hep_image.specs.Dummies.{common_cell, dummy_arguments, dummy_of}
use Rattle.hep_image.proofs.ArrayExtents.{all-adjustable, bounds-length, bounds-same, none-adjustable}
use Rattle.hep_step.specs.declared.dummy_storage.DummyStorage.{DummyStorage}
use Rattle.hep_step.specs.declared.dummy_storage.DummyStorage.TheVariants as giving
use Rattle.hep_step.specs.ArgumentAgreement.{AreGiven, IsGiven}
use Rattle.hep_step.specs.Shapes.{AreShapesOf, IsShapeOf, count_of_given}
use Rattle.hep_code.specs.Sources.{AreStored, IsNamedOnce, adjustable_code, source_of}
use Rattle.hep_code.proofs.Dimensions.{shape_comes}
use Rattle.hep_code.proofs.Sources.{shaped, source_is, value_found}
use Rattle.hep_binding.specs.DummyShapes.{are_fitting, are_fitting_from, has_room, is_fitting_at, shape_of_dummy, shapes_of}
use Rattle.hep_binding.specs.DummyContents.{shape_by_code, stored_for, stored_in}
use Rattle.hep_binding.proofs.CommonCells.{common_addressed}
use Rattle.hep_binding.proofs.StoredDummies.{are_stored}

-- ---- shapes

none_of : (n : ℕ) → nat_eq n 0 ≡ true → n ≡ 0
none_of n h = grind (arith)

room_shapes : (d : Dummy) (count : ℕ) (o : Option Bounds) → d.rest ≡ count → has_room count o ≡ true
    → (bs : Bounds) × (o ≡ Some bs) × (dummy_with_shape d o ≡ Ok (record d { shape = bs }))
room_shapes d count None rest h = absurd cc
room_shapes d count (Some bs) rest h = (bs, refl, ap (λ b. if b then Ok (record d { shape = bs }) else Err Shape) (ap (fits bs) rest ∙ h))

no_room_faults : (d : Dummy) (count : ℕ) (o : Option Bounds) → d.rest ≡ count → has_room count o ≡ false
    → dummy_with_shape d o ≡ Err Shape
no_room_faults d count None rest h = refl
no_room_faults d count (Some bs) rest h = ap (λ b. if b then Ok (record d { shape = bs }) else Err Shape) (ap (fits bs) rest ∙ h)

unshaped : (o : Option Bounds) (bs : Bounds) → if_shape o ≡ Some bs → o ≡ Some bs
unshaped None bs e = absurd (none-some bs e)
unshaped (Some cs) bs e = by_test (is_shape cs) e where
  by_test : (b : Bool) → (if b then Some cs else None) ≡ Some bs → Some cs ≡ Some bs
  by_test true e = e
  by_test false e = absurd (none-some bs e)

-- a scalar has no dimensions
no_dimensions : (unit : List Statement) (ds : List Dimension) → is_nonempty ds ≡ false → (if list_all (is_constant_dimension unit) ds then 0 else length ds) ≡ 0
no_dimensions unit [] e = refl
no_dimensions unit (d ∷ ds) e = absurd cc

abbrev pub HasConstantShape : List Statement → Name → Type 0
HasConstantShape unit x = (bs : Bounds) × (constant_shape unit x ≡ Some bs)

-- ---- a unit that is called, and what is given

module _ (program : Units) (u : ℕ) (unit : List Statement) (there : slice_get program u ≡ Some unit)
    (constant : (x : Name) → is_array unit x ≡ true → adjustable_dimensions unit x ≡ 0 → HasConstantShape unit x)
    (some_cells : (x : Name) → is_common unit x ≡ true → 0 < cells_of unit x)
    (s : State) (layout : Layout) (contents : List Slot) (a : ℕ) (scope : Scope)
    (actuals : List Actual) (given : List DummyStorage) (ds : List Dummy)
    (once : IsNamedOnce (dummies_of unit)) (frameless : frame_among a layout ≡ None) (holds : Holds program s layout contents)
    (gives : AreGiven program s layout a (dummies_of unit) actuals given ds)
    (bound : dummies_for scope a (dummies_of unit) actuals ≡ Ok ds) where
  abbrev new : Scope
  new = record { unit = unit; number = a; dummies = ds }

  abbrev stored : Store
  stored = with_actuals s.store a (dummies_of unit) actuals

  are_there : AreStored new stored (common_cell program unit) (stored_in contents) (stored_for contents given)
  are_there =
      are_stored program s layout contents a frameless new actuals given (common_cell program unit) holds once gives
      (λ x is. common_addressed program u unit there some_cells s layout a ds x is)

  -- ---- one dummy argument

  abbrev code_for : Name → Option Bounds
  code_for x = shape_by_code contents given (adjustable_code unit (common_cell program unit) x)

  abbrev count_at : ℕ → ℕ
  count_at k = count_of_given (slice_get given k)

  abbrev dummy_as : Name → Bool → Bool → DummyArgument
  dummy_as x b z =
      if b then (
      if z then Array (unwrap_or (constant_shape unit x) no_shape) else Adjustable (adjustable_code unit (common_cell program unit) x)) else Scalar

  dummy_is : (x : Name) (b z : Bool) → is_array unit x ≡ b → nat_eq (adjustable_dimensions unit x) 0 ≡ z
      → dummy_of program unit x ≡ dummy_as x b z
  dummy_is x b z e f = λ i. dummy_as x (e i) (f i)

  tested : (k : ℕ) (x : Name) (b z t : Bool) → is_array unit x ≡ b → nat_eq (adjustable_dimensions unit x) 0 ≡ z
      → is_fitting_at contents given k (dummy_of program unit x) ≡ t → is_fitting_at contents given k (dummy_as x b z) ≡ t
  tested k x b z t e f h = sym (ap (is_fitting_at contents given k) (dummy_is x b z e f)) ∙ h

  scalar_shaped : (x : Name) (d : Dummy) → is_array unit x ≡ false → with_shape new stored x d ≡ Ok d
  scalar_shaped x d is = ap (λ b. if b then dummy_with_shape d (shape_by unit (bound_values new stored) x) else Ok d) is

  -- constants have their values, whatever is stored
  constant_shaped : (x : Name) (d : Dummy) (bs : Bounds) → is_array unit x ≡ true → adjustable_dimensions unit x ≡ 0
      → constant_shape unit x ≡ Some bs → with_shape new stored x d ≡ dummy_with_shape d (Some bs)
  constant_shaped x d bs is none e =
      ap (λ b. if b then dummy_with_shape d (shape_by unit (bound_values new stored) x) else Ok d) is
      ∙ ap (dummy_with_shape d) (
      ap if_shape (bounds-same unit (bound_values new stored) constants (dimensions_of unit x) (none-adjustable unit x is none))
      ∙ (sym (ap (λ b. if b then shape_by unit (constant_value unit) x else Some []) is) ∙ e))
    where
      constants : (y : Name) (v : _) → constant_value unit y ≡ Some v → bound_values new stored y ≡ Some v
      constants y v e = ap (λ o. option_or o (if is_dummy unit y || is_common unit y then (stored (storage_of new y).start).value else None)) e

  adjustable_shaped : (x : Name) (d : Dummy) → is_array unit x ≡ true → with_shape new stored x d ≡ dummy_with_shape d (code_for x)
  adjustable_shaped x d is =
      shaped new stored (common_cell program unit) (stored_in contents) (stored_for contents given) are_there x d
      ∙ ap (λ b. if b then dummy_with_shape d (code_for x) else Ok d) is

  -- it has as many dimensions as the array
  code_dimensions : (x : Name) (bs : Bounds) → adjustable_dimensions unit x ≢ 0 → code_for x ≡ Some bs → length bs ≡ adjustable_dimensions unit x
  code_dimensions x bs other e =
      let cell = common_cell program unit in
      let values = bound_values new stored in
      let found = value_found new stored cell (stored_in contents) (stored_for contents given) are_there in
      let comes = shape_comes (stored_in contents) (stored_for contents given) unit (source_of unit cell) values (source_is unit cell) found x in
      bounds-length unit values (dimensions_of unit x) bs (unshaped (bounds_of unit values (dimensions_of unit x)) bs (sym comes ∙ e)) ∙ sym (all-adjustable unit x other)

  abbrev HasItsShape : Name → Dummy → Type 0
  HasItsShape x e = IsShapeOf unit x e (shape_of_dummy contents given (dummy_of program unit x))

  shape_so : (x : Name) (e : Dummy) (b z : Bool) → is_array unit x ≡ b → nat_eq (adjustable_dimensions unit x) 0 ≡ z
      → (o : Option Bounds) → shape_of_dummy contents given (dummy_as x b z) ≡ o → IsShapeOf unit x e o → HasItsShape x e
  shape_so x e b z is f o known h = subst (IsShapeOf unit x e) (sym (ap (shape_of_dummy contents given) (dummy_is x b z is f) ∙ known)) h

  one_fit : (k : ℕ) (x : Name) (d : Dummy) → d.rest ≡ count_at k → is_fitting_at contents given k (dummy_of program unit x) ≡ true
      → (e : Dummy) × (with_shape new stored x d ≡ Ok e) × HasItsShape x e
  one_fit k x d rest fit = by_kind (is_array unit x) (nat_eq (adjustable_dimensions unit x) 0) refl refl where
    by_kind : (b z : Bool) → is_array unit x ≡ b → nat_eq (adjustable_dimensions unit x) 0 ≡ z
        → (e : Dummy) × (with_shape new stored x d ≡ Ok e) × HasItsShape x e
    by_kind false z is f = (d, scalar_shaped x d is, shape_so x d false z is f None refl (no_dimensions unit (dimensions_of unit x) is))
    by_kind true true is f =
        let none = none_of (adjustable_dimensions unit x) f in
        let known = constant x is none in
        let room : has_room (count_at k) (Some known.0) ≡ true =
        ap (λ o. fits o (count_at k)) (sym (ap (λ o. unwrap_or o no_shape) known.1)) ∙ tested k x true true true is f fit in
        let made = room_shapes d (count_at k) (Some known.0) rest room in
        (record d { shape = made.0 }, constant_shaped x d known.0 is none known.1 ∙ made.2, shape_so x (record d { shape = made.0 }) true true is f None refl none)
    by_kind true false is f =
        let made = room_shapes d (count_at k) (code_for x) rest (tested k x true false true is f fit) in
        let long = code_dimensions x made.0 (λ zero. let both : true ≡ false = sym (ap (λ n. nat_eq n 0) zero) ∙ f in cc) made.1 in
        (record d { shape = made.0 }, adjustable_shaped x d is ∙ made.2, shape_so x (record d { shape = made.0 }) true false is f (Some made.0) made.1 (long, refl))

  one_unfit : (k : ℕ) (x : Name) (d : Dummy) → d.rest ≡ count_at k → is_fitting_at contents given k (dummy_of program unit x) ≡ false
      → with_shape new stored x d ≡ Err Shape
  one_unfit k x d rest unfit = by_kind (is_array unit x) (nat_eq (adjustable_dimensions unit x) 0) refl refl where
    by_kind : (b z : Bool) → is_array unit x ≡ b → nat_eq (adjustable_dimensions unit x) 0 ≡ z → with_shape new stored x d ≡ Err Shape
    by_kind false z is f = absurd (let both : true ≡ false = tested k x false z false is f unfit in cc)
    by_kind true true is f =
        let none = none_of (adjustable_dimensions unit x) f in
        let known = constant x is none in
        let room : has_room (count_at k) (Some known.0) ≡ false =
        ap (λ o. fits o (count_at k)) (sym (ap (λ o. unwrap_or o no_shape) known.1)) ∙ tested k x true true false is f unfit in
        constant_shaped x d known.0 is none known.1 ∙ no_room_faults d (count_at k) (Some known.0) rest room
    by_kind true false is f =
        adjustable_shaped x d is ∙ no_room_faults d (count_at k) (code_for x) rest (tested k x true false false is f unfit)

  -- ---- all of them, of which the first has this number

  abbrev all_tested : ℕ → List Name → Bool
  all_tested k xs = are_fitting_from contents given k (map (dummy_of program unit) xs)

  abbrev ArePaired : ℕ → List Name → List Dummy → Type 0
  ArePaired k [] [] = Unit {0}
  ArePaired k (x ∷ xs) (d ∷ es) = (d.rest ≡ count_at k) × ArePaired (suc k) xs es
  ArePaired k _ _ = ⊥

  abbrev shapes_for : List Name → List (Option Bounds)
  shapes_for xs = shapes_of contents given (map (dummy_of program unit) xs)

  abbrev HaveShapes : List Name → List Dummy → Type 0
  HaveShapes xs es =
      (i : ℕ) (x : Name) (o : Option Bounds) → slice_get xs i ≡ Some x → slice_get (shapes_for xs) i ≡ Some o → IsShapeOf unit x (dummy_at es i) o

  one_more : (x : Name) (xs : List Name) (e : Dummy) (es : List Dummy) → HasItsShape x e → HaveShapes xs es → HaveShapes (x ∷ xs) (e ∷ es)
  one_more x xs e es here rest zero y o is at =
      subst (λ n. IsShapeOf unit n e o) (same_Some x y is) (subst (IsShapeOf unit x e) (same_Some (shape_of_dummy contents given (dummy_of program unit x)) o at) here)
  one_more x xs e es here rest (suc i) y o is at = rest i y o is at

  all_fit : (k : ℕ) (xs : List Name) (es : List Dummy) → ArePaired k xs es
      → all_tested k xs ≡ true
      → (fs : List Dummy) × (with_shapes new stored xs es ≡ Ok fs) × HaveShapes xs fs
  all_fit k [] [] h fit = ([], refl, λ i x o e at. absurd (none-some x e))
  all_fit k (x ∷ xs) (d ∷ es) h fit =
      let parts = and_parts (is_fitting_at contents given k (dummy_of program unit x)) (all_tested (suc k) xs) fit in
      let first = one_fit k x d h.0 parts.0 in
      let rest = all_fit (suc k) xs es h.1 parts.1 in
      (first.0 ∷ rest.0, (λ i. dummy_before (first.1 i) (rest.1 i)), one_more x xs first.0 rest.0 first.2 rest.2)
  all_fit k [] (d ∷ es) h fit = absurd h
  all_fit k (x ∷ xs) [] h fit = absurd h

  all_unfit : (k : ℕ) (xs : List Name) (es : List Dummy) → ArePaired k xs es
      → all_tested k xs ≡ false → with_shapes new stored xs es ≡ Err Shape
  all_unfit k [] [] h unfit = absurd cc
  all_unfit k (x ∷ xs) (d ∷ es) h unfit = by_first (all_unfit (suc k) xs es h.1) (is_fitting_at contents given k (dummy_of program unit x)) refl unfit where
    by_first : (all_tested (suc k) xs ≡ false → with_shapes new stored xs es ≡ Err Shape)
        → (t : Bool) → is_fitting_at contents given k (dummy_of program unit x) ≡ t
        → (t && all_tested (suc k) xs) ≡ false → with_shapes new stored (x ∷ xs) (d ∷ es) ≡ Err Shape
    by_first rest true t lacks = let first = one_fit k x d h.0 t in λ i. dummy_before (first.1 i) (rest lacks i)
    by_first rest false t lacks = ap (λ r. dummy_before r (with_shapes new stored xs es)) (one_unfit k x d h.0 t)
  all_unfit k [] (d ∷ es) h unfit = absurd h
  all_unfit k (x ∷ xs) [] h unfit = absurd h

  -- ---- what is given

  -- as many storage units as there are from the first one on
  rest_given : (x : Name) (y : Actual) (g : DummyStorage) (d : Dummy) → IsGiven program s layout a x y g d → d.rest ≡ count_of_given (Some g)
  rest_given x (evaluated v) (giving.Value w) d h = ap (λ (c : Dummy). c.rest) h.1
  rest_given x (referred r) (giving.Units first count) d h = h.rest
  rest_given x (evaluated v) (giving.Units first count) d h = absurd h
  rest_given x (referred r) (giving.Value w) d h = absurd h

  paired : (k : ℕ) (xs : List Name) (ys : List Actual) (gs : List DummyStorage) (es : List Dummy)
      → ((i : ℕ) → slice_get gs i ≡ slice_get given (k + i)) → AreGiven program s layout a xs ys gs es → ArePaired k xs es
  paired k [] [] [] [] same h = tt
  paired k (x ∷ xs) (y ∷ ys) (g ∷ gs) (d ∷ es) same h =
      let zero_more : k + 0 ≡ k = omega arith in (
        rest_given x y g d h.0 ∙ ap count_of_given (same 0 ∙ ap (slice_get given) zero_more),
        paired (suc k) xs ys gs es (λ i. same (suc i) ∙ ap (slice_get given) (let next : k + suc i ≡ suc k + i = omega arith in next)) h.1,
      )
  paired k [] [] [] (d ∷ es) same h = absurd h
  paired k [] [] (g ∷ gs) es same h = absurd h
  paired k [] (y ∷ ys) gs es same h = absurd h
  paired k (x ∷ xs) [] gs es same h = absurd h
  paired k (x ∷ xs) (y ∷ ys) [] es same h = absurd h
  paired k (x ∷ xs) (y ∷ ys) (g ∷ gs) [] same h = absurd h

  pairs : ArePaired 0 (dummies_of unit) ds
  pairs = paired 0 (dummies_of unit) actuals given ds (λ i. ap (slice_get given) (let none : i ≡ 0 + i = omega arith in none)) gives

  -- ---- binding

  binding_is : (r : Result (List Dummy) Kind) → with_shapes new stored (dummies_of unit) ds ≡ r
      → binding_for scope s.store unit a actuals ≡ with_store stored r
  binding_is r e = ap (binding_with_shapes unit a stored) bound ∙ ap (with_store stored) e

  pub fit_bound : are_fitting contents given (dummy_arguments program unit) ≡ true
      → (b : Binding) × (binding_for scope s.store unit a actuals ≡ Ok b) × AreShapesOf unit b.dummies (shapes_of contents given (dummy_arguments program unit))
  fit_bound fit =
      let all = all_fit 0 (dummies_of unit) ds pairs fit in
      let long = length-map (dummy_arguments program unit) (shape_of_dummy contents given) ∙ length-map (dummies_of unit) (dummy_of program unit) in
      (record { dummies = all.0; store = stored }, binding_is (Ok all.0) all.1, record { as_many = long; each = all.2 })

  pub unfit_faults : are_fitting contents given (dummy_arguments program unit) ≡ false
      → binding_for scope s.store unit a actuals ≡ Err Shape
  unfit_faults unfit = binding_is (Err Shape) (all_unfit 0 (dummies_of unit) ds pairs unfit)
