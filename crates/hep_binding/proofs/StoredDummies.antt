-- What is stored in dummy arguments and in COMMON when a unit is called, before it has a frame, and that it can be read: X3.9-1978, 8.3 and 15.9.3.
use Rattle.std.proofs.Common.{◌≡◌, ℕ, zero, suc, ◌+◌, ◌<◌, Bool, true, false, if◌then◌else◌, List, [], ◌∷◌, length, Option, Some, None, refl, ap, sym, ◌∙◌, subst, arith, slice_get}
use Rattle.std.specs.Option.{unwrap_or}
use Rattle.hep_machine.specs.Words.{Name, index_among, Units, dummies_of, unit_at, unset_cell, with_actual, with_actuals, constant_value, dimensions_of, is_common, Actual, evaluated, referred, Layout, Scope, dummy_at, own_storage, activation_of, unit_of, Dummy, Location, local, common, State, Store, same_location, with_value, same_name}
use Rattle.hep_source.specs.declared.value.Value.{Value as Constant}
use Rattle.hep_machine.specs.declared.slot.Slot.{Slot}
use Rattle.hep_machine.proofs.Locations.{equal_locations}
use Rattle.hep_arena.specs.Gaps.{frame_among}
use Rattle.hep_arena.specs.Holes.{Hole, IsOut}
use Rattle.hep_arena.specs.Space.{Space}
use Rattle.hep_layout.specs.Words.{address, address_of_kept, cell_in, kept_in, Holds, IsMemory, FramePart, place_of_part}
use Rattle.hep_layout.proofs.Addresses.{address-out}
use Rattle.hep_layout.proofs.Memory.{location-self}
use Rattle.hep_step.specs.declared.dummy_storage.DummyStorage.{DummyStorage}
use Rattle.hep_step.specs.declared.dummy_storage.DummyStorage.TheVariants as giving
use Rattle.hep_step.specs.ArgumentAgreement.{AreGiven, AreUnitsOf, IsGiven}
use Rattle.hep_binding.specs.DummyContents.{AreReadable, IsCell, IsFirstCell, IsReadable, stored_by, stored_for, stored_in}
use Rattle.hep_code.specs.Sources.{AreStored, IsNamedOnce, adjustable_code, source_by, source_of}
use Rattle.hep_binding.proofs.ReadableBounds.{dimensions_readable}
use Rattle.hep_image.proofs.Variables.{further-none}
use Rattle.hep_source.proofs.Tests.{index-below}

-- ---- names and locations

abbrev name_in : Name → Location → Name
name_in z (local a x i) = x
name_in z (common b i) = z

-- the first storage unit that is given is where the dummy argument begins
begins_at : (program : Units) (s : State) (layout : Layout) (d : Dummy) (first count : ℕ) → AreUnitsOf program s layout (first, count) d → address program s layout d.start ≡ Some first
begins_at program s layout d first count h =
    let some : 0 < d.rest = omega (arith, h.some, h.rest) in
    let zero_more : first + 0 ≡ first = omega arith in
    ap (address program s layout) (sym (further-none d.start)) ∙ (h.run 0 some ∙ ap (λ n. Some n) zero_more)

-- ---- a new activation, which has no frame

module _ (program : Units) (s : State) (layout : Layout) (contents : List Slot) (b : ℕ) (frameless : frame_among b layout ≡ None) where
  no_address : (x : Name) (i : ℕ) → address program s layout (local b x i) ≡ None
  no_address x zero = refl
  no_address x (suc i) = by_kept (kept_in b (activation_of s b).dummies x i (index_among x (dummies_of (unit_at program (unit_of s b))))) where
    by_kept : (c : Option (FramePart × ℕ)) → address_of_kept program s layout b c ≡ None
    by_kept None = refl
    by_kept (Some c) = ap (λ f. cell_in f (place_of_part (unit_at program (unit_of s b)) c.0 c.1)) frameless

  -- each storage unit that has an address is kept there
  abbrev Kept : Store → Type 0
  Kept store = (at : Location) (p : ℕ) → address program s layout at ≡ Some p → slice_get contents p ≡ Some (store at)

  one_kept : (store : Store) (x : Name) (y : Actual) → Kept store → Kept (with_actual store b x y)
  one_kept store x (referred r) h = h
  one_kept store x (evaluated v) h = λ at p e. h at p e ∙ ap (λ c. Some c) (sym (by_test at p e (same_location at (local b x 1)) refl)) where
    by_test : (at : Location) (p : ℕ) → address program s layout at ≡ Some p → (t : Bool) → same_location at (local b x 1) ≡ t → with_value store (local b x 1) (Some v) at ≡ store at
    by_test at p e true i =
        let none : address program s layout at ≡ None = ap (address program s layout) (equal_locations at (local b x 1) i) ∙ no_address x 1 in
        absurd cc
    by_test at p e false i = ap (λ t. if t then record { value = Some v; full = (store (local b x 1)).full } else store at) i

  all_kept : (xs : List Name) (ys : List Actual) (store : Store) → Kept store → Kept (with_actuals store b xs ys)
  all_kept [] ys store h = h
  all_kept (x ∷ xs) [] store h = h
  all_kept (x ∷ xs) (y ∷ ys) store h = all_kept xs ys (with_actual store b x y) (one_kept store x y h)

  -- the value of an expression stays while those of others are stored
  one_other : (store : Store) (x z : Name) (y : Actual) → (z ≡ x → ⊥) → with_actual store b z y (local b x 1) ≡ store (local b x 1)
  one_other store x z (referred r) other = refl
  one_other store x z (evaluated v) other = by_test (same_location (local b x 1) (local b z 1)) refl where
    by_test : (t : Bool) → same_location (local b x 1) (local b z 1) ≡ t → with_value store (local b z 1) (Some v) (local b x 1) ≡ store (local b x 1)
    by_test true i = absurd (other (sym (ap (name_in x) (equal_locations (local b x 1) (local b z 1) i))))
    by_test false i = ap (λ t. if t then record { value = Some v; full = (store (local b z 1)).full } else store (local b x 1)) i

  all_others : (x : Name) (zs : List Name) (ys : List Actual) (store : Store) → ((j : ℕ) → slice_get zs j ≡ Some x → ⊥) → with_actuals store b zs ys (local b x 1) ≡ store (local b x 1)
  all_others x [] ys store other = refl
  all_others x (z ∷ zs) [] store other = refl
  all_others x (z ∷ zs) (y ∷ ys) store other =
      all_others x zs ys (with_actual store b z y) (λ j. other (suc j)) ∙ one_other store x z y (λ same. other 0 (ap (λ n. Some n) same))

  -- ---- what is given has what is stored in each dummy argument

  first_stored : (x : Name) (xs : List Name) (y : Actual) (ys : List Actual) (g : DummyStorage) (d : Dummy) (store : Store) → Kept store → ((j : ℕ) → slice_get xs j ≡ Some x → ⊥) → IsGiven program s layout b x y g d
      → (with_actuals store b (x ∷ xs) (y ∷ ys) d.start).value ≡ stored_by contents (Some g)
  first_stored x xs (evaluated v) ys (giving.Value w) d store kept other h =
      let new = with_value store (local b x 1) (Some v) in
      ap (λ (d : Dummy). (with_actuals new b xs ys d.start).value) h.1
      ∙ (ap (λ (c : Slot). c.value) (all_others x xs ys new other)
      ∙ (ap (λ t. (if t then record { value = Some v; full = (store (local b x 1)).full } else store (local b x 1)).value) (location-self (local b x 1))
      ∙ ap (λ u. Some u) (sym h.0)))
  first_stored x xs (referred r) ys (giving.Units first count) d store kept other h =
      sym (ap (λ o. (unwrap_or o unset_cell).value) (all_kept xs ys store kept d.start first (begins_at program s layout d first count h)))
  first_stored x xs (evaluated v) ys (giving.Units first count) d store kept other h = absurd h
  first_stored x xs (referred r) ys (giving.Value w) d store kept other h = absurd h

  all_stored : (xs : List Name) (ys : List Actual) (gs : List DummyStorage) (ds : List Dummy) (store : Store) → Kept store → IsNamedOnce xs → AreGiven program s layout b xs ys gs ds → (k : ℕ) → k < length xs
      → (with_actuals store b xs ys (dummy_at ds k).start).value ≡ stored_for contents gs k
  all_stored (x ∷ xs) (y ∷ ys) (g ∷ gs) (d ∷ ds) store kept once h zero less =
      first_stored x xs y ys g d store kept (λ j e. let same : 0 ≡ suc j = once 0 (suc j) x refl e in absurd cc) h.0
  all_stored (x ∷ xs) (y ∷ ys) (g ∷ gs) (d ∷ ds) store kept once h (suc k) less =
      all_stored xs ys gs ds (with_actual store b x y) (one_kept store x y kept) (λ i j z e f. let same : suc i ≡ suc j = once (suc i) (suc j) z e f in omega (arith, same)) h.1 k (omega (arith, less))
  all_stored [] ys gs ds store kept once h k less = absurd (omega (arith, less))
  all_stored (x ∷ xs) [] gs ds store kept once h k less = absurd h
  all_stored (x ∷ xs) (y ∷ ys) [] ds store kept once h k less = absurd h
  all_stored (x ∷ xs) (y ∷ ys) (g ∷ gs) [] store kept once h k less = absurd h

  pub are_stored : (scope : Scope) (actuals : List Actual) (given : List DummyStorage) (cell : Name → ℕ) → Holds program s layout contents → IsNamedOnce (dummies_of scope.unit)
      → AreGiven program s layout b (dummies_of scope.unit) actuals given scope.dummies → ((x : Name) → is_common scope.unit x ≡ true → address program s layout (own_storage scope x).start ≡ Some (cell x))
      → AreStored scope (with_actuals s.store b (dummies_of scope.unit) actuals) cell (stored_in contents) (stored_for contents given)
  are_stored scope actuals given cell holds once given_so addressed =
      record {
        in_common = λ x is. sym (ap (λ o. (unwrap_or o unset_cell).value) (all_kept (dummies_of scope.unit) actuals s.store holds (own_storage scope x).start (cell x) (addressed x is)));
        in_dummies = λ x k is. all_stored (dummies_of scope.unit) actuals given scope.dummies s.store holds once given_so k (index-below (same_name x) (dummies_of scope.unit) k is);
      }

-- ---- what is given can be read

module _ (program : Units) (s : State) (layout : Layout) (contents : List Slot) (holes : List Hole) (memory : IsMemory program s layout contents holes) where
  abbrev space : Space
  space = record { contents = contents; holes = holes }

  cell_is : (at : Location) (p : ℕ) → address program s layout at ≡ Some p → IsCell space p
  cell_is at p h = let out = address-out program s (length contents) layout at p memory.laid h in (out.0, subst (IsOut p) (sym memory.holes_are) out.1)

  given_readable : (b : ℕ) (xs : List Name) (ys : List Actual) (gs : List DummyStorage) (ds : List Dummy) → AreGiven program s layout b xs ys gs ds → (k : ℕ) → IsFirstCell space (slice_get gs k)
  given_readable b xs ys [] ds h k = tt
  given_readable b (x ∷ xs) (y ∷ ys) (giving.Value v ∷ gs) (d ∷ ds) h zero = tt
  given_readable b (x ∷ xs) (evaluated v ∷ ys) (giving.Units first count ∷ gs) (d ∷ ds) h zero = absurd h.0
  given_readable b (x ∷ xs) (referred r ∷ ys) (giving.Units first count ∷ gs) (d ∷ ds) h zero = cell_is d.start first (begins_at program s layout d first count h.0)
  given_readable b (x ∷ xs) (y ∷ ys) (g ∷ gs) (d ∷ ds) h (suc k) = given_readable b xs ys gs ds h.1 k
  given_readable b [] [] (g ∷ gs) ds h k = absurd h
  given_readable b [] (y ∷ ys) (g ∷ gs) ds h k = absurd h
  given_readable b (x ∷ xs) [] (g ∷ gs) ds h k = absurd h
  given_readable b (x ∷ xs) (y ∷ ys) (g ∷ gs) [] h k = absurd h

  source_readable : (given : List DummyStorage) (scope : Scope) (x : Name) (v : Option Constant) (k : Option ℕ) (c : Bool) (p : ℕ) → ((i : ℕ) → IsFirstCell space (slice_get given i)) → is_common scope.unit x ≡ c
      → (is_common scope.unit x ≡ true → address program s layout (own_storage scope x).start ≡ Some p) → IsReadable space given (source_by v k c p)
  source_readable given scope x (Some v) k c p firsts is addressed = tt
  source_readable given scope x None (Some k) c p firsts is addressed = firsts k
  source_readable given scope x None None true p firsts is addressed = cell_is (own_storage scope x).start p (addressed is)
  source_readable given scope x None None false p firsts is addressed = tt

  pub call_readable : (b : ℕ) (scope : Scope) (actuals : List Actual) (given : List DummyStorage) (cell : Name → ℕ) → AreGiven program s layout b (dummies_of scope.unit) actuals given scope.dummies
      → ((x : Name) → is_common scope.unit x ≡ true → address program s layout (own_storage scope x).start ≡ Some (cell x)) → (x : Name) → AreReadable space given (adjustable_code scope.unit cell x)
  call_readable b scope actuals given cell given_so addressed x =
      let firsts : (i : ℕ) → IsFirstCell space (slice_get given i) = given_readable b (dummies_of scope.unit) actuals given scope.dummies given_so in
      dimensions_readable space given scope.unit (source_of scope.unit cell)
      (λ y. source_readable given scope y (constant_value scope.unit y) (index_among y (dummies_of scope.unit)) (is_common scope.unit y) (cell y) firsts refl (addressed y))
      (dimensions_of scope.unit x)
