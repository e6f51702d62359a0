-- The place of a storage unit tells it, and stays.
use Rattle.std.proofs.Common.{◌≡◌, inl, inr, ℕ, zero, suc, ◌≤◌, Bool, true, false, ◌&&◌, nat_eq, List, [], ◌∷◌, ◌++◌, length, slice_get}
use Rattle.std.proofs.Common.{refl, sym, ap, ◌∙◌, subst, arith, if◌then◌else◌}
use Rattle.std.proofs.lemmas.Bool.{and_from, and_parts, eq-eqb, eqb-true, false≢true}
use Rattle.std.proofs.lemmas.List.{length-append}
use Rattle.std.proofs.lemmas.Option.{same_Some}
use Rattle.std.specs.Option.{unwrap_or}
use Rattle.hep_image.specs.Names.{block_index, variable_index, variable_number}
use Rattle.hep_image.proofs.Numbers.{block-at, variable-at}
use Rattle.hep_layout.proofs.Memory.{location-self}
use Rattle.hep_machine.specs.Laws.{IsSameOrOneMore}
use Rattle.hep_machine.specs.Words.{Activation, Location, Name, State, Units, blocks_of, common, is_among, is_array, local, names_of}
use Rattle.hep_machine.specs.Words.{numbered, same_location, unit_at, unit_of}
use Rattle.hep_machine.specs.Defaults.{no_activation}
use Rattle.hep_machine.proofs.Locations.{equal_locations}
use Rattle.hep_views.specs.ListedProcesses.{place_of, variable_place}
use Rattle.hep_views.specs.declared.place.Place.{Place}
use Rattle.hep_races.specs.StoragePlaces.{IsThere, same_place}

-- ---- a place is equal to itself

-- by its test
place-itself : (v : Place) → same_place v v ≡ true
place-itself v =
    and_from (nat_eq v.owner v.owner) (nat_eq v.name v.name && nat_eq v.element v.element) (eq-eqb v.owner v.owner refl) (
    and_from (nat_eq v.name v.name) (nat_eq v.element v.element) (eq-eqb v.name v.name refl) (eq-eqb v.element v.element refl))

-- ---- what a place tells

-- its parts
parts : (v w : Place) → same_place v w ≡ true → (v.owner ≡ w.owner) × (v.name ≡ w.name) × (v.element ≡ w.element)
parts v w e =
    let outer = and_parts (nat_eq v.owner w.owner) (nat_eq v.name w.name && nat_eq v.element w.element) e in
    let inner = and_parts (nat_eq v.name w.name) (nat_eq v.element w.element) outer.1 in
    (eqb-true v.owner w.owner outer.0, eqb-true v.name w.name inner.0, eqb-true v.element w.element inner.1)

-- the name of a variable
name-told : (program : Units) (u : ℕ) (x y : Name) → is_among x (names_of (unit_at program u)) ≡ true
    → is_among y (names_of (unit_at program u)) ≡ true
    → variable_number program u x ≡ variable_number program u y → x ≡ y
name-told program u x y h g e =
    let unit = unit_at program u in
    let index : variable_index unit x ≡ variable_index unit y = omega (arith, e) in
    same_Some x y (sym (variable-at unit x h) ∙ ap (slice_get (names_of unit)) index ∙ variable-at unit y g)

-- the element of a variable
element-told : (array : Bool) (i j : ℕ) → (array ≡ false → i ≡ 1) → (array ≡ false → j ≡ 1) → (if array then i else 0)
    ≡ (if array then j else 0) → i ≡ j
element-told true i j h g e = e
element-told false i j h g e = h refl ∙ sym (g refl)

module _ (program : Units) (s : State) where
  locals-told : (a : ℕ) (x y : Name) (i j : ℕ) → IsThere program s (local a x i) → IsThere program s (local a y j)
      → variable_number program (unit_of s a) x ≡ variable_number program (unit_of s a) y
      → (if is_array (unit_at program (unit_of s a)) x then i else 0) ≡ (if is_array (unit_at program (unit_of s a)) y then j else 0)
      → local a x i ≡ local a y j
  locals-told a x y i j h g name element =
      let unit = unit_at program (unit_of s a) in
      let same : x ≡ y = name-told program (unit_of s a) x y h.2 g.2 name in
      let own = subst (λ z. (is_array unit z ≡ false → j ≡ 1)) (sym same) g.3 in
      let index : i ≡ j = element-told (is_array unit x) i j h.3 own (element ∙ ap (λ z. if is_array unit z then j else 0) (sym same)) in
      λ k. local a (same k) (index k)

  pub location-told : (l m : Location) → IsThere program s l → IsThere program s m
      → same_place (place_of program s l) (place_of program s m) ≡ true → l ≡ m
  location-told (local a x i) (local b y j) h g e =
      let p = parts (place_of program s (local a x i)) (place_of program s (local b y j)) e in
      by b p.0 g p.1 p.2
    where
      by : (c : ℕ) → a ≡ c → IsThere program s (local c y j) → variable_number program (unit_of s a) x
          ≡ variable_number program (unit_of s c) y
          → (if is_array (unit_at program (unit_of s a)) x then i else 0) ≡ (if is_array (unit_at program (unit_of s c)) y then j else 0)
          → local a x i ≡ local c y j
      by c same g name element =
          subst (λ d. IsThere program s (local d y j) → variable_number program (unit_of s a) x ≡ variable_number program (unit_of s d) y
          → (if is_array (unit_at program (unit_of s a)) x then i else 0) ≡ (if is_array (unit_at program (unit_of s d)) y then j else 0)
          → local a x i ≡ local d y j) same (locals-told a x y i j h) g name element
  location-told (local a x i) (common c j) h g e =
      let p = parts (place_of program s (local a x i)) (place_of program s (common c j)) e in
      absurd (omega (arith, h.0, p.0))
  location-told (common b i) (local a x j) h g e =
      let p = parts (place_of program s (common b i)) (place_of program s (local a x j)) e in
      absurd (omega (arith, g.0, p.0))
  location-told (common b i) (common c j) h g e =
      let p = parts (place_of program s (common b i)) (place_of program s (common c j)) e in
      let index : block_index program b ≡ block_index program c = omega (arith, p.1) in
      let same : b ≡ c = same_Some b c (sym (block-at program b h) ∙ ap (slice_get (blocks_of program)) index ∙ block-at program c g) in
      λ k. common (same k) (p.2 k)

  -- the test of places is that of locations
  pub places-told : (l m : Location) → IsThere program s l → IsThere program s m
      → same_place (place_of program s l) (place_of program s m) ≡ same_location l m
  places-told l m h g = by (same_place (place_of program s l) (place_of program s m)) (same_location l m) refl refl
    where
      by : (b c : Bool) → same_place (place_of program s l) (place_of program s m) ≡ b → same_location l m ≡ c → b ≡ c
      by true true e f = refl
      by false false e f = refl
      by true false e f =
          let same = location-told l m h g e in
          absurd (false≢true (sym f ∙ ap (λ z. same_location l z) (sym same) ∙ location-self l))
      by false true e f =
          let same = equal_locations l m f in
          absurd (false≢true (sym e ∙ ap (λ z. same_place (place_of program s l) (place_of program s z)) (sym same)
          ∙ place-itself (place_of program s l)))

-- ---- later states

-- activations keep their units
unit-kept : (xs ys : List Activation) (a : ℕ) → IsSameOrOneMore xs ys → 1 ≤ a → a ≤ length xs
    → unwrap_or (numbered ys a) no_activation ≡ unwrap_or (numbered xs a) no_activation
unit-kept xs ys zero more some few = absurd (omega (arith, some))
unit-kept xs ys (suc k) (inl same) some few = ap (λ zs. unwrap_or (slice_get zs k) no_activation) same
unit-kept xs ys (suc k) (inr more) some few =
    ap (λ zs. unwrap_or (slice_get zs k) no_activation) more.1 ∙ ap (λ o. unwrap_or o no_activation) (front xs k few)
  where
    front : (zs : List Activation) (k : ℕ) → suc k ≤ length zs → slice_get (zs ++ more.0 ∷ []) k ≡ slice_get zs k
    front [] k less = absurd (omega (arith, less))
    front (z ∷ zs) zero less = refl
    front (z ∷ zs) (suc k) less = front zs k (omega (arith, less))

-- none is taken away
longer : (xs ys : List Activation) → IsSameOrOneMore xs ys → length xs ≤ length ys
longer xs ys (inl same) = omega (arith, ap length same)
longer xs ys (inr more) = omega (arith, ap length more.1, length-append xs (more.0 ∷ []))

module _ (program : Units) (s t : State) (more : IsSameOrOneMore s.activations t.activations) where
  same-unit : (a : ℕ) → 1 ≤ a → a ≤ length s.activations → unit_of t a ≡ unit_of s a
  same-unit a some few = ap (λ (x : Activation). x.unit) (unit-kept s.activations t.activations a more some few)

  pub there-kept : (l : Location) → IsThere program s l → IsThere program t l
  there-kept (local a x i) h =
      let unit = sym (same-unit a h.0 h.1) in (
        h.0,
        omega (arith, h.1, longer s.activations t.activations more),
        subst (λ u. is_among x (names_of (unit_at program u)) ≡ true) unit h.2,
        subst (λ u. (is_array (unit_at program u) x ≡ false → i ≡ 1)) unit h.3,
        h.4,
      )
  there-kept (common b i) h = h

  pub place-kept : (l : Location) → IsThere program s l → place_of program t l ≡ place_of program s l
  place-kept (local a x i) h = ap (λ u. variable_place program u x i a) (same-unit a h.0 h.1)
  place-kept (common b i) h = refl
