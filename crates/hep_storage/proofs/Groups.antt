-- Lists of names and of values in DATA, in runs by their types.
use Rattle.std.proofs.Common.{◌≡◌, ◌+◌, Bool, not, ◌&&◌, ◌||◌, nat_eq, List, [], ◌∷◌, ◌++◌, map, length, Option, Some, None, is_some, append_assoc, refl, ap, sym, ◌∙◌, ◌<◌, ℕ, take, get_or, subst, arith}
use Rattle.std.proofs.lemmas.List.{length-map, take_more}
use Rattle.std.specs.Option.{option_map}
use Rattle.std.specs.List.{list_any}
use Rattle.hep_machine.specs.Words.{DataValue, Name, Statement, Value, Constants, value_among, Repeated, values_given, Stretch, elements_named, Target, DataGroup}
use Rattle.hep_conditions.specs.Words.{has_type, known_values, name_repeated, known_targets, is_target_outside, is_forbidden, is_value, is_wrong_group, known_before, Known, count_of_items, same_length, holds_at_each_place}
use Rattle.hep_storage.specs.RunItems.{repeat_before, spread, agree_as_far}
use Rattle.hep_storage.specs.Runs.{alike, positions_in}
use Rattle.hep_storage.specs.DataGroups.{position_of_name, position_of_value, run_of_values, run_given}
use Rattle.hep_storage.specs.DataNames.{places_before, places_of, are_known, NamedAll, is_outside_named, run_named}
use Rattle.hep_storage.specs.declared.runs.Position.{Position}
use Rattle.hep_storage.specs.declared.runs.PositionRun.{PositionRun}
use Rattle.hep_storage.proofs.CommonPrefixes.{length-repeat, map-repeat, repeat-append, positions-append}
use Rattle.hep_storage.proofs.Places.{at_each_place}
use Rattle.hep_storage.specs.ArrayShapes.{Names}
use Rattle.hep_storage.specs.declared.initialized_elements.DataElements.TheVariants.{One, All}
use Rattle.hep_storage.specs.declared.array_shapes.DataName.{DataName}
use Rattle.hep_storage.specs.declared.array_shapes.DataName.TheVariants.{Open, Outside, Elements}
use Rattle.hep_source.proofs.Tests.{any-or}

count-spread : {A : Type 0} (xs : List (Repeated A)) → count_of_items xs ≡ length (spread xs)
count-spread [] = refl
count-spread (x ∷ xs) = ap (λ n. x.count + n) (count-spread xs) ∙ sym (length-repeat x.count x.item (spread xs))

-- ---- the places of two lists, by what is asked of their items

agree-mapped : {A B C D : Type 0} (test : C → D → Bool) (f : A → C) (g : B → D) (xs : List A) (ys : List B)
    → agree_as_far test (map f xs) (map g ys) ≡ agree_as_far (λ x y. test (f x) (g y)) xs ys
agree-mapped test f g [] ys = refl
agree-mapped test f g (x ∷ xs) [] = refl
agree-mapped test f g (x ∷ xs) (y ∷ ys) = ap (λ b. test (f x) (g y) && b) (agree-mapped test f g xs ys)

pub types-agree : (unit : List Statement) (xs : List (Repeated Name)) (vs : List (Repeated Value)) (ps qs : List Position)
    → ps ≡ map (position_of_name unit) (spread xs) → qs ≡ map position_of_value (spread vs)
    → agree_as_far alike ps qs ≡ holds_at_each_place (has_type unit) xs vs
types-agree unit xs vs ps qs h k =
    rw (h, k) (agree-mapped alike (position_of_name unit) position_of_value (spread xs) (spread vs) ∙ sym (at_each_place (has_type unit) xs vs))

pub lengths-agree : (unit : List Statement) (xs : Known Name) (vs : Known Value) (ps qs : List Position) (p q : Bool)
    → ps ≡ map (position_of_name unit) (spread xs.items) → qs ≡ map position_of_value (spread vs.items) → p ≡ xs.whole → q ≡ vs.whole
    → (not (p && q) || nat_eq (length ps) (length qs)) ≡ same_length xs vs
lengths-agree unit xs vs ps qs p q h k e f i =
    not (e i && f i) || nat_eq ((ap length h ∙ (length-map (spread xs.items) (position_of_name unit) ∙ sym (count-spread xs.items))) i) ((ap length k ∙ (length-map (spread vs.items) position_of_value ∙ sym (count-spread vs.items))) i)

-- ---- runs up to the first that isn't known

-- one run more
pub known-turn : (os more : List (Option PositionRun)) (o : Option PositionRun) (rs qs : List PositionRun) (r : PositionRun) (all : List Position) (whole : Bool) → os ≡ o ∷ more
    → (positions_in rs ++ places_of os ≡ all) × (are_known os ≡ whole) → o ≡ Some r → qs ≡ rs ++ r ∷ []
    → (positions_in qs ++ places_of more ≡ all) × (are_known more ≡ whole)
known-turn os more o rs qs r all whole next h f g = (
  ap (λ ps. positions_in ps ++ places_of more) g
      ∙ (ap (λ ps. ps ++ places_of more) (positions-append rs (r ∷ []))
      ∙ (append_assoc (positions_in rs) (repeat_before r.count r.position []) (places_of more)
      ∙ (ap (λ ps. positions_in rs ++ ps) (sym (repeat-append r.count r.position (places_of more)))
      ∙ (ap (λ w. positions_in rs ++ places_before w (places_of more)) (sym f) ∙ (ap (λ ms. positions_in rs ++ places_of ms) (sym next) ∙ h.0))))),
  ap (λ w. is_some w && are_known more) (sym f) ∙ (ap are_known (sym next) ∙ h.1),
)

-- what is known of values
pub values-known : (known : Constants) (vs : List DataValue)
    → (places_of (map (run_given known) vs) ≡ map position_of_value (spread (known_values known vs).items)) × (are_known (map (run_given known) vs) ≡ (known_values known vs).whole)
values-known known [] = (refl, refl)
values-known known (v ∷ vs) = by (values_given (value_among known) v) (values-known known vs)
  where
    by : (o : Option (Repeated Value)) → (places_of (map (run_given known) vs) ≡ map position_of_value (spread (known_values known vs).items)) × (are_known (map (run_given known) vs) ≡ (known_values known vs).whole)
        → (places_before (run_of_values o) (places_of (map (run_given known) vs)) ≡ map position_of_value (spread (known_before o (known_values known vs)).items))
        × ((is_some (run_of_values o) && are_known (map (run_given known) vs)) ≡ (known_before o (known_values known vs)).whole)
    by None h = (refl, refl)
    by (Some x) h = (ap (repeat_before x.count (position_of_value x.item)) h.0 ∙ sym (map-repeat position_of_value x.count x.item (spread (known_values known vs).items)), h.1)

module _ (unit : List Statement) (known : Constants) where
  named-last : (ts : List Target) (ns : List DataName) (t : Target) (n : DataName) → NamedAll unit known ts ns → Names unit known t n → NamedAll unit known (ts ++ t ∷ []) (ns ++ n ∷ [])
  named-last [] [] t n h k = (k, tt)
  named-last [] (m ∷ ms) t n h k = absurd h
  named-last (u ∷ us) [] t n h k = absurd h
  named-last (u ∷ us) (m ∷ ms) t n h k = (h.0, named-last us ms t n h.1 k)

  pub named-turn : (ts : List Target) (i : ℕ) (t : Target) (ns ms : List DataName) (n : DataName) → i < length ts → t ≡ get_or ts i t → NamedAll unit known (take i ts) ns → Names unit known t n
      → ms ≡ ns ++ n ∷ [] → NamedAll unit known (take (i + 1) ts) ms
  named-turn ts i t ns ms n lt at h k e =
      subst (λ us. NamedAll unit known us ms) (sym (take_more ts i t lt ∙ ap (λ u. take i ts ++ u ∷ []) (sym at)))
      (subst (λ os. NamedAll unit known (take i ts ++ t ∷ []) os) (sym e) (named-last (take i ts) ns t n h k))

  -- the run of what a name stands for
  Ahead : Option PositionRun → Option (Repeated Name) → Type 0
  Ahead r o = (ps : List Position) (after : Known Name) → ps ≡ map (position_of_name unit) (spread after.items)
      → (places_before r ps ≡ map (position_of_name unit) (spread (known_before o after).items)) × ((is_some r && after.whole) ≡ (known_before o after).whole)

  no-run : Ahead None None
  unfolding Ahead
  no-run ps after h = (refl, refl)

  one-run : (x : Name) (c : ℕ) (e : Stretch) → e.name ≡ x → e.count ≡ c → Ahead (Some (record { position = position_of_name unit x; count = c })) (Some (name_repeated e))
  unfolding Ahead
  one-run x c e named counted ps after h = (
    ap (repeat_before c (position_of_name unit x)) h
        ∙ (ap (λ k. repeat_before k (position_of_name unit x) (map (position_of_name unit) (spread after.items))) (sym counted)
        ∙ (ap (λ y. repeat_before e.count (position_of_name unit y) (map (position_of_name unit) (spread after.items))) (sym named)
        ∙ sym (map-repeat (position_of_name unit) e.count e.name (spread after.items)))),
    refl,
  )

  named-run : (t : Target) (n : DataName) → Names unit known t n → Ahead (run_named unit n) (option_map name_repeated (elements_named unit (value_among known) t))
  named-run t Open h = subst (λ o. Ahead None (option_map name_repeated o)) (sym h.1) no-run
  named-run t Outside h = subst (λ o. Ahead None (option_map name_repeated o)) (sym h.1) no-run
  named-run t (Elements (One f)) h =
      let e = h.1.0 in
      subst (λ o. Ahead (Some (record { position = position_of_name unit f.name; count = 1 })) (option_map name_repeated o)) (sym h.1.1) (one-run f.name 1 e h.1.2.0 h.1.2.1)
  named-run t (Elements (All x c)) h =
      let e = h.1.0 in
      subst (λ o. Ahead (Some (record { position = position_of_name unit x; count = c })) (option_map name_repeated o)) (sym h.1.1) (one-run x c e h.1.2.0 h.1.2.1)

  -- what is known of the names is what is known of what they stand for
  pub places-known : (ts : List Target) (ns : List DataName) → NamedAll unit known ts ns
      → (places_of (map (run_named unit) ns) ≡ map (position_of_name unit) (spread (known_targets unit known ts).items)) × (are_known (map (run_named unit) ns) ≡ (known_targets unit known ts).whole)
  unfolding Ahead
  places-known [] [] h = (refl, refl)
  places-known [] (n ∷ ns) h = absurd h
  places-known (t ∷ ts) [] h = absurd h
  places-known (t ∷ ts) (n ∷ ns) h =
      let more = places-known ts ns h.1 in
      let here = named-run t n h.0 (places_of (map (run_named unit) ns)) (known_targets unit known ts) more.0 in
      (here.0, ap (λ b. is_some (run_named unit n) && b) more.1 ∙ here.1)

  -- an element is outside its bounds
  outside-one : (t : Target) (n : DataName) → Names unit known t n → is_outside_named n ≡ is_target_outside unit known t
  outside-one t Open h = sym h.0
  outside-one t Outside h = sym h.0
  outside-one t (Elements s) h = sym h.0

  pub outside-all : (ts : List Target) (ns : List DataName) → NamedAll unit known ts ns → list_any is_outside_named ns ≡ list_any (is_target_outside unit known) ts
  outside-all [] [] h = refl
  outside-all [] (n ∷ ns) h = absurd h
  outside-all (t ∷ ts) [] h = absurd h
  outside-all (t ∷ ts) (n ∷ ns) h = λ i. outside-one t n h.0 i || outside-all ts ns h.1 i

-- ---- a group

pub wrong-group : (unit : List Statement) (known : Constants) (g : DataGroup) (ts : List Target) (vs : List DataValue) (ns : List DataName) (ps qs : List Position) (p q refused none fits all : Bool)
    → ts ≡ g.targets → vs ≡ g.values → NamedAll unit known ts ns → ps ≡ places_of (map (run_named unit) ns) → p ≡ are_known (map (run_named unit) ns)
    → qs ≡ places_of (map (run_given known) vs) → q ≡ are_known (map (run_given known) vs)
    → refused ≡ (list_any (λ (t : Target). is_forbidden unit t.occurrence.name) ts || list_any is_outside_named ns) → none ≡ list_any (λ (v : DataValue). not (is_value known v)) vs
    → fits ≡ ((not (p && q) || nat_eq (length ps) (length qs)) && agree_as_far alike ps qs) → all ≡ (refused || (none || not fits)) → all ≡ is_wrong_group unit known g
wrong-group unit known g ts vs ns ps qs p q refused none fits all et ev named ep ew eq eo er en ef ea =
    let places = places-known unit known ts ns named in
    let values = values-known known vs in
    let one = lengths-agree unit (known_targets unit known ts) (known_values known vs) ps qs p q (ep ∙ places.0) (eq ∙ values.0) (ew ∙ places.1) (eo ∙ values.1) in
    let two = types-agree unit (known_targets unit known ts).items (known_values known vs).items ps qs (ep ∙ places.0) (eq ∙ values.0) in
    let refused_by = any-or (λ (t : Target). is_forbidden unit t.occurrence.name) (is_target_outside unit known) ts in
    rw (sym et, sym ev, refused_by, sym (outside-all unit known ts ns named), ea, er, en, ef, sym one, sym two) (grind arith)
