-- Arrays of accepted programs whose bounds are constant have shapes.
use Rattle.std.proofs.Common.{◌≡◌, ◌⊎◌, ℤ, inl, inr, ℕ, zero, Bool, true, false, List, [], ◌∷◌, Option, Some, None, refl, sym, ap, ◌∙◌, subst, true≢false, slice_get, if◌then◌else◌, is_none, is_some, not, ◌&&◌, ◌||◌, option_to_list, take, drop}
use Rattle.std.specs.List.{flat_map, list_all, list_any}
use Rattle.std.specs.Option.{option_map}
use Rattle.std.proofs.lemmas.Bool.{and_parts}
use Rattle.std.proofs.lemmas.Option.{none-some}
use Rattle.hep_machine.specs.Words.{Tree, Declarator, Dimension, UpperBound, Integer, Name, Occurrence, Statement, Value, Units, integer_of, Values, adjustable_dimensions, bound_before, bound_of, bounds_of, constant_shape, constant_value, is_constant, is_constant_dimension, is_constant_lower, is_constant_upper, upper_value, value_among, value_of, declarators_in, is_array, is_common, is_dummy, is_nonempty, Bounds, is_shape, occurrences_in}
use Rattle.hep_source.specs.declared.declaration.UpperBound.TheVariants as bound
use Rattle.hep_machine.specs.declared.shape.Bound.{Bound}
use Rattle.hep_conditions.specs.Words.{IsAccepted, Parameters, are_bounds_open, has_bounds, has_value, is_adjustable, is_adjusted, is_adjusting, is_bound, is_dimension, is_open, is_shape_if_known, is_upper_bound, names_with_lists_in, trees_in_declarator, trees_in_dimension, trees_in_upper, is_plain_integer_scalar, is_typed_as, no_functions}
use Rattle.hep_accepted_laws.proofs.StatementForms.{parameters_at, typed_statement}
use Rattle.hep_accepted_laws.proofs.NameMeanings.{array_declarator}
use Rattle.hep_accepted_laws.proofs.Members.{Has, all_has, flat_has, has_behind, has_either, has_flat, has_front, has_more, has_one}
use Rattle.hep_accepted_laws.proofs.Shaped.{IsValued, extends_at, same_value, shut, take_drop, lower_bound, none_open, shape_known}
use Rattle.hep_accepted_laws.proofs.Valued.{ConstantsAgree, valued}
use Rattle.hep_accepted_laws.proofs.AcceptedFacts.{plain_no_constant}
use Rattle.hep_accepted_laws.proofs.CodedValues.{names_valued, no_value_of_others}
use Rattle.hep_source.proofs.Tests.{some_of}
use Rattle.hep_image.proofs.ArrayExtents.{AreMore, none-adjustable}

-- ---- a bound that has a value by all constants has it where it is written

any_has : {A : Type 0} (test : A → Bool) (xs : List A) → list_any test xs ≡ true → (x : A) × Has xs x × (test x ≡ true)
any_has test [] e = absurd (true≢false (sym e))
any_has test (x ∷ xs) e = by_test (test x) refl e (any_has test xs) where
  by_test : (b : Bool) → test x ≡ b → (b || list_any test xs) ≡ true → (list_any test xs ≡ true → (y : _) × Has xs y × (test y ≡ true)) → (y : _) × Has (x ∷ xs) y × (test y ≡ true)
  by_test true f g more = (x, (zero, refl), f)
  by_test false f g more = let found = more g in (found.0, has_more x xs found.0 found.1, found.2)

-- a bound by which an array is adjusted has no value
never_adjusted : (unit : List Statement) (ps : Parameters) (t : Tree) (v : Value) → (is_adjusted unit ps.known t && is_adjustable unit ps.known t) ≡ true → value_of unit (constant_value unit) t ≡ Some v → ⊥
never_adjusted unit ps t v e f =
    let parts = and_parts (is_adjusted unit ps.known t) (is_adjustable unit ps.known t) e in
    let p = any_has (λ (q : Occurrence). is_none (value_among ps.known q.name)) (occurrences_in unit t) parts.0 in
    let each = (and_parts (list_all (λ (q : Occurrence). is_some (value_among ps.known q.name) || is_adjusting unit q.name) (occurrences_in unit t)) (not (is_nonempty (names_with_lists_in t))) parts.1).0 in
    let adjusts = adjusting (value_among ps.known p.0.name) (is_adjusting unit p.0.name) p.2 (all_has (λ (q : Occurrence). is_some (value_among ps.known q.name) || is_adjusting unit q.name) (occurrences_in unit t) p.0 each p.1) in
    let plain = (and_parts (is_plain_integer_scalar unit p.0.name) (is_dummy unit p.0.name || is_common unit p.0.name) adjusts).0 in
    true≢false (sym (names_valued unit (constant_value unit) t v f p.0 p.1) ∙ ap is_some (no_value_of_others unit p.0.name (plain_no_constant unit p.0.name plain))) where
      adjusting : (o : Option Value) (b : Bool) → is_none o ≡ true → (is_some o || b) ≡ true → b ≡ true
      adjusting None b g h = h
      adjusting (Some w) b g h = absurd (true≢false (sym g))

bound_valued : (unit : List Statement) (ps : Parameters) (dummy : Bool) (t : Tree) → is_open unit ps t ≡ false → is_bound unit ps dummy t ≡ true → is_constant unit t ≡ true → IsValued unit (value_among ps.known) t
bound_valued unit ps dummy t closed e c =
    by_test (has_value unit ps t) dummy refl (and_parts (is_typed_as no_functions unit Integer t) (has_value unit ps t || (dummy && (is_adjusted unit ps.known t && is_adjustable unit ps.known t))) e).1 where
      by_test : (b d : Bool) → has_value unit ps t ≡ b → (b || (d && (is_adjusted unit ps.known t && is_adjustable unit ps.known t))) ≡ true → IsValued unit (value_among ps.known) t
      by_test true d f g = some_of (value_of unit (value_among ps.known) t) (valued unit ps t closed f)
      by_test false true f g = let v = some_of (value_of unit (constant_value unit) t) c in absurd (never_adjusted unit ps t v.0 g v.1)
      by_test false false f g = absurd (true≢false (sym g))

-- ---- bounds

abbrev Same : List Statement → Values → Values → List Dimension → Type 0
Same unit old new ds = (bs : Bounds) × (bounds_of unit old ds ≡ Some bs) × (bounds_of unit new ds ≡ Some bs)

upper_same : (unit : List Statement) (old new : Values) (b : UpperBound) → AreMore old new → ((t : Tree) → Has (trees_in_upper b) t → IsValued unit old t) → (o : Option ℤ) × (upper_value unit old b ≡ Some o) × (upper_value unit new b ≡ Some o)
upper_same unit old new bound.Open h each = (None, refl, refl)
upper_same unit old new (bound.Expression t) h each =
    let v = each t (0, refl) in
    (Some (integer_of v.0), ap (option_map (λ w. Some (integer_of w))) v.1, ap (option_map (λ w. Some (integer_of w))) (same_value unit old new t v.0 h v.1))

all_same : (unit : List Statement) (old new : Values) (ds : List Dimension) → AreMore old new → ((d : Dimension) (t : Tree) → Has ds d → Has (trees_in_dimension d) t → IsValued unit old t) → Same unit old new ds
all_same unit old new [] h each = ([], refl, refl)
all_same unit old new (d ∷ ds) h each =
    let l = lower_bound unit old new d.lower h (λ t g. each d t (0, refl) (has_front (option_to_list d.lower) (trees_in_upper d.upper) t g)) in
    let u = upper_same unit old new d.upper h (λ t g. each d t (0, refl) (has_behind (option_to_list d.lower) (trees_in_upper d.upper) t g)) in
    let more = all_same unit old new ds h (λ c t g. each c t (has_more d ds c g)) in
    let b : Bound = record { lower = l.0; upper = u.0 } in (
      b ∷ more.0,
      (λ i. bound_before (bound_of (l.1 i) (u.1 i)) (more.1 i)),
      (λ i. bound_before (bound_of (l.2 i) (u.2 i)) (more.2 i)),
    )

dimension_valued : (unit : List Statement) (ps : Parameters) (dummy : Bool) (d : Dimension) → ((t : Tree) → Has (trees_in_dimension d) t → is_open unit ps t ≡ false) → is_dimension unit ps dummy d ≡ true → is_constant_dimension unit d ≡ true → (t : Tree) → Has (trees_in_dimension d) t → IsValued unit (value_among ps.known) t
dimension_valued unit ps dummy d closed e c t h = by_place (has_either (option_to_list d.lower) (trees_in_upper d.upper) t h) where
  parts : (list_all (is_bound unit ps dummy) (option_to_list d.lower) ≡ true) × (is_upper_bound unit ps dummy d.upper ≡ true)
  parts = and_parts (list_all (is_bound unit ps dummy) (option_to_list d.lower)) (is_upper_bound unit ps dummy d.upper) e

  constants : (is_constant_lower unit d.lower ≡ true) × (is_constant_upper unit d.upper ≡ true)
  constants = and_parts (is_constant_lower unit d.lower) (is_constant_upper unit d.upper) c

  by_lower : (o : Option Tree) → is_constant_lower unit o ≡ true → Has (option_to_list o) t → is_constant unit t ≡ true
  by_lower None f g = absurd (none-some t g.1)
  by_lower (Some w) f g = subst (λ v. is_constant unit v ≡ true) (has_one w t g) f

  by_upper : (b : UpperBound) → is_constant_upper unit b ≡ true → is_upper_bound unit ps dummy b ≡ true → Has (trees_in_upper b) t → (is_constant unit t ≡ true) × (is_bound unit ps dummy t ≡ true)
  by_upper bound.Open f g i = absurd (none-some t i.1)
  by_upper (bound.Expression w) f g i =
      (subst (λ v. is_constant unit v ≡ true) (has_one w t i) f, subst (λ v. is_bound unit ps dummy v ≡ true) (has_one w t i) g)

  by_place : Has (option_to_list d.lower) t ⊎ Has (trees_in_upper d.upper) t → IsValued unit (value_among ps.known) t
  by_place (inl f) = bound_valued unit ps dummy t (closed t h) (all_has (is_bound unit ps dummy) (option_to_list d.lower) t parts.0 f) (by_lower d.lower constants.0 f)
  by_place (inr f) = let both = by_upper d.upper constants.1 parts.1 f in bound_valued unit ps dummy t (closed t h) both.1 both.0

-- ---- declarators

abbrev is_kept : List Statement → Parameters → Bool → Declarator → Bool
is_kept unit ps dummy d = list_all (is_dimension unit ps dummy) d.dimensions && (are_bounds_open unit ps d || is_shape_if_known (bounds_of unit (value_among ps.known) d.dimensions))

kept_by_list : (unit : List Statement) (ps : Parameters) (d : Declarator) → is_nonempty d.dimensions ≡ true → has_bounds unit ps d ≡ true → is_kept unit ps (is_dummy unit d.occurrence.name) d ≡ true
kept_by_list unit ps d e f = subst (λ b. (if b then is_kept unit ps (is_dummy unit d.occurrence.name) d else true) ≡ true) e f

declared : (program : Units) (u k : ℕ) (unit : List Statement) (s : Statement) (d : Declarator) → IsAccepted program → slice_get program u ≡ Some unit → slice_get unit k ≡ Some s → Has (declarators_in s.form) d → is_nonempty d.dimensions ≡ true → list_all (is_constant_dimension unit) d.dimensions ≡ true
    → (parameters_at unit k).doubtful ≡ [] → AreMore (value_among (parameters_at unit k).known) (constant_value unit)
    → (bs : Bounds) × (bounds_of unit (constant_value unit) d.dimensions ≡ Some bs) × (is_shape bs ≡ true)
declared program u k unit s d accepted iu ik hd listed constants doubtless extends =
    let closed : (t : Tree) → Has (trees_in_declarator d) t → is_open unit (parameters_at unit k) t ≡ false
    = λ t g. shut program u k unit s t accepted iu ik (has_behind s.conditions _ t (has_front (flat_map trees_in_declarator (declarators_in s.form)) _ t (has_flat trees_in_declarator (declarators_in s.form) d t hd g))) doubtless in
    let test = kept_by_list unit (parameters_at unit k) d listed (all_has (has_bounds unit (parameters_at unit k)) (declarators_in s.form) d (typed_statement program u k unit s accepted iu ik).bounds hd) in
    let parts = and_parts (list_all (is_dimension unit (parameters_at unit k) (is_dummy unit d.occurrence.name)) d.dimensions) (are_bounds_open unit (parameters_at unit k) d || is_shape_if_known (bounds_of unit (value_among (parameters_at unit k).known) d.dimensions)) test in
    let same = all_same unit (value_among (parameters_at unit k).known) (constant_value unit) d.dimensions extends (λ m t g w.
    dimension_valued unit (parameters_at unit k) (is_dummy unit d.occurrence.name) m (λ v i. closed v (has_flat trees_in_dimension d.dimensions m v g i))
    (all_has (is_dimension unit (parameters_at unit k) (is_dummy unit d.occurrence.name)) d.dimensions m parts.0 g)
    (all_has (is_constant_dimension unit) d.dimensions m constants g) t w) in
    let known = subst (λ b. (b || is_shape_if_known (bounds_of unit (value_among (parameters_at unit k).known) d.dimensions)) ≡ true) (none_open unit (parameters_at unit k) (trees_in_declarator d) closed) parts.1 in
    (same.0, same.2, subst (λ o. is_shape_if_known o ≡ true) same.1 known)

-- ---- arrays

pub constant_shapes : ConstantsAgree → (program : Units) (u : ℕ) (unit : List Statement) (x : Name) → IsAccepted program → slice_get program u ≡ Some unit → is_array unit x ≡ true → adjustable_dimensions unit x ≡ 0 → (bs : Bounds) × (constant_shape unit x ≡ Some bs) × (is_shape bs ≡ true)
constant_shapes agrees program u unit x accepted iu array e =
    let d = array_declarator unit x array in
    let s = flat_has (λ (w : Statement). declarators_in w.form) unit d.0 d.1 in
    let keeps = agrees program unit (take (s.1).0 unit) (drop (s.1).0 unit) u accepted iu (take_drop (s.1).0 unit) in
    let constants = subst (λ ds. list_all (is_constant_dimension unit) ds ≡ true) d.4 (none-adjustable unit x array e) in
    let b = declared program u (s.1).0 unit s.0 d.0 accepted iu (s.1).1 s.2 d.3 constants keeps.0 (extends_at unit (s.1).0 keeps) in
    (b.0, shape_known unit x b.0 array (ap (bounds_of unit (constant_value unit)) d.4 ∙ b.1) b.2, b.2)
