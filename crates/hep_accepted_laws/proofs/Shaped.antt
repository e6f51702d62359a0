-- Values of the named constants, and shapes of the arrays of accepted programs.
use Rattle.std.proofs.Common.{◌≡◌, ℕ, Bool, true, false, List, [], ◌∷◌, ◌++◌, Option, Some, None, refl, sym, ap, ◌∙◌, subst, true≢false, ◌&&◌, ◌||◌, not, slice_get, if◌then◌else◌, option_to_list, ℤ, drop, take, take-append-drop}
use Rattle.std.specs.List.{flat_map, list_all, list_any}
use Rattle.std.specs.Option.{option_map}
use Rattle.std.proofs.lemmas.Bool.{and_parts}
use Rattle.std.proofs.lemmas.Grind.{flat_map-append}
use Rattle.std.proofs.lemmas.Option.{none-some, same_Some}
use Rattle.hep_machine.specs.Words.{is_among, Tree, Trees, constant, occurrence, with_list, parenthesized, signed, negated, binary, no_trees, trees, Declarator, Dimension, NamedConstant, UpperBound, Integer, Name, Occurrence, Statement, Value, Units, combined_value, integer_of, negated_value, signed_value, Constants}
use Rattle.hep_machine.specs.Words.{Values, both, bound_before, bound_of, bounds_of, by_meaning, constant_shape, constant_value, given_by, if_shape, lower_value, shape_by, upper_value, value_among, value_of, values_of, with_one, with_two, constants_in, declarators_in, dimensions_of, is_array, is_dummy, is_nonempty}
use Rattle.hep_machine.specs.Words.{named_constants, Meaning, listed_meaning, pure, Bounds, elements, extent, is_shape, product, occurrences_in, ValueType}
use Rattle.hep_source.specs.declared.declaration.UpperBound.TheVariants as bound
use Rattle.hep_machine.specs.declared.shape.Bound.{Bound}
use Rattle.hep_conditions.specs.Words.{IsAccepted, no_functions, Parameters, are_bounds_open, has_bounds, has_value, is_adjustable, is_adjusted, is_bound, is_dimension, is_open, is_shape_if_known, is_upper_bound, value_by, is_counted, Keeps, names_with_lists, names_with_lists_in, trees_in_declarator, trees_in_dimension, trees_in_statement, trees_in_upper, is_typed_as, type_of_value}
use Rattle.hep_source.proofs.Tests.{or-false, some_of}
use Rattle.hep_accepted_laws.specs.PartlyEvaluated.{HasShape, HasValue, IsOf}
use Rattle.hep_accepted_laws.proofs.Agreed.{counted}
use Rattle.hep_accepted_laws.proofs.StatementForms.{parameters_at, typed_statement}
use Rattle.hep_accepted_laws.proofs.NameMeanings.{array_declarator}
use Rattle.hep_accepted_laws.proofs.Members.{Each, each_append, each_none, each_one, Has, all_has, flat_has, has_behind, has_flat, has_front, has_more}
use Rattle.hep_accepted_laws.proofs.Parts.{all_from}
use Rattle.hep_accepted_laws.proofs.Valued.{ConstantsAgree, constant_from, constant_there, kept_by, one_type, typed_by, valued}
use Rattle.hep_conditions.proofs.Agreeing.{given_by-append}
use Rattle.hep_image.proofs.ArrayExtents.{AreMore}

-- ---- an expression that has a value keeps it where more names have values

-- what has a value where another thing has it, by functions that give none where there is none
kept : {A B : Type 0} (f : Option A → Option B) (o n : Option A) (v : B) → ((w : B) → f None ≡ Some w → ⊥) → ((x : A) → o ≡ Some x → n ≡ Some x) → f o ≡ Some v → f n ≡ Some v
kept f None n v none more e = absurd (none v e)
kept f (Some x) n v none more e = ap f (more x refl) ∙ e

mutual
  pub same_value : (unit : List Statement) (old new : Values) (t : Tree) (v : Value) → AreMore old new → value_of unit old t ≡ Some v → value_of unit new t ≡ Some v
  same_value unit old new (constant w) v h e = e
  same_value unit old new (occurrence p) v h e = h p.name v e
  same_value unit old new (with_list p ts) v h e =
      kept (by_meaning (listed_meaning unit p.name)) (values_of unit old ts) (values_of unit new ts) v (no_value (listed_meaning unit p.name)) (λ ws. same_values unit old new ts ws h) e where
        no_value : (m : Meaning) (w : Value) → by_meaning m None ≡ Some w → ⊥
        no_value (pure f) w d = none-some w d
        no_value _ w d = none-some w d
  same_value unit old new (parenthesized t) v h e = same_value unit old new t v h e
  same_value unit old new (signed s t) v h e = kept (with_one (signed_value s)) (value_of unit old t) (value_of unit new t) v none-some (λ w. same_value unit old new t w h) e
  same_value unit old new (negated t) v h e = kept (with_one negated_value) (value_of unit old t) (value_of unit new t) v none-some (λ w. same_value unit old new t w h) e
  same_value unit old new (binary o a b) v h e =
      kept (λ p. with_two (combined_value o) p (value_of unit new b)) (value_of unit old a) (value_of unit new a) v none-some (λ w. same_value unit old new a w h) (
      kept (with_two (combined_value o) (value_of unit old a)) (value_of unit old b) (value_of unit new b) v (no_second (value_of unit old a)) (λ w. same_value unit old new b w h) e) where
        no_second : (p : Option Value) (w : Value) → with_two (combined_value o) p None ≡ Some w → ⊥
        no_second None w d = none-some w d
        no_second (Some x) w d = none-some w d

  pub same_values : (unit : List Statement) (old new : Values) (ts : Trees) (vs : List Value) → AreMore old new → values_of unit old ts ≡ Some vs → values_of unit new ts ≡ Some vs
  same_values unit old new no_trees vs h e = e
  same_values unit old new (trees t ts) vs h e =
      kept (λ p. both p (values_of unit new ts)) (value_of unit old t) (value_of unit new t) vs none-some (λ w. same_value unit old new t w h) (
      kept (both (value_of unit old t)) (values_of unit old ts) (values_of unit new ts) vs (no_second (value_of unit old t)) (λ ws. same_values unit old new ts ws h) e) where
        no_second : (p : Option Value) (ws : List Value) → both p None ≡ Some ws → ⊥
        no_second None ws d = none-some ws d
        no_second (Some x) ws d = none-some ws d

-- ---- bounds that have values

abbrev pub IsValued : List Statement → Values → Tree → Type 0
IsValued unit values t = (v : Value) × (value_of unit values t ≡ Some v)

-- an upper bound that isn't open
abbrev IsExpression : UpperBound → Type 0
IsExpression bound.Open = ⊥
IsExpression (bound.Expression t) = Unit {0}

-- bounds without an open one, and the same by other values
abbrev AreBounds : List Statement → Values → Values → List Dimension → Type 0
AreBounds unit old new ds = (bs : Bounds) × (bounds_of unit old ds ≡ Some bs) × (bounds_of unit new ds ≡ Some bs) × (n : ℕ) × (elements bs ≡ Some n)

pub lower_bound : (unit : List Statement) (old new : Values) (o : Option Tree) → AreMore old new → ((t : Tree) → Has (option_to_list o) t → IsValued unit old t) → (z : ℤ) × (lower_value unit old o ≡ Some z) × (lower_value unit new o ≡ Some z)
lower_bound unit old new None h each = (_, refl, refl)
lower_bound unit old new (Some t) h each =
    let v = each t (0, refl) in
    (integer_of v.0, ap (option_map integer_of) v.1, ap (option_map integer_of) (same_value unit old new t v.0 h v.1))

upper_bound : (unit : List Statement) (old new : Values) (b : UpperBound) → AreMore old new → IsExpression b → ((t : Tree) → Has (trees_in_upper b) t → IsValued unit old t) → (z : ℤ) × (upper_value unit old b ≡ Some (Some z)) × (upper_value unit new b ≡ Some (Some z))
upper_bound unit old new bound.Open h is each = absurd is
upper_bound unit old new (bound.Expression t) h is each =
    let v = each t (0, refl) in
    (integer_of v.0, ap (option_map (λ w. Some (integer_of w))) v.1, ap (option_map (λ w. Some (integer_of w))) (same_value unit old new t v.0 h v.1))

all_bounds : (unit : List Statement) (old new : Values) (ds : List Dimension) → AreMore old new → ((d : Dimension) → Has ds d → IsExpression d.upper) → ((d : Dimension) (t : Tree) → Has ds d → Has (trees_in_dimension d) t → IsValued unit old t) → AreBounds unit old new ds
all_bounds unit old new [] h shut each = ([], refl, refl, 1, refl)
all_bounds unit old new (d ∷ ds) h shut each =
    let l = lower_bound unit old new d.lower h (λ t g. each d t (0, refl) (has_front (option_to_list d.lower) (trees_in_upper d.upper) t g)) in
    let u = upper_bound unit old new d.upper h (shut d (0, refl)) (λ t g. each d t (0, refl) (has_behind (option_to_list d.lower) (trees_in_upper d.upper) t g)) in
    let more = all_bounds unit old new ds h (λ c g. shut c (has_more d ds c g)) (λ c t g. each c t (has_more d ds c g)) in
    let b : Bound = record { lower = l.0; upper = Some u.0 } in (
      b ∷ more.0,
      (λ i. bound_before (bound_of (l.1 i) (u.1 i)) (more.1 i)),
      (λ i. bound_before (bound_of (l.2 i) (u.2 i)) (more.2 i)),
      _,
      ap (product (extent b)) more.4,
    )

-- ---- the bounds of an array that is no dummy argument

-- nothing is open
pub shut : (program : Units) (u k : ℕ) (unit : List Statement) (s : Statement) (e : Tree) → IsAccepted program → slice_get program u ≡ Some unit → slice_get unit k ≡ Some s → Has (trees_in_statement s) e → (parameters_at unit k).doubtful ≡ [] → is_open unit (parameters_at unit k) e ≡ false
shut program u k unit s e accepted iu ik h doubtless =
    ap (λ ds. list_any (λ (p : Occurrence). is_among p.name ds) (occurrences_in unit e) || not (list_all (is_counted unit) (names_with_lists_in e))) doubtless
    ∙ (ap (λ b. list_any (λ (p : Occurrence). is_among p.name []) (occurrences_in unit e) || not b) counted_here
    ∙ ap (λ b. b || false) (none_doubtful (occurrences_in unit e))) where
      none_doubtful : (ps : List Occurrence) → list_any (λ (p : Occurrence). is_among p.name []) ps ≡ false
      none_doubtful [] = refl
      none_doubtful (p ∷ ps) = none_doubtful ps

      counted_here : list_all (is_counted unit) (names_with_lists_in e) ≡ true
      counted_here = all_from (is_counted unit) (names_with_lists_in e) (λ i r g. all_has (is_counted unit) (names_with_lists s) r (counted program unit u k s accepted iu ik).0 (has_flat names_with_lists_in (trees_in_statement s) e r h (i, g)))

pub none_open : (unit : List Statement) (ps : Parameters) (ts : List Tree) → ((t : Tree) → Has ts t → is_open unit ps t ≡ false) → list_any (is_open unit ps) ts ≡ false
none_open unit ps [] h = refl
none_open unit ps (t ∷ ts) h = (λ i. h t (0, refl) i || none_open unit ps ts (λ w g. h w (has_more t ts w g)) i)

-- a bound of an array that is no dummy argument has a value
constant_bound : (unit : List Statement) (ps : Parameters) (t : Tree) → is_open unit ps t ≡ false → is_bound unit ps false t ≡ true → IsValued unit (value_among ps.known) t
constant_bound unit ps t shut e =
    let both = and_parts (is_typed_as no_functions unit Integer t) (has_value unit ps t || (false && (is_adjusted unit ps.known t && is_adjustable unit ps.known t))) e in
    some_of (value_by unit ps t) (valued unit ps t shut (sym (or-false (has_value unit ps t)) ∙ both.1))

upper_valued : (unit : List Statement) (ps : Parameters) (b : UpperBound) → is_upper_bound unit ps false b ≡ true → Each (λ t. is_open unit ps t ≡ false → IsValued unit (value_among ps.known) t) (trees_in_upper b)
upper_valued unit ps (bound.Expression w) e = each_one w (λ shut. constant_bound unit ps w shut e)
upper_valued unit ps bound.Open e = each_none

dimension_valued : (unit : List Statement) (ps : Parameters) (d : Dimension) → is_dimension unit ps false d ≡ true → Each (λ t. is_open unit ps t ≡ false → IsValued unit (value_among ps.known) t) (trees_in_dimension d)
dimension_valued unit ps d e =
    let parts = and_parts (list_all (is_bound unit ps false) (option_to_list d.lower)) (is_upper_bound unit ps false d.upper) e in
    each_append (record { at = λ t h shut. constant_bound unit ps t shut (all_has (is_bound unit ps false) (option_to_list d.lower) t parts.0 h) }) (upper_valued unit ps d.upper parts.1)

dimension_shut : (unit : List Statement) (ps : Parameters) (d : Dimension) → is_dimension unit ps false d ≡ true → IsExpression d.upper
dimension_shut unit ps d e = by_upper d.upper (and_parts (list_all (is_bound unit ps false) (option_to_list d.lower)) (is_upper_bound unit ps false d.upper) e).1 where
  by_upper : (b : UpperBound) → is_upper_bound unit ps false b ≡ true → IsExpression b
  by_upper (bound.Expression t) f = tt
  by_upper bound.Open f = absurd (true≢false (sym f))

-- the bounds of a declarator, by the constants before it and by all constants
declared_bounds : (unit : List Statement) (ps : Parameters) (d : Declarator) (values : Values) → has_bounds unit ps d ≡ true → is_nonempty d.dimensions ≡ true → is_dummy unit d.occurrence.name ≡ false
    → ((t : Tree) → Has (trees_in_declarator d) t → is_open unit ps t ≡ false) → AreMore (value_among ps.known) values
    → (bs : Bounds) × (bounds_of unit values d.dimensions ≡ Some bs) × (is_shape bs ≡ true) × (n : ℕ) × (elements bs ≡ Some n)
declared_bounds unit ps d values test listed no_dummy closed extends =
    let whole : (list_all (is_dimension unit ps false) d.dimensions && (are_bounds_open unit ps d || is_shape_if_known (bounds_of unit (value_among ps.known) d.dimensions))) ≡ true = rw no_dummy at (rw listed at test) in
    let kept = and_parts (list_all (is_dimension unit ps false) d.dimensions) (are_bounds_open unit ps d || is_shape_if_known (bounds_of unit (value_among ps.known) d.dimensions)) whole in
    let each = all_bounds unit (value_among ps.known) values d.dimensions extends
    (λ m g. dimension_shut unit ps m (all_has (is_dimension unit ps false) d.dimensions m kept.0 g))
    (λ m t g w. (dimension_valued unit ps m (all_has (is_dimension unit ps false) d.dimensions m kept.0 g)).at t w (closed t (has_flat trees_in_dimension d.dimensions m t g w))) in
    let shape : is_shape each.0 ≡ true = rw each.1 at (rw (none_open unit ps (trees_in_declarator d) closed) at kept.1) in
    (each.0, each.2, shape, each.3, each.4)

-- ---- arrays

pub take_drop : {A : Type 0} (k : ℕ) (xs : List A) → xs ≡ take k xs ++ drop k xs
take_drop k xs = sym (take-append-drop k xs)

pub named-append : (xs ys : List Statement) → named_constants (xs ++ ys) ≡ named_constants xs ++ named_constants ys
named-append xs ys = flat_map-append (λ (s : Statement). constants_in s.form) xs ys

-- the constants before a statement
abbrev pub known_at : List Statement → ℕ → Constants
known_at unit k = given_by unit [] (named_constants (take k unit))

-- constants are among all constants
pub before_extends : (unit : List Statement) (before after : List NamedConstant) → named_constants unit ≡ before ++ after → AreMore (value_among (given_by unit [] before)) (constant_value unit)
before_extends unit before after e x v f =
    ap (λ (ks : Constants). value_among ks x) (ap (given_by unit []) e ∙ given_by-append unit [] before after)
    ∙ kept_by unit (given_by unit [] before) after x v f

pub known_extends : (unit : List Statement) (k : ℕ) → AreMore (value_among (known_at unit k)) (constant_value unit)
known_extends unit k = before_extends unit (named_constants (take k unit)) (named_constants (drop k unit)) (ap named_constants (take_drop k unit) ∙ named-append (take k unit) (drop k unit))

pub extends_at : (unit : List Statement) (k : ℕ) → Keeps (parameters_at unit k) (known_at unit k) → AreMore (value_among (parameters_at unit k).known) (constant_value unit)
extends_at unit k keeps x v e = known_extends unit k x v (sym (keeps.1 x) ∙ e)

pub shape_known : (unit : List Statement) (x : Name) (bs : Bounds) → is_array unit x ≡ true → bounds_of unit (constant_value unit) (dimensions_of unit x) ≡ Some bs → is_shape bs ≡ true → constant_shape unit x ≡ Some bs
shape_known unit x bs array e shape =
    ap (λ b. if b then shape_by unit (constant_value unit) x else Some []) array
    ∙ (ap if_shape e ∙ ap (λ b. if b then Some bs else None) shape)

pub arrays_have_shapes : ConstantsAgree → (program : Units) (u : ℕ) (unit : List Statement) (x : Name) → IsAccepted program → slice_get program u ≡ Some unit → is_array unit x ≡ true → is_dummy unit x ≡ false → HasShape unit x
arrays_have_shapes agrees program u unit x accepted iu array no_dummy =
    let d = array_declarator unit x array in
    let s = flat_has (λ (w : Statement). declarators_in w.form) unit d.0 d.1 in
    let k = (s.1).0 in
    let keeps = agrees program unit (take k unit) (drop k unit) u accepted iu (take_drop k unit) in
    let bounds = all_has (has_bounds unit (parameters_at unit k)) (declarators_in s.0.form) d.0 (typed_statement program u k unit s.0 accepted iu (s.1).1).bounds s.2 in
    let closed : (t : Tree) → Has (trees_in_declarator d.0) t → is_open unit (parameters_at unit k) t ≡ false
    = λ t g. shut program u k unit s.0 t accepted iu (s.1).1 (has_behind s.0.conditions _ t (has_front (flat_map trees_in_declarator (declarators_in s.0.form)) _ t (has_flat trees_in_declarator (declarators_in s.0.form) d.0 t s.2 g))) keeps.0 in
    let b = declared_bounds unit (parameters_at unit k) d.0 (constant_value unit) bounds d.3 (ap (is_dummy unit) d.2 ∙ no_dummy) closed (extends_at unit k keeps) in
    (b.0, shape_known unit x b.0 array (ap (bounds_of unit (constant_value unit)) d.4 ∙ b.1) b.2, b.2, b.3, b.4)

-- a constant shape is that of the bounds, which are a shape
pub shape_parts : (unit : List Statement) (x : Name) (bs : Bounds) → is_array unit x ≡ true → constant_shape unit x ≡ Some bs → (bounds_of unit (constant_value unit) (dimensions_of unit x) ≡ Some bs) × (is_shape bs ≡ true)
shape_parts unit x bs array e = by_bounds (bounds_of unit (constant_value unit) (dimensions_of unit x)) (sym (ap (λ b. if b then shape_by unit (constant_value unit) x else Some []) array) ∙ e) where
  by_test : (b : Bool) (cs : Bounds) → is_shape cs ≡ b → (if b then Some cs else None) ≡ Some bs → (◌≡◌ {A = Option Bounds} (Some cs) (Some bs)) × (is_shape bs ≡ true)
  by_test true cs f g = (g, sym (ap is_shape (same_Some cs bs g)) ∙ f)
  by_test false cs f g = absurd (none-some bs g)

  by_bounds : (o : Option Bounds) → if_shape o ≡ Some bs → (o ≡ Some bs) × (is_shape bs ≡ true)
  by_bounds None f = absurd (none-some bs f)
  by_bounds (Some cs) f = by_test (is_shape cs) cs refl f

pub shapes_are_shapes : (unit : List Statement) (x : Name) (bounds : Bounds) → is_array unit x ≡ true → constant_shape unit x ≡ Some bounds → is_shape bounds ≡ true
shapes_are_shapes unit x bounds array e = (shape_parts unit x bounds array e).1

-- ---- values of named constants

pub constants_have_values : ConstantsAgree → (program : Units) (u i : ℕ) (unit : List Statement) (c : NamedConstant) → IsAccepted program → slice_get program u ≡ Some unit → slice_get (named_constants unit) i ≡ Some c → HasValue unit c
constants_have_values agrees program u i unit c accepted iu ic =
    let v = constant_there agrees program u i unit c accepted iu ic in
    let one = one_type program u i unit c accepted iu ic in
    let from = constant_from program u i unit c v.0 accepted iu ic v.1 in
    let typed = typed_by unit [] (named_constants unit) (λ x w e. absurd (none-some w e)) (λ j d. one_type program u j unit d accepted iu) c.occurrence.name v.0 v.1 in (
      v.0,
      v.1,
      same_value unit (value_among (given_by unit [] (take i (named_constants unit)))) (constant_value unit) c.value v.0 (before_extends unit (take i (named_constants unit)) (drop i (named_constants unit)) (take_drop i (named_constants unit))) from,
      typed,
      subst (λ (t : ValueType). IsOf no_functions unit t c.value) (same_Some one.0 (type_of_value v.0) (sym one.1 ∙ typed)) one.2,
    )
