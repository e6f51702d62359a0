-- DATA of accepted programs.
use Rattle.std.proofs.Common.{◌≡◌, ℕ, zero, suc, Bool, true, false, List, [], ◌∷◌, length, Option, Some, None, refl, sym, ap, ◌∙◌, subst, ◌+◌, ◌-◌, ◌<◌, ◌≤◌, ◌++◌, arith, ◌&&◌, ◌||◌, not, slice_get, if◌then◌else◌, is_none, is_some, option_map, option_and_then, nat_eq, drop, take, nat_lt, option_to_list}
use Rattle.std.specs.List.{flat_map, list_all, list_any}
use Rattle.std.proofs.lemmas.Bool.{and_parts, or_parts, eqb-true, eq-eqb, not-false}
use Rattle.std.proofs.lemmas.Option.{none-some, same_Some}
use Rattle.hep_machine.specs.Words.{Tree, trees_of, DataConstant, DataGroup, DataValue, Repeat, Target, Integer, Name, Statement, Value, Units, is_main, procedure_name, integers_of, Constants, Values, both, constant_shape, constant_value, given_by, shape_by}
use Rattle.hep_machine.specs.Words.{value_among, values_of, Repeated, Stretch, all_elements, count_by, element_with, elements_named, groups_in, repeat_of, value_of_constant, values_given, item_at, constants_in, declarators_in, dimensions_of, is_array, is_common, is_dummy, is_nonempty, named_constants}
use Rattle.hep_machine.specs.Words.{type_of, element, external, Bounds, element_number, elements, is_local, same_name}
use Rattle.hep_source.specs.declared.declaration.DataConstant.TheVariants as data_constant
use Rattle.hep_source.specs.declared.declaration.Repeat.TheVariants as repeat
use Rattle.hep_conditions.specs.Words.{IsAccepted, no_functions, has_constant_subscripts, has_value, is_constant_of, is_group_typed, value_by, count_of, given_twice_from, has_type, is_forbidden, is_misplaced, is_outside, is_target_outside, is_value, is_wrong_group, known_targets, known_values, wrong_groups_from, elements_in}
use Rattle.hep_conditions.specs.Words.{is_given_twice, name_repeated, share_element, holds_at_each_place, same_length, Known, count_of_items, holds_from, holds_within, known_before, meet, Keeps, targets_in_data, trees_in_declarator, trees_in_form, are_actuals, are_integers, has_dimensions, is_list_typed}
use Rattle.hep_conditions.specs.Words.{is_target_typed, is_typed_as, type_of_value, at_line, when}
use Rattle.hep_accepted_laws.proofs.StatementForms.{parameters_at, target_typed, typed_statement}
use Rattle.hep_accepted_laws.proofs.NameMeanings.{constant_not_in_data, data_known}
use Rattle.hep_accepted_laws.proofs.Members.{Has, all_has, has_behind, has_flat, has_front, has_more, AreNew, one_place}
use Rattle.hep_accepted_laws.proofs.Parts.{and_past, any-each, none-append, none-when, some_value, unviolated}
use Rattle.hep_accepted_laws.proofs.Shaped.{same_value, IsValued, arrays_have_shapes, known_at, known_extends, shape_parts, same_values, shut, take_drop}
use Rattle.hep_accepted_laws.proofs.Valued.{ConstantsAgree, valued}
use Rattle.hep_conditions.proofs.Agreeing.{given_by-append}
use Rattle.std.proofs.lemmas.Bool.Decides.{nat_tests}
use Rattle.hep_source.proofs.NameTests.{same_name-self}
use Rattle.hep_accepted_laws.specs.Initial.{FitsValues, IsWithin, all_stretches, names_given, stretches_in, stretches_of, values_of_group}
use Rattle.hep_accepted_laws.proofs.Operands.{declared_type}
use Rattle.hep_source.proofs.Tests.{or-turned, some_of}
use Rattle.hep_image.proofs.ArrayExtents.{bounds-length, AreMore}

-- ---- what 311 says of a statement

abbrev is_wrong_statement : List Statement → Constants → Statement → Bool
is_wrong_statement unit known s = is_misplaced unit s || list_any (is_wrong_group unit known) (groups_in s.form)

right_from : (unit : List Statement) (known : Constants) (ss : List Statement) (k : ℕ) (s : Statement) → wrong_groups_from unit known ss ≡ [] → slice_get ss k ≡ Some s → is_wrong_statement unit (given_by unit known (named_constants (take k ss))) s ≡ false
right_from unit known [] k s e g = absurd (none-some s g)
right_from unit known (w ∷ ws) zero s e g =
    subst (λ (v : Statement). is_wrong_statement unit known v ≡ false) (same_Some w s g) (
    none-when _ (at_line 311 w.line) (none-append (when (is_wrong_statement unit known w) (at_line 311 w.line)) (wrong_groups_from unit (given_by unit known (constants_in w.form)) ws) e).0)
right_from unit known (w ∷ ws) (suc k) s e g =
    let more = (none-append (when (is_wrong_statement unit known w) (at_line 311 w.line)) (wrong_groups_from unit (given_by unit known (constants_in w.form)) ws) e).1 in
    subst (λ (ks : Constants). is_wrong_statement unit ks s ≡ false) (sym (given_by-append unit known (constants_in w.form) (named_constants (take k ws)))) (
    right_from unit (given_by unit known (constants_in w.form)) ws k s more g)

pub right_statement : (program : Units) (u k : ℕ) (unit : List Statement) (s : Statement) → IsAccepted program → slice_get program u ≡ Some unit → slice_get unit k ≡ Some s → (is_misplaced unit s ≡ false) × (list_any (is_wrong_group unit (known_at unit k)) (groups_in s.form) ≡ false)
right_statement program u k unit s accepted iu ik =
    or_parts (is_misplaced unit s) (list_any (is_wrong_group unit (known_at unit k)) (groups_in s.form)) (
    right_from unit [] unit k s (none-append (wrong_groups_from unit [] unit) (given_twice_from unit [] [] unit) (unviolated program unit u accepted iu).assigned).0 ik)

pub main_program_has_data : (program : Units) (u k : ℕ) (unit : List Statement) (s : Statement) → IsAccepted program → slice_get program u ≡ Some unit → slice_get unit k ≡ Some s → is_nonempty (groups_in s.form) ≡ true → is_main (procedure_name unit) ≡ true
main_program_has_data program u k unit s accepted iu ik there =
    not-false (is_main (procedure_name unit)) (and_past (is_nonempty (groups_in s.form)) (not (is_main (procedure_name unit))) there (right_statement program u k unit s accepted iu ik).0)

-- the tests of a group
record IsRightGroup (unit : List Statement) (known : Constants) (g : DataGroup) : Type 0 where
  targets : list_any (λ (t : Target). is_forbidden unit t.occurrence.name || is_target_outside unit known t) g.targets ≡ false
  values : list_any (λ (v : DataValue). not (is_value known v)) g.values ≡ false
  -- the lists are of one length, and each value is of the type of its element
  lengths : same_length (known_targets unit known g.targets) (known_values known g.values) ≡ true
  types : holds_at_each_place (has_type unit) (known_targets unit known g.targets).items (known_values known g.values).items ≡ true

right_group : (program : Units) (u k i : ℕ) (unit : List Statement) (s : Statement) (g : DataGroup) → IsAccepted program → slice_get program u ≡ Some unit → slice_get unit k ≡ Some s → slice_get (groups_in s.form) i ≡ Some g → IsRightGroup unit (known_at unit k) g
right_group program u k i unit s g accepted iu ik ig =
    let test = any-each (is_wrong_group unit (known_at unit k)) (groups_in s.form) i g (right_statement program u k unit s accepted iu ik).1 ig in
    let p1 = or_parts (list_any (λ (t : Target). is_forbidden unit t.occurrence.name || is_target_outside unit (known_at unit k) t) g.targets) _ test in
    let p2 = or_parts (list_any (λ (v : DataValue). not (is_value (known_at unit k) v)) g.values) _ p1.1 in
    let p3 = or_parts (not (same_length (known_targets unit (known_at unit k) g.targets) (known_values (known_at unit k) g.values))) _ p2.1 in
    record { targets = p1.0; values = p2.0; lengths = not-false _ p3.0; types = not-false _ p3.1 }

-- ---- places

right_target : (program : Units) (u k i j : ℕ) (unit : List Statement) (s : Statement) (g : DataGroup) (t : Target) → IsAccepted program → slice_get program u ≡ Some unit → slice_get unit k ≡ Some s → slice_get (groups_in s.form) i ≡ Some g → slice_get g.targets j ≡ Some t
    → (is_dummy unit t.occurrence.name ≡ false) × (is_common unit t.occurrence.name ≡ false) × (is_target_outside unit (known_at unit k) t ≡ false)
right_target program u k i j unit s g t accepted iu ik ig jt =
    let test = any-each (λ (w : Target). is_forbidden unit w.occurrence.name || is_target_outside unit (known_at unit k) w) g.targets j t (right_group program u k i unit s g accepted iu ik ig).targets jt in
    let p1 = or_parts (is_forbidden unit t.occurrence.name) (is_target_outside unit (known_at unit k) t) test in
    let p2 = or_parts t.occurrence.name.asynchronous (is_dummy unit t.occurrence.name || is_common unit t.occurrence.name) p1.0 in
    let p3 = or_parts (is_dummy unit t.occurrence.name) (is_common unit t.occurrence.name) p2.1 in
    (p3.0, p3.1, p1.1)

in_data : (s : Statement) (i j : ℕ) (g : DataGroup) (t : Target) → slice_get (groups_in s.form) i ≡ Some g → slice_get g.targets j ≡ Some t → Has (targets_in_data s.form) t
in_data s i j g t ig jt = has_flat (λ (d : DataGroup). d.targets) (groups_in s.form) g t (i, ig) (j, jt)

pub places_are_local : (program : Units) (u k i j : ℕ) (unit : List Statement) (s : Statement) (g : DataGroup) (t : Target) → IsAccepted program → slice_get program u ≡ Some unit → slice_get unit k ≡ Some s → slice_get (groups_in s.form) i ≡ Some g → slice_get g.targets j ≡ Some t → is_local unit t.occurrence.name ≡ true
places_are_local program u k i j unit s g t accepted iu ik ig jt =
    let right = right_target program u k i j unit s g t accepted iu ik ig jt in
    let place = in_data s i j g t ig jt in
    let no_constant = constant_not_in_data program u k place.0 unit s t accepted iu ik place.1 in
    (λ n. not (right.0 n) && (not (right.1 n) && not (no_constant n)))

-- ---- values

-- a value and a repeat count stay where more names have values
same_constant : (old new : Values) (c : DataConstant) (v : Value) → AreMore old new → value_of_constant old c ≡ Some v → value_of_constant new c ≡ Some v
same_constant old new (data_constant.Value w) v h e = e
same_constant old new (data_constant.Named p) v h e = h p.name v e

same_repeat : (old new : Values) (r : Option Repeat) (n : ℕ) → AreMore old new → repeat_of old r ≡ Some n → repeat_of new r ≡ Some n
same_repeat old new None n h e = e
same_repeat old new (Some (repeat.Count z)) n h e = e
same_repeat old new (Some (repeat.Named p)) n h e = by_value (old p.name) (new p.name) (h p.name) e where
  by_value : (o m : Option Value) → ((v : Value) → o ≡ Some v → m ≡ Some v) → count_by o ≡ Some n → count_by m ≡ Some n
  by_value None m more f = absurd (none-some n f)
  by_value (Some v) m more f = ap count_by (more v refl) ∙ f

-- a value of DATA, by the constants before it and by all constants
pub given_by_both : (program : Units) (u k i j : ℕ) (unit : List Statement) (s : Statement) (g : DataGroup) (v : DataValue) → IsAccepted program → slice_get program u ≡ Some unit → slice_get unit k ≡ Some s → slice_get (groups_in s.form) i ≡ Some g → slice_get g.values j ≡ Some v
    → (r : Repeated Value) × (values_given (value_among (known_at unit k)) v ≡ Some r) × (values_given (constant_value unit) v ≡ Some r)
given_by_both program u k i j unit s g v accepted iu ik ig jv =
    let test = any-each (λ (w : DataValue). not (is_value (known_at unit k) w)) g.values j v (right_group program u k i unit s g accepted iu ik ig).values jv in
    let both = and_parts (is_some (repeat_of (value_among (known_at unit k)) v.repeat)) (is_some (value_of_constant (value_among (known_at unit k)) v.constant)) (not-false (is_value (known_at unit k) v) test) in
    let n = some_of (repeat_of (value_among (known_at unit k)) v.repeat) both.0 in
    let x = some_of (value_of_constant (value_among (known_at unit k)) v.constant) both.1 in
    let count = same_repeat (value_among (known_at unit k)) (constant_value unit) v.repeat n.0 (known_extends unit k) n.1 in
    let value = same_constant (value_among (known_at unit k)) (constant_value unit) v.constant x.0 (known_extends unit k) x.1 in (
      record { item = x.0; count = n.0 },
      (λ i. option_and_then (λ m. option_map (λ y. record { item = y; count = m }) (x.1 i)) (n.1 i)),
      (λ i. option_and_then (λ m. option_map (λ y. record { item = y; count = m }) (value i)) (count i)),
    )

pub values_are_given : (program : Units) (u k i j : ℕ) (unit : List Statement) (s : Statement) (g : DataGroup) (v : DataValue) → IsAccepted program → slice_get program u ≡ Some unit → slice_get unit k ≡ Some s → slice_get (groups_in s.form) i ≡ Some g → slice_get g.values j ≡ Some v → (r : Repeated Value) × (values_given (constant_value unit) v ≡ Some r)
values_are_given program u k i j unit s g v accepted iu ik ig jv =
    let r = given_by_both program u k i j unit s g v accepted iu ik ig jv in
    (r.0, r.2)

-- ---- elements

shape_count : (unit : List Statement) (x : Name) (bs : Bounds) → is_array unit x ≡ true → constant_shape unit x ≡ Some bs → length bs ≡ length (dimensions_of unit x)
shape_count unit x bs array e = bounds-length unit (constant_value unit) (dimensions_of unit x) bs (shape_parts unit x bs array e).0

-- the values of expressions that all have one
all_valued : (unit : List Statement) (values : Values) (ts : List Tree) → ((t : Tree) → Has ts t → IsValued unit values t) → (vs : List Value) × (values_of unit values (trees_of ts) ≡ Some vs) × (length vs ≡ count_of (trees_of ts))
all_valued unit values [] each = ([], refl, refl)
all_valued unit values (t ∷ ts) each =
    let v = each t (0, refl) in
    let more = all_valued unit values ts (λ w h. each w (has_more t ts w h)) in
    (v.0 ∷ more.0, (λ i. both (v.1 i) (more.1 i)), ap suc more.2)

target_tests : (program : Units) (u k i j : ℕ) (unit : List Statement) (s : Statement) (g : DataGroup) (t : Target) → IsAccepted program → slice_get program u ≡ Some unit → slice_get unit k ≡ Some s → slice_get (groups_in s.form) i ≡ Some g → slice_get g.targets j ≡ Some t
    → (is_target_typed no_functions unit t ≡ true) × (list_all (is_constant_of unit (parameters_at unit k) Integer) t.subscripts ≡ true)
target_tests program u k i j unit s g t accepted iu ik ig jt =
    let group = all_has (is_group_typed unit (parameters_at unit k)) (groups_in s.form) g (typed_statement program u k unit s accepted iu ik).groups (i, ig) in
    and_parts (is_target_typed no_functions unit t) _ (all_has (has_constant_subscripts unit (parameters_at unit k)) g.targets t group (j, jt))

-- a subscript in DATA has a value by the constants before it
subscripts_valued : (program : Units) (u k i j : ℕ) (unit : List Statement) (s : Statement) (g : DataGroup) (t : Target) → IsAccepted program → slice_get program u ≡ Some unit → slice_get unit k ≡ Some s → slice_get (groups_in s.form) i ≡ Some g → slice_get g.targets j ≡ Some t
    → Keeps (parameters_at unit k) (known_at unit k) → (e : Tree) → Has t.subscripts e → IsValued unit (value_among (known_at unit k)) e
subscripts_valued program u k i j unit s g t accepted iu ik ig jt keeps e h =
    let each = (target_tests program u k i j unit s g t accepted iu ik ig jt).1 in
    let test = (and_parts (is_typed_as no_functions unit Integer e) (has_value unit (parameters_at unit k) e) (all_has (is_constant_of unit (parameters_at unit k) Integer) t.subscripts e each h)).1 in
    let inner = has_flat (λ (d : DataGroup). flat_map (λ (w : Target). w.subscripts) d.targets) (groups_in s.form) g e (i, ig) (has_flat (λ (w : Target). w.subscripts) g.targets t e (j, jt) h) in
    let place = has_behind s.conditions _ e (has_behind (flat_map trees_in_declarator (declarators_in s.form)) _ e (has_behind _ _ e (has_front (flat_map (λ (d : DataGroup). flat_map (λ (w : Target). w.subscripts) d.targets) (groups_in s.form)) (trees_in_form s.form) e inner))) in
    let v = some_of (value_by unit (parameters_at unit k) e) (valued unit (parameters_at unit k) e (shut program u k unit s e accepted iu ik place keeps.0) test) in
    (v.0, same_value unit (value_among (parameters_at unit k).known) (value_among (known_at unit k)) e v.0 (λ x w f. sym (keeps.1 x) ∙ f) v.1)

-- an element within its bounds
number_there : (bs : Bounds) (vs : List Value) → nat_eq (length bs) (length vs) ≡ true → is_outside (Some bs) (Some vs) ≡ false → (n : ℕ) × (element_number bs (integers_of vs) ≡ Some n)
number_there bs vs same inside = some_value (element_number bs (integers_of vs)) (subst (λ b. (b && is_none (element_number bs (integers_of vs))) ≡ false) same inside)

element_is : (x : Name) (bs : Bounds) (vs : List Value) (n : ℕ) (shape : Option Bounds) (subscripts : Option (List Value)) → shape ≡ Some bs → subscripts ≡ Some vs → element_number bs (integers_of vs) ≡ Some n
    → element_with x shape subscripts ≡ Some (record { name = x; first = n; count = 1 })
element_is x bs vs n shape subscripts p q e =
    (λ i. option_map (λ m. record { name = x; first = m; count = 1 }) (option_and_then (λ cs. option_and_then (λ ws. element_number cs (integers_of ws)) (q i)) (p i)))
    ∙ ap (λ o. option_map (λ m. record { name = x; first = m; count = 1 }) o) e

-- the number of subscripts is that of the dimensions
subscripts_counted : (unit : List Statement) (t : Target) → is_array unit t.occurrence.name ≡ true → is_nonempty t.subscripts ≡ true → is_target_typed no_functions unit t ≡ true → count_of (trees_of t.subscripts) ≡ length (dimensions_of unit t.occurrence.name)
subscripts_counted unit t array listed typed =
    let test : (has_dimensions unit t.occurrence.name (trees_of t.subscripts) && are_integers no_functions unit (trees_of t.subscripts)) ≡ true
    = subst (λ a. is_list_typed unit (if a then element else external) t.occurrence.name (trees_of t.subscripts) (are_integers no_functions unit (trees_of t.subscripts)) (are_actuals no_functions unit (trees_of t.subscripts)) ≡ true) array (target_typed no_functions unit t typed listed) in
    eqb-true (count_of (trees_of t.subscripts)) (length (dimensions_of unit t.occurrence.name)) (and_parts (has_dimensions unit t.occurrence.name (trees_of t.subscripts)) (are_integers no_functions unit (trees_of t.subscripts)) test).0

inside : (unit : List Statement) (known : Constants) (t : Target) (bs : Bounds) (vs : List Value) → is_nonempty t.subscripts ≡ true → is_array unit t.occurrence.name ≡ true → constant_shape unit t.occurrence.name ≡ Some bs → values_of unit (value_among known) (trees_of t.subscripts) ≡ Some vs → is_target_outside unit known t ≡ false → is_outside (Some bs) (Some vs) ≡ false
inside unit known t bs vs listed array shape values e =
    (λ i. sym listed i && (sym array i && is_outside (sym shape i) (sym values i))) ∙ e

whole_there : (unit : List Statement) (x : Name) (o : Option Bounds) (bs : Bounds) (n : ℕ) → o ≡ Some bs → elements bs ≡ Some n → (e : Stretch) × (all_elements x o ≡ Some e)
whole_there unit x o bs n p q =
    (record { name = x; first = 1; count = n }, ap (all_elements x) p ∙ ap (λ m. option_map (λ c. record { name = x; first = 1; count = c }) m) q)

-- what a name in DATA stands for, by the constants before it and by all constants
abbrev pub IsThere : List Statement → Values → Target → Type 0
IsThere unit known t = (e : Stretch) × (elements_named unit known t ≡ Some e) × (elements_named unit (constant_value unit) t ≡ Some e)

pub there_by : ConstantsAgree → (program : Units) (u k i j : ℕ) (unit : List Statement) (s : Statement) (g : DataGroup) (t : Target) → IsAccepted program → slice_get program u ≡ Some unit → slice_get unit k ≡ Some s → slice_get (groups_in s.form) i ≡ Some g → slice_get g.targets j ≡ Some t → IsThere unit (value_among (known_at unit k)) t
there_by agrees program u k i j unit s g t accepted iu ik ig jt = by_list (is_nonempty t.subscripts) refl (is_array unit t.occurrence.name) refl where
  keeps : Keeps (parameters_at unit k) (known_at unit k)
  keeps = agrees program unit (take k unit) (drop k unit) u accepted iu (take_drop k unit)

  right : (is_dummy unit t.occurrence.name ≡ false) × (is_common unit t.occurrence.name ≡ false) × (is_target_outside unit (known_at unit k) t ≡ false)
  right = right_target program u k i j unit s g t accepted iu ik ig jt

  named : Bool → Values → Option Stretch
  named b values = if b then element_with t.occurrence.name (constant_shape unit t.occurrence.name) (values_of unit values (trees_of t.subscripts)) else all_elements t.occurrence.name (constant_shape unit t.occurrence.name)

  listed_there : is_nonempty t.subscripts ≡ true → is_array unit t.occurrence.name ≡ true → (e : Stretch) × (named true (value_among (known_at unit k)) ≡ Some e) × (named true (constant_value unit) ≡ Some e)
  listed_there listed array =
      let shape = arrays_have_shapes agrees program u unit t.occurrence.name accepted iu array right.0 in
      let vs = all_valued unit (value_among (known_at unit k)) t.subscripts (subscripts_valued program u k i j unit s g t accepted iu ik ig jt keeps) in
      let count = shape_count unit t.occurrence.name shape.0 array shape.1 ∙ sym (vs.2 ∙ subscripts_counted unit t array listed (target_tests program u k i j unit s g t accepted iu ik ig jt).0) in
      let n = number_there shape.0 vs.0 (eq-eqb (length shape.0) (length vs.0) count) (inside unit (known_at unit k) t shape.0 vs.0 listed array shape.1 vs.1 right.2) in
      let all = same_values unit (value_among (known_at unit k)) (constant_value unit) (trees_of t.subscripts) vs.0 (known_extends unit k) vs.1 in (
        record { name = t.occurrence.name; first = n.0; count = 1 },
        element_is t.occurrence.name shape.0 vs.0 n.0 (constant_shape unit t.occurrence.name) (values_of unit (value_among (known_at unit k)) (trees_of t.subscripts)) shape.1 vs.1 n.1,
        element_is t.occurrence.name shape.0 vs.0 n.0 (constant_shape unit t.occurrence.name) (values_of unit (constant_value unit) (trees_of t.subscripts)) shape.1 all n.1,
      )

  by_list : (b : Bool) → is_nonempty t.subscripts ≡ b → (a : Bool) → is_array unit t.occurrence.name ≡ a
      → (e : Stretch) × (named b (value_among (known_at unit k)) ≡ Some e) × (named b (constant_value unit) ≡ Some e)
  by_list true listed a array =
      let place = in_data s i j g t ig jt in
      listed_there listed (data_known program u k place.0 unit s t accepted iu ik place.1 listed)
  by_list false listed true array =
      let shape = arrays_have_shapes agrees program u unit t.occurrence.name accepted iu array right.0 in
      let e = whole_there unit t.occurrence.name (constant_shape unit t.occurrence.name) shape.0 shape.3 shape.1 shape.4 in
      (e.0, e.1, e.1)
  by_list false listed false array =
      let e = whole_there unit t.occurrence.name (constant_shape unit t.occurrence.name) [] 1 (ap (λ b. if b then shape_by unit (constant_value unit) t.occurrence.name else Some []) array) refl in
      (e.0, e.1, e.1)

pub places_are_there : ConstantsAgree → (program : Units) (u k i j : ℕ) (unit : List Statement) (s : Statement) (g : DataGroup) (t : Target) → IsAccepted program → slice_get program u ≡ Some unit → slice_get unit k ≡ Some s → slice_get (groups_in s.form) i ≡ Some g → slice_get g.targets j ≡ Some t → (e : Stretch) × (elements_named unit (constant_value unit) t ≡ Some e)
places_are_there agrees program u k i j unit s g t accepted iu ik ig jt =
    let e = there_by agrees program u k i j unit s g t accepted iu ik ig jt in
    (e.0, e.2)

-- ---- what is known is all

IsAll : {A : Type 0} → Known A → List (Repeated A) → Type 0
IsAll known items = (known.items ≡ items) × (known.whole ≡ true)

all_before : {A : Type 0} (o p : Option (Repeated A)) (r : Repeated A) (after : Known A) (items : List (Repeated A)) → o ≡ Some r → p ≡ Some r → IsAll after items → IsAll (known_before o after) (option_to_list p ++ items)
unfolding IsAll
all_before o p r after items e f h =
    ((λ i. (known_before (e i) after).items) ∙ (ap (λ rs. r ∷ rs) h.0 ∙ (λ i. option_to_list (sym f i) ++ items)), (λ i. (known_before (e i) after).whole) ∙ h.1)

all_targets : (unit : List Statement) (known : Constants) (ts : List Target) → ((j : ℕ) (t : Target) → slice_get ts j ≡ Some t → IsThere unit (value_among known) t) → IsAll (known_targets unit known ts) (names_given unit ts)
unfolding IsAll
all_targets unit known [] each = (refl, refl)
all_targets unit known (t ∷ ts) each =
    let e = each 0 t refl in
    all_before (option_map name_repeated (elements_named unit (value_among known) t)) (option_map name_repeated (elements_named unit (constant_value unit) t)) (name_repeated e.0) (known_targets unit known ts) (names_given unit ts)
    (ap (option_map name_repeated) e.1) (ap (option_map name_repeated) e.2) (all_targets unit known ts (λ j. each (suc j)))

all_values : (unit : List Statement) (known : Constants) (vs : List DataValue) → ((j : ℕ) (v : DataValue) → slice_get vs j ≡ Some v → (r : Repeated Value) × (values_given (value_among known) v ≡ Some r) × (values_given (constant_value unit) v ≡ Some r)) → IsAll (known_values known vs) (values_of_group unit vs)
unfolding IsAll
all_values unit known [] each = (refl, refl)
all_values unit known (v ∷ vs) each =
    let r = each 0 v refl in
    all_before (values_given (value_among known) v) (values_given (constant_value unit) v) r.0 (known_values known vs) (values_of_group unit vs) r.1 r.2 (all_values unit known vs (λ j. each (suc j)))

-- ---- a test at each place

past : (j q n c : ℕ) → n ≡ j + q → nat_lt q c ≡ false → n ≡ (j + c) + (q - c)
past j q n c e f = grind (arith, nat_tests)

-- two stretches that both hold a number meet
met : (i m j k n : ℕ) → i ≤ n → n < i + m → j ≤ n → n < j + k → meet i m j k ≡ true
met i m j k n f g h l = grind (arith, nat_tests)

tests_within : {A : Type 0} (test : A → Bool) (i m j q n : ℕ) (ys : List (Repeated A)) (y : A) → holds_within test i m j ys ≡ true → n ≡ j + q → i ≤ n → n < i + m → item_at ys q ≡ Some y → test y ≡ true
tests_within test i m j q n [] y h e low high g = absurd (none-some y g)
tests_within test i m j q n (r ∷ rs) y h e low high g = by_test (nat_lt q r.count) refl g (tests_within test i m (j + r.count) (q - r.count) n rs y parts.1) where
  parts : ((not (meet i m j r.count) || test r.item) ≡ true) × (holds_within test i m (j + r.count) rs ≡ true)
  parts = and_parts (not (meet i m j r.count) || test r.item) (holds_within test i m (j + r.count) rs) h

  here : (c : ℕ) → nat_lt q c ≡ true → n < j + c
  here c f = grind (arith, nat_tests)

  by_test : (b : Bool) → nat_lt q r.count ≡ b → (if b then Some r.item else item_at rs (q - r.count)) ≡ Some y
      → (n ≡ (j + r.count) + (q - r.count) → i ≤ n → n < i + m → item_at rs (q - r.count) ≡ Some y → test y ≡ true) → test y ≡ true
  by_test true f d more =
      subst (λ z. test z ≡ true) (same_Some r.item y d) (subst (λ b. (not b || test r.item) ≡ true) (met i m j r.count n low high (omega (arith, e)) (here r.count f)) parts.0)
  by_test false f d more = more (past j q n r.count e f) low high d

tests_from : {A B : Type 0} (test : A → B → Bool) (i q n : ℕ) (xs : List (Repeated A)) (ys : List (Repeated B)) (x : A) (y : B) → holds_from test i xs ys ≡ true → n ≡ i + q → item_at xs q ≡ Some x → item_at ys n ≡ Some y → test x y ≡ true
tests_from test i q n [] ys x y h e gx gy = absurd (none-some x gx)
tests_from test i q n (r ∷ rs) ys x y h e gx gy = by_test (nat_lt q r.count) refl gx (tests_from test (i + r.count) (q - r.count) n rs ys x y parts.1) where
  parts : (holds_within (test r.item) i r.count 0 ys ≡ true) × (holds_from test (i + r.count) rs ys ≡ true)
  parts = and_parts (holds_within (test r.item) i r.count 0 ys) (holds_from test (i + r.count) rs ys) h

  high : (c : ℕ) → nat_lt q c ≡ true → n < i + c
  high c f = grind (arith, nat_tests)

  by_test : (b : Bool) → nat_lt q r.count ≡ b → (if b then Some r.item else item_at rs (q - r.count)) ≡ Some x
      → (n ≡ (i + r.count) + (q - r.count) → item_at rs (q - r.count) ≡ Some x → item_at ys n ≡ Some y → test x y ≡ true) → test x y ≡ true
  by_test true f d more =
      subst (λ z. test z y ≡ true) (same_Some r.item x d) (tests_within (test r.item) i r.count 0 n n ys y parts.0 (omega arith) (omega (arith, e)) (high r.count f) gy)
  by_test false f d more = more (past i q n r.count e f) d gy

same_count : {A B : Type 0} (xs : Known A) (ys : Known B) → xs.whole ≡ true → ys.whole ≡ true → same_length xs ys ≡ true → count_of_items xs.items ≡ count_of_items ys.items
same_count xs ys p q e = eqb-true (count_of_items xs.items) (count_of_items ys.items) ((λ i. not (sym p i && sym q i) || nat_eq (count_of_items xs.items) (count_of_items ys.items)) ∙ e)

pub values_fit : ConstantsAgree → (program : Units) (u k i : ℕ) (unit : List Statement) (s : Statement) (g : DataGroup) → IsAccepted program → slice_get program u ≡ Some unit → slice_get unit k ≡ Some s → slice_get (groups_in s.form) i ≡ Some g → FitsValues unit g
unfolding IsAll
values_fit agrees program u k i unit s g accepted iu ik ig =
    let tests = right_group program u k i unit s g accepted iu ik ig in
    let targets = all_targets unit (known_at unit k) g.targets (λ j t jt. there_by agrees program u k i j unit s g t accepted iu ik ig jt) in
    let values = all_values unit (known_at unit k) g.values (λ j v jv. given_by_both program u k i j unit s g v accepted iu ik ig jv) in
    let count = same_count (known_targets unit (known_at unit k) g.targets) (known_values (known_at unit k) g.values) targets.1 values.1 tests.lengths in
    let each : holds_at_each_place (has_type unit) (names_given unit g.targets) (values_of_group unit g.values) ≡ true = (λ j. holds_at_each_place (has_type unit) (sym targets.0 j) (sym values.0 j)) ∙ tests.types in (
      sym (ap count_of_items targets.0) ∙ (count ∙ ap count_of_items values.0),
      λ n x v gx gv. declared_type (type_of unit x) (type_of_value v) (tests_from (has_type unit) 0 n n (names_given unit g.targets) (values_of_group unit g.values) x v each (omega arith) gx gv),
    )

-- ---- no element is given a value twice

is_given_twice-same : (before after es : List Stretch) → ((e : Stretch) → list_any (share_element e) before ≡ list_any (share_element e) after) → is_given_twice before es ≡ is_given_twice after es
is_given_twice-same before after [] h = refl
is_given_twice-same before after (e ∷ es) h =
    λ i. h e i || is_given_twice-same (e ∷ before) (e ∷ after) es (λ d. ap (λ b. share_element d e || b) (h d)) i

-- one element more before, wherever it stands
share-turned : (xs given : List Stretch) (x e : Stretch) → list_any (share_element e) (x ∷ (xs ++ given)) ≡ list_any (share_element e) (xs ++ x ∷ given)
share-turned [] given x e = refl
share-turned (y ∷ ys) given x e = or-turned (share_element e x) (share_element e y) (list_any (share_element e) (ys ++ given)) ∙ ap (λ b. share_element e y || b) (share-turned ys given x e)

once-append : (given xs ys : List Stretch) → is_given_twice given xs ≡ false → is_given_twice (xs ++ given) ys ≡ false → is_given_twice given (xs ++ ys) ≡ false
once-append given [] ys p q = q
once-append given (x ∷ xs) ys p q =
    let both = or_parts (list_any (share_element x) given) (is_given_twice (x ∷ given) xs) p in
    let more = once-append (x ∷ given) xs ys both.1 (sym (is_given_twice-same (x ∷ (xs ++ given)) (xs ++ x ∷ given) ys (share-turned xs given x)) ∙ q) in
    λ i. both.0 i || more i

-- the elements of statements, one after the other
once-from : (unit : List Statement) (known : Constants) (given : List Stretch) (ss : List Statement) → given_twice_from unit known given ss ≡ []
    → ((j : ℕ) (s : Statement) → slice_get ss j ≡ Some s → elements_in unit (given_by unit known (named_constants (take j ss))) s ≡ stretches_in unit s)
    → is_given_twice given (flat_map (stretches_in unit) ss) ≡ false
once-from unit known given [] e same = refl
once-from unit known given (s ∷ ss) e same =
    let parts = none-append (when (is_given_twice given (elements_in unit known s)) (at_line 311 s.line)) (given_twice_from unit (given_by unit known (constants_in s.form)) (elements_in unit known s ++ given) ss) e in
    let here = same 0 s refl in
    let more = once-from unit (given_by unit known (constants_in s.form)) (elements_in unit known s ++ given) ss parts.1 (λ j t g. ap (λ (ks : Constants). elements_in unit ks t) (sym (given_by-append unit known (constants_in s.form) (named_constants (take j ss)))) ∙ same (suc j) t g) in
    once-append given (stretches_in unit s) (flat_map (stretches_in unit) ss) (subst (λ es. is_given_twice given es ≡ false) here (none-when _ (at_line 311 s.line) parts.0)) (subst (λ es. is_given_twice (es ++ given) (flat_map (stretches_in unit) ss) ≡ false) here more)

flat-same : {A B : Type 0} (f g : A → List B) (xs : List A) → ((i : ℕ) (x : A) → slice_get xs i ≡ Some x → f x ≡ g x) → flat_map f xs ≡ flat_map g xs
flat-same f g [] h = refl
flat-same f g (x ∷ xs) h = λ n. h 0 x refl n ++ flat-same f g xs (λ i. h (suc i)) n

same_stretches : ConstantsAgree → (program : Units) (u k : ℕ) (unit : List Statement) (s : Statement) → IsAccepted program → slice_get program u ≡ Some unit → slice_get unit k ≡ Some s → elements_in unit (known_at unit k) s ≡ stretches_in unit s
same_stretches agrees program u k unit s accepted iu ik =
    flat-same (λ (g : DataGroup). flat_map (λ (t : Target). option_to_list (elements_named unit (value_among (known_at unit k)) t)) g.targets) (λ (g : DataGroup). stretches_of unit g.targets) (groups_in s.form) (λ i g ig.
    flat-same (λ (t : Target). option_to_list (elements_named unit (value_among (known_at unit k)) t)) (λ (t : Target). option_to_list (elements_named unit (constant_value unit) t)) g.targets (λ j t jt.
    let e = there_by agrees program u k i j unit s g t accepted iu ik ig jt in
    ap option_to_list (e.1 ∙ sym e.2)))

first_places : (given es : List Stretch) → is_given_twice given es ≡ false → AreNew share_element (λ (e : Stretch). e) given es
first_places given [] e = tt
first_places given (x ∷ xs) e = let both = or_parts (list_any (share_element x) given) (is_given_twice (x ∷ given) xs) e in (both.0, first_places (x ∷ given) xs both.1)

-- two stretches with a common element share one
shares : (a b : Stretch) (x : Name) (n : ℕ) → IsWithin a x n → IsWithin b x n → share_element b a ≡ true
shares a b x n p q = λ i. names i && met b.first b.count a.first a.count n q.1 q.2 p.1 p.2 i where
  names : same_name b.name a.name ≡ true
  names = (λ i. same_name (q.0 i) (p.0 i)) ∙ same_name-self x

pub elements_are_given_once : ConstantsAgree → (program : Units) (u i j n : ℕ) (unit : List Statement) (a b : Stretch) (x : Name) → IsAccepted program → slice_get program u ≡ Some unit → slice_get (all_stretches unit) i ≡ Some a → slice_get (all_stretches unit) j ≡ Some b → IsWithin a x n → IsWithin b x n → i ≡ j
elements_are_given_once agrees program u i j n unit a b x accepted iu ia jb p q =
    let none = (none-append (wrong_groups_from unit [] unit) (given_twice_from unit [] [] unit) (unviolated program unit u accepted iu).assigned).1 in
    let once = once-from unit [] [] unit none (λ k s g. same_stretches agrees program u k unit s accepted iu g) in
    one_place share_element (λ (e : Stretch). e) (all_stretches unit) i j a b (first_places [] (all_stretches unit) once) (shares b a x n q p) (shares a b x n p q) ia jb
