-- Named constants of accepted programs.
use Rattle.std.proofs.Common.{◌≡◌, ◌⊎◌, inl, inr, ℕ, zero, suc, Bool, true, false, List, [], ◌∷◌, ◌++◌, map, Option, Some, None, Result, Ok, Err, refl, sym, ap, ◌∙◌, subst, ◌||◌, not, slice_get, if◌then◌else◌, is_some, ℤ, take, append-nil}
use Rattle.std.specs.List.{flat_map, list_all}
use Rattle.std.proofs.lemmas.Bool.{and_parts, not-true}
use Rattle.std.proofs.lemmas.Option.{none-some, same_Some}
use Rattle.hep_source.proofs.NameTests.{equal_names, same_name-self}
use Rattle.hep_machine.specs.Words.{is_among, same_name, Tree, Trees, constant, occurrence, with_list, parenthesized, signed, negated, binary, DataGroup, NamedConstant, Target, ValueType, Integer, Logical, Name, Operator, Arithmetic, Relational, Form, Statement, Value, Int, Truth, Units, as_value, combined_value}
use Rattle.hep_machine.specs.Words.{function_result, integer_of, integers_of, logical_of, negated_value, result_of, signed_result, signed_value, Constants, Values, by_meaning, constant_value, given_by, value_among, value_of, values_of, with_constant, with_one, with_two, without_fault, groups_in, constants_in}
use Rattle.hep_machine.specs.Words.{declarators_in, named_constants, type_of, Meaning, listed_meaning, pure, occurrences_in, occurrences_in_constant, occurrences_in_form}
use Rattle.hep_source.specs.declared.operator.Operator.TheVariants.{Logical as LogicalOperation}
use Rattle.hep_source.specs.declared.statement.Form.TheVariants as form
use Rattle.hep_machine.specs.declared.event.Kind.{Kind}
use Rattle.hep_conditions.specs.Words.{IsAccepted, function_types, no_functions, Parameters, has_value, has_value_or_is_open, is_constant_expression, is_constant_given, is_given, is_known, is_open, no_parameters, value_by, with_parameter, with_parameters, Keeps, subexpressions_of, trees_in_declarator, trees_in_form, KnownType, agree, is_typed, type_of_listed, type_of_operation, type_of_tree, type_of_value}
use Rattle.hep_accepted_laws.specs.PartlyEvaluated.{IsOf}
use Rattle.hep_accepted_laws.proofs.Executed.{same_types}
use Rattle.hep_accepted_laws.proofs.StatementForms.{constant_given, expressions_have_types, names_have_types, names_in, parameters_at, typed_statement}
use Rattle.hep_accepted_laws.proofs.Fixed.{pure_value, same_type_of}
use Rattle.hep_accepted_laws.proofs.NameMeanings.{constants_once}
use Rattle.hep_accepted_laws.proofs.Members.{Has, flat_has, has_behind, has_flat, has_front, has_map}
use Rattle.hep_source.proofs.Tests.{some_of}

-- what the law of constants says
abbrev pub ConstantsAgree : Type 0
ConstantsAgree =
    (program : Units) (unit before after : List Statement) (u : ℕ) → IsAccepted program → slice_get program u ≡ Some unit → unit ≡ before ++ after → Keeps (with_parameters unit no_parameters (named_constants before)) (given_by unit [] (named_constants before))

-- ---- names that have values keep them

among-append : (ks more : Constants) (y : Name) (v : Value) → value_among ks y ≡ Some v → value_among (ks ++ more) y ≡ Some v
among-append [] more y v e = absurd (none-some v e)
among-append (k ∷ ks) more y v e = by_test (same_name k.0 y) e (among-append ks more y v) where
  by_test : (b : Bool) → (if b then Some k.1 else value_among ks y) ≡ Some v → (value_among ks y ≡ Some v → value_among (ks ++ more) y ≡ Some v) → (if b then Some k.1 else value_among (ks ++ more) y) ≡ Some v
  by_test true f g = f
  by_test false f g = g f

pub kept_with : (ks : Constants) (x : Name) (o : Option Value) (y : Name) (v : Value) → value_among ks y ≡ Some v → value_among (with_constant ks x o) y ≡ Some v
kept_with ks x None y v e = e
kept_with ks x (Some w) y v e = among-append ks ((x, w) ∷ []) y v e

pub kept_by : (unit : List Statement) (ks : Constants) (cs : List NamedConstant) (y : Name) (v : Value) → value_among ks y ≡ Some v → value_among (given_by unit ks cs) y ≡ Some v
kept_by unit ks [] y v e = e
kept_by unit ks (c ∷ cs) y v e =
    kept_by unit (with_constant ks c.occurrence.name (value_of unit (value_among ks) c.value)) cs y v (kept_with ks c.occurrence.name (value_of unit (value_among ks) c.value) y v e)

-- a name that was just given a value has one
given_now : (ks : Constants) (x : Name) (w : Value) → is_some (value_among (ks ++ (x, w) ∷ []) x) ≡ true
given_now [] x w = ap (λ b. is_some (if b then Some w else None)) (same_name-self x)
given_now (k ∷ ks) x w = by_test (same_name k.0 x) (given_now ks x w) where
  by_test : (b : Bool) → is_some (value_among (ks ++ (x, w) ∷ []) x) ≡ true → is_some (if b then Some k.1 else value_among (ks ++ (x, w) ∷ []) x) ≡ true
  by_test true e = refl
  by_test false e = e

-- ---- where none is doubtful, each constant has a value

next : Bool → Bool → Parameters → Name → Option Value → Parameters
next g o ps x v = if g then ps else if o then record ps { known = with_constant ps.known x v } else record ps { doubtful = x ∷ ps.doubtful }

doubtless-next : (g o : Bool) (ps : Parameters) (x : Name) (v : Option Value) → (next g o ps x v).doubtful ≡ [] → ps.doubtful ≡ []
unfolding next
doubtless-next true o ps x v e = e
doubtless-next false true ps x v e = e
doubtless-next false false ps x v e = absurd cc

doubtless : (unit : List Statement) (ps : Parameters) (cs : List NamedConstant) → (with_parameters unit ps cs).doubtful ≡ [] → ps.doubtful ≡ []
unfolding next
doubtless unit ps [] e = e
doubtless unit ps (c ∷ cs) e =
    doubtless-next (is_given ps c.occurrence.name) (is_known unit ps c) ps c.occurrence.name (value_by unit ps c.value) (doubtless unit (with_parameter unit ps c) cs e)

stays-next : (g o : Bool) (ps : Parameters) (x : Name) (v : Option Value) (y : Name) → is_some (value_among ps.known y) ≡ true → is_some (value_among (next g o ps x v).known y) ≡ true
unfolding next
stays-next true o ps x v y e = e
stays-next false true ps x v y e =
    let w = some_of (value_among ps.known y) e in
    ap is_some (kept_with ps.known x v y w.0 w.1)
stays-next false false ps x v y e = e

stays : (unit : List Statement) (ps : Parameters) (cs : List NamedConstant) (y : Name) → is_some (value_among ps.known y) ≡ true → is_some (value_among (with_parameters unit ps cs).known y) ≡ true
unfolding next
stays unit ps [] y e = e
stays unit ps (c ∷ cs) y e =
    stays unit (with_parameter unit ps c) cs y (stays-next (is_given ps c.occurrence.name) (is_known unit ps c) ps c.occurrence.name (value_by unit ps c.value) y e)

-- a whole expression is the first of its parts
first_part : (t : Tree) → slice_get (subexpressions_of t) 0 ≡ Some t
first_part (constant v) = refl
first_part _ = refl

-- a whole expression is among its parts
pub whole_part : (unit : List Statement) (ps : Parameters) (t : Tree) → list_all (has_value_or_is_open unit ps) (subexpressions_of t) ≡ true → has_value_or_is_open unit ps t ≡ true
whole_part unit ps t e = by_first (subexpressions_of t) (first_part t) e where
  by_first : (ws : List Tree) → slice_get ws 0 ≡ Some t → list_all (has_value_or_is_open unit ps) ws ≡ true → has_value_or_is_open unit ps t ≡ true
  by_first [] f g = absurd (none-some t f)
  by_first (w ∷ ws) f g = subst (λ v. has_value_or_is_open unit ps v ≡ true) (same_Some w t f) (and_parts (has_value_or_is_open unit ps w) (list_all (has_value_or_is_open unit ps) ws) g).0

pub valued : (unit : List Statement) (ps : Parameters) (t : Tree) → is_open unit ps t ≡ false → has_value unit ps t ≡ true → is_some (value_by unit ps t) ≡ true
valued unit ps t shut e =
    subst (λ b. (b || is_some (value_by unit ps t)) ≡ true) shut (
    whole_part unit ps t (and_parts (is_constant_expression unit ps t) (list_all (has_value_or_is_open unit ps) (subexpressions_of t)) e).1)

known_valued : (unit : List Statement) (ps : Parameters) (c : NamedConstant) → is_known unit ps c ≡ true → is_some (value_by unit ps c.value) ≡ true
known_valued unit ps c e =
    let both = and_parts (not (is_open unit ps c.value)) (is_constant_given unit ps c) e in
    let given = and_parts (is_typed no_functions unit c.value) _ both.1 in
    valued unit ps c.value (not-true (is_open unit ps c.value) both.0) (and_parts (has_value unit ps c.value) _ given.1).0

has-next : (g o : Bool) (ps : Parameters) (x : Name) (v : Option Value) → is_given ps x ≡ g → (o ≡ true → is_some v ≡ true) → (next g o ps x v).doubtful ≡ [] → is_some (value_among (next g o ps x v).known x) ≡ true
unfolding next
has-next true o ps x v is h e =
    subst (λ ds. (is_among x ds || is_some (value_among ps.known x)) ≡ true) e is
has-next false true ps x v is h e = let w = some_of v (h refl) in subst (λ o. is_some (value_among (with_constant ps.known x o) x) ≡ true) (sym w.1) (given_now ps.known x w.0)
has-next false false ps x v is h e = absurd cc

has_known : (unit : List Statement) (ps : Parameters) (cs : List NamedConstant) (i : ℕ) (c : NamedConstant) → (with_parameters unit ps cs).doubtful ≡ [] → slice_get cs i ≡ Some c → is_some (value_among (with_parameters unit ps cs).known c.occurrence.name) ≡ true
unfolding next
has_known unit ps [] i c e g = absurd (none-some c g)
has_known unit ps (d ∷ ds) zero c e g =
    let now = has-next (is_given ps d.occurrence.name) (is_known unit ps d) ps d.occurrence.name (value_by unit ps d.value) refl (known_valued unit ps d) (doubtless unit (with_parameter unit ps d) ds e) in
    subst (λ (b : NamedConstant). is_some (value_among (with_parameters unit (with_parameter unit ps d) ds).known b.occurrence.name) ≡ true) (same_Some d c g) (stays unit (with_parameter unit ps d) ds d.occurrence.name now)
has_known unit ps (d ∷ ds) (suc i) c e g = has_known unit (with_parameter unit ps d) ds i c e g

pub constant_there : ConstantsAgree → (program : Units) (u i : ℕ) (unit : List Statement) (c : NamedConstant) → IsAccepted program → slice_get program u ≡ Some unit → slice_get (named_constants unit) i ≡ Some c → (v : Value) × (constant_value unit c.occurrence.name ≡ Some v)
constant_there agrees program u i unit c accepted iu ic =
    let k = agrees program unit unit [] u accepted iu (sym (append-nil unit)) in
    some_of (constant_value unit c.occurrence.name) (sym (ap is_some (k.1 c.occurrence.name)) ∙ has_known unit no_parameters (named_constants unit) i c k.0 ic)

-- ---- types of values

abbrev pub AreValuesTyped : List Statement → Values → Type 0
AreValuesTyped unit values = (x : Name) (v : Value) → values x ≡ Some v → type_of unit x ≡ Some (type_of_value v)

integer_there : (r : Result ℤ Kind) (v : Value) → without_fault (as_value r) ≡ Some v → type_of_value v ≡ Integer
integer_there (Ok z) v e = sym (ap type_of_value (same_Some (Int z) v e))
integer_there (Err k) v e = absurd (none-some v e)

one_value : (f : Value → Result Value Kind) (t : ValueType) (o : Option Value) (v : Value) → ((w x : Value) → without_fault (f w) ≡ Some x → type_of_value x ≡ t) → with_one f o ≡ Some v → type_of_value v ≡ t
one_value f t None v h e = absurd (none-some v e)
one_value f t (Some w) v h e = h w v e

two_values : (f : Value → Value → Result Value Kind) (t : ValueType) (o p : Option Value) (v : Value) → ((w x y : Value) → without_fault (f w x) ≡ Some y → type_of_value y ≡ t) → with_two f o p ≡ Some v → type_of_value v ≡ t
two_values f t None p v h e = absurd (none-some v e)
two_values f t (Some w) None v h e = absurd (none-some v e)
two_values f t (Some w) (Some x) v h e = h w x v e

combined_typed : (o : Operator) (w x y : Value) → without_fault (combined_value o w x) ≡ Some y → type_of_value y ≡ type_of_operation o
combined_typed (Arithmetic o) w x y e = integer_there (result_of o (integer_of w) (integer_of x)) y e
combined_typed (Relational o) w x y e = sym (ap type_of_value (same_Some _ y e))
combined_typed (LogicalOperation o) w x y e = sym (ap type_of_value (same_Some _ y e))

listed_value : (unit : List Statement) (m : Meaning) (x : Name) (ts : Trees) (o : Option (List Value)) (v : Value) → by_meaning m o ≡ Some v → type_of_listed no_functions unit m x ts ≡ Some (Some (type_of_value v))
listed_value unit (pure f) x ts (Some vs) v e = ap (λ t. Some (Some t)) (sym (integer_there (function_result f (integers_of vs)) v e))
listed_value unit _ x ts _ v e = absurd (none-some v e)

-- the value of an expression is of the type that the expression has
pub value_typed : (unit : List Statement) (values : Values) (e : Tree) (v : Value) → AreValuesTyped unit values → value_of unit values e ≡ Some v → type_of_tree no_functions unit e ≡ Some (Some (type_of_value v))
value_typed unit values (constant w) v h e = ap (λ x. Some (Some (type_of_value x))) (same_Some w v e)
value_typed unit values (occurrence p) v h e = ap (λ o. Some o) (h p.name v e)
value_typed unit values (with_list p ts) v h e = listed_value unit (listed_meaning unit p.name) p.name ts (values_of unit values ts) v e
value_typed unit values (parenthesized t) v h e = value_typed unit values t v h e
value_typed unit values (signed s t) v h e =
    ap (λ t. Some (Some t)) (sym (one_value (signed_value s) Integer (value_of unit values t) v (λ w x. integer_there (signed_result s (integer_of w)) x) e))
value_typed unit values (negated t) v h e =
    ap (λ t. Some (Some t)) (sym (one_value negated_value Logical (value_of unit values t) v (λ w x g. sym (ap type_of_value (same_Some (Truth (not (logical_of w))) x g))) e))
value_typed unit values (binary o a b) v h e =
    ap (λ t. Some (Some t)) (sym (two_values (combined_value o) (type_of_operation o) (value_of unit values a) (value_of unit values b) v (combined_typed o) e))

-- ---- the constants of a unit are typed

among-new : (ks : Constants) (x : Name) (w : Value) (y : Name) (v : Value) → value_among (ks ++ (x, w) ∷ []) y ≡ Some v → (value_among ks y ≡ Some v) ⊎ ((x ≡ y) × (w ≡ v))
among-new [] x w y v e = by_test (same_name x y) refl e where
  by_test : (b : Bool) → same_name x y ≡ b → (if b then Some w else None) ≡ Some v → (value_among [] y ≡ Some v) ⊎ ((x ≡ y) × (w ≡ v))
  by_test true f g = inr (equal_names x y f, same_Some w v g)
  by_test false f g = absurd (none-some v g)
among-new (k ∷ ks) x w y v e = by_test (same_name k.0 y) e (among-new ks x w y v) where
  by_test : (b : Bool) → (if b then Some k.1 else value_among (ks ++ (x, w) ∷ []) y) ≡ Some v → (value_among (ks ++ (x, w) ∷ []) y ≡ Some v → (value_among ks y ≡ Some v) ⊎ ((x ≡ y) × (w ≡ v)))
      → ((if b then Some k.1 else value_among ks y) ≡ Some v) ⊎ ((x ≡ y) × (w ≡ v))
  by_test true f g = inl f
  by_test false f g = g f

typed_with : (unit : List Statement) (ks : Constants) (x : Name) (o : Option Value) → AreValuesTyped unit (value_among ks) → ((v : Value) → o ≡ Some v → type_of unit x ≡ Some (type_of_value v)) → AreValuesTyped unit (value_among (with_constant ks x o))
typed_with unit ks x None h new y v e = h y v e
typed_with unit ks x (Some w) h new y v e = by_place (among-new ks x w y v e) where
  by_place : (value_among ks y ≡ Some v) ⊎ ((x ≡ y) × (w ≡ v)) → type_of unit y ≡ Some (type_of_value v)
  by_place (inl f) = h y v f
  by_place (inr f) = sym (ap (type_of unit) f.0) ∙ (new w refl ∙ ap (λ z. Some (type_of_value z)) f.1)

-- a constant's name and its expression are of one type
abbrev pub IsOneType : List Statement → NamedConstant → Type 0
IsOneType unit c = (t : ValueType) × (type_of unit c.occurrence.name ≡ Some t) × IsOf no_functions unit t c.value

pub typed_by : (unit : List Statement) (ks : Constants) (cs : List NamedConstant) → AreValuesTyped unit (value_among ks) → ((i : ℕ) (c : NamedConstant) → slice_get cs i ≡ Some c → IsOneType unit c) → AreValuesTyped unit (value_among (given_by unit ks cs))
typed_by unit ks [] h each = h
typed_by unit ks (c ∷ cs) h each =
    let one = each 0 c refl in
    typed_by unit (with_constant ks c.occurrence.name (value_of unit (value_among ks) c.value)) cs (
    typed_with unit ks c.occurrence.name (value_of unit (value_among ks) c.value) h (λ v e. one.1 ∙ same_known one.0 (type_of_value v) (sym one.2 ∙ value_typed unit (value_among ks) c.value v h e))) (λ i. each (suc i)) where
      same_known : (t w : ValueType) → ◌≡◌ {A = KnownType} (Some (Some t)) (Some (Some w)) → ◌≡◌ {A = Option ValueType} (Some t) (Some w)
      same_known t w e = same_Some (Some t) (Some w) e

-- where a constant stands
constant_has : (f : Form) (c : NamedConstant) (unit : List Statement) → Has (constants_in f) c → Has (occurrences_in_form unit f) c.occurrence
constant_has (form.Parameter cs) c unit h = has_flat (occurrences_in_constant unit) cs c c.occurrence h (0, refl)
constant_has _ c unit h = absurd (none-some c h.1)

pub one_type : (program : Units) (u i : ℕ) (unit : List Statement) (c : NamedConstant) → IsAccepted program → slice_get program u ≡ Some unit → slice_get (named_constants unit) i ≡ Some c → IsOneType unit c
one_type program u i unit c accepted iu ic =
    let s = flat_has (λ (w : Statement). constants_in w.form) unit c (i, ic) in
    let k = (s.1).0 in
    let typed = typed_statement program u k unit s.0 accepted iu (s.1).1 in
    let given = constant_given unit (parameters_at unit k) (constants_in s.0.form) (s.2).0 c typed.constants (s.2).1 in
    let p1 = and_parts (is_typed no_functions unit c.value) _ given in
    let p2 = and_parts _ (agree (Some (type_of unit c.occurrence.name)) (type_of_tree no_functions unit c.value)) p1.1 in
    let o = has_behind (flat_map (occurrences_in unit) s.0.conditions) (occurrences_in_form unit s.0.form) c.occurrence (constant_has s.0.form c unit s.2) in
    let t = names_have_types program u k o.0 unit s.0 c.occurrence accepted iu (s.1).1 o.1 in
    let place = has_behind s.0.conditions _ c.value (has_behind (flat_map trees_in_declarator (declarators_in s.0.form)) _ c.value (has_front (map (λ (d : NamedConstant). d.value) (constants_in s.0.form)) (flat_map (λ (g : DataGroup). flat_map (λ (t : Target). t.subscripts) g.targets) (groups_in s.0.form) ++ trees_in_form s.0.form) c.value (has_map (λ (d : NamedConstant). d.value) (constants_in s.0.form) c s.2))) in
    let w = expressions_have_types program u k place.0 0 unit s.0 c.value c.value accepted iu (s.1).1 place.1 (first_part c.value) in
    let fixed = pure_value unit _ c.value (and_parts (has_value unit _ c.value) _ p1.1).0 in
    let known = same_type_of (function_types program) unit c.value (names_in program u k unit s.0 c.value accepted iu (s.1).1 place) fixed ∙ w.1 in
    let same = same_types t.0 w.0 (Some (type_of unit c.occurrence.name)) (type_of_tree no_functions unit c.value) (ap (λ o. Some o) t.1) known p2.1 in
    (t.0, t.1, subst (λ (z : ValueType). IsOf no_functions unit z c.value) {x = w.0} same known)

-- one of these constants gives a name this value, by the constants before it
abbrev IsGivenAt : List Statement → Constants → List NamedConstant → Name → Value → Type 0
IsGivenAt unit ks cs x v =
    (j : ℕ) × (c : NamedConstant) × (slice_get cs j ≡ Some c) × (c.occurrence.name ≡ x) × (value_of unit (value_among (given_by unit ks (take j cs))) c.value ≡ Some v)

-- a value comes from a constant, or was there before
source : (unit : List Statement) (ks : Constants) (cs : List NamedConstant) (x : Name) (v : Value) → value_among (given_by unit ks cs) x ≡ Some v → (value_among ks x ≡ Some v) ⊎ IsGivenAt unit ks cs x v
source unit ks [] x v e = inl e
source unit ks (c ∷ cs) x v e = by_place (value_of unit (value_among ks) c.value) refl (source unit (with_constant ks c.occurrence.name (value_of unit (value_among ks) c.value)) cs x v e) where
  now : (o : Option Value) → value_of unit (value_among ks) c.value ≡ o → value_among (with_constant ks c.occurrence.name o) x ≡ Some v → (value_among ks x ≡ Some v) ⊎ IsGivenAt unit ks (c ∷ cs) x v
  now None f g = inl g
  now (Some w) f g = by_new (among-new ks c.occurrence.name w x v g) where
    by_new : (value_among ks x ≡ Some v) ⊎ ((c.occurrence.name ≡ x) × (w ≡ v)) → (value_among ks x ≡ Some v) ⊎ IsGivenAt unit ks (c ∷ cs) x v
    by_new (inl h) = inl h
    by_new (inr h) = inr (0, c, refl, h.0, f ∙ ap (λ z. Some z) h.1)

  by_place : (o : Option Value) → value_of unit (value_among ks) c.value ≡ o → (value_among (with_constant ks c.occurrence.name (value_of unit (value_among ks) c.value)) x ≡ Some v) ⊎ IsGivenAt unit (with_constant ks c.occurrence.name (value_of unit (value_among ks) c.value)) cs x v
      → (value_among ks x ≡ Some v) ⊎ IsGivenAt unit ks (c ∷ cs) x v
  by_place o f (inl g) = now (value_of unit (value_among ks) c.value) refl g
  by_place o f (inr g) = inr (suc g.0, g.1, g.2, g.3, g.4)

pub constant_from : (program : Units) (u i : ℕ) (unit : List Statement) (c : NamedConstant) (v : Value) → IsAccepted program → slice_get program u ≡ Some unit → slice_get (named_constants unit) i ≡ Some c → constant_value unit c.occurrence.name ≡ Some v → value_of unit (value_among (given_by unit [] (take i (named_constants unit)))) c.value ≡ Some v
constant_from program u i unit c v accepted iu ic e = by_source (source unit [] (named_constants unit) c.occurrence.name v e) where
  by_source : (value_among [] c.occurrence.name ≡ Some v) ⊎ IsGivenAt unit [] (named_constants unit) c.occurrence.name v → value_of unit (value_among (given_by unit [] (take i (named_constants unit)))) c.value ≡ Some v
  by_source (inl f) = absurd (none-some v f)
  by_source (inr f) =
      let same = constants_once program u f.0 i unit f.1 c accepted iu f.2 ic f.3 in
      let one : f.1 ≡ c = same_Some f.1 c (sym f.2 ∙ (ap (slice_get (named_constants unit)) same ∙ ic)) in
      (λ n. value_of unit (value_among (given_by unit [] (take (sym same n) (named_constants unit)))) (sym one n).value) ∙ f.4
