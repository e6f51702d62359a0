-- Types of expressions whose names are typed, whose lists are right, and whose operands pass the tests of types.
use Rattle.std.proofs.Common.{◌≡◌, ℕ, Bool, true, false, List, [], ◌∷◌, ◌++◌, length, Option, Some, None, refl, sym, ap, ◌∙◌, subst, true≢false, ◌&&◌, ◌||◌, not, slice_get, if◌then◌else◌, is_some}
use Rattle.std.specs.List.{list_all}
use Rattle.std.proofs.lemmas.Bool.{and_from, and_parts, eqb-true, not-true}
use Rattle.hep_machine.specs.Words.{Tree, Trees, constant, occurrence, with_list, parenthesized, signed, negated, binary, no_trees, trees, ValueType, Integer, Logical, spelling, PureFunction, StateFunction, IsFull, IsEmpty, Name, Occurrence, Statement, dimensions_of, is_array, type_of, Meaning, by_pure_function, element, function_named, listed_meaning, pure, pure_functions, state, state_functions, external, is_external, word_in, array_occurrence, occurrences_in, occurrences_in_all}
use Rattle.hep_conditions.specs.Words.{actual_class, given_with_list, is_asynchronous_scalar, is_reference_given, is_test_typed, count_of, is_counted, takes_list, FunctionTypes, is_function_in, type_of_name, NameWithList, names_with_lists_in, names_with_lists_in_all, subexpressions_of, subexpressions_of_all, KnownType, are_actuals, are_integers, has_dimensions, is_list_typed, is_of, is_typed, same_declared, type_of_listed, type_of_operands, type_of_operation, type_of_test, type_of_tested, type_of_tree, type_of_value}
use Rattle.hep_accepted_laws.specs.Agreement.{IsOneAsynchronousScalar}
use Rattle.hep_accepted_laws.specs.PartlyEvaluated.{AreAllOf, AreSubscripts, HasOperands, HasType, IsListOf, IsOf}
use Rattle.hep_accepted_laws.proofs.Agreed.{one_tested}
use Rattle.hep_accepted_laws.proofs.Members.{Each, each_append, each_none, each_one}
use Rattle.hep_conditions.proofs.Agreeing.{all-parts}
use Rattle.hep_source.proofs.Tests.{some_of}
use Rattle.hep_conditions.proofs.Typing.{equal_types}

-- ---- what the conditions say of an expression

abbrev pub is_name_typed : FunctionTypes → List Statement → Occurrence → Bool
is_name_typed functions unit p = is_some (type_of unit p.name) && not (is_function_in functions unit p.name)

-- the type of a name that stands by itself
named_type : (functions : FunctionTypes) (unit : List Statement) (p : Occurrence) → is_name_typed functions unit p ≡ true → (t : ValueType) × (type_of unit p.name ≡ Some t)
named_type functions unit p e = some_of (type_of unit p.name) (and_parts (is_some (type_of unit p.name)) (not (is_function_in functions unit p.name)) e).0

pub named_known : (functions : FunctionTypes) (unit : List Statement) (p : Occurrence) → is_name_typed functions unit p ≡ true → (t : ValueType) × (type_of_name functions unit p.name ≡ Some (Some t))
named_known functions unit p e =
    let parts = and_parts (is_some (type_of unit p.name)) (not (is_function_in functions unit p.name)) e in
    let t = some_of (type_of unit p.name) parts.0 in
    let known : type_of_name functions unit p.name ≡ Some (type_of unit p.name) = ap (λ (b : Bool). if b then None else Some (type_of unit p.name)) (not-true (is_function_in functions unit p.name) parts.1) in
    (t.0, known ∙ ap (λ o. Some o) t.1)

-- an integer or logical function
abbrev pub has_known_type : KnownType → Bool
has_known_type (Some (Some t)) = true
has_known_type _ = false

known_type : (a : KnownType) → has_known_type a ≡ true → (t : ValueType) × (a ≡ Some (Some t))
known_type None e = absurd (true≢false (sym e))
known_type (Some None) e = absurd (true≢false (sym e))
known_type (Some (Some t)) e = (t, refl)

-- what a list stands behind is an array, a function of the language, or an integer or logical one of the program
abbrev pub is_known : FunctionTypes → Meaning → Name → Bool
is_known functions m x = not (is_external m) || has_known_type (functions x)

-- a name with a list that passes 303, 304 and 310
abbrev pub is_right : FunctionTypes → List Statement → NameWithList → Bool
is_right functions unit r = is_known functions (listed_meaning unit r.occurrence.name) r.occurrence.name && (is_counted unit r && is_reference_given functions unit r)

abbrev pub AreNamesTyped : FunctionTypes → List Statement → List Occurrence → Type 0
AreNamesTyped functions unit ps = list_all (is_name_typed functions unit) ps ≡ true

abbrev pub AreRight : FunctionTypes → List Statement → List NameWithList → Type 0
AreRight functions unit rs = list_all (is_right functions unit) rs ≡ true

-- an expression that passes the test of types, or a name by itself
abbrev pub is_actual : FunctionTypes → List Statement → Tree → Bool
is_actual functions unit (occurrence p) = true
is_actual functions unit t = is_typed functions unit t

-- ---- types

-- an element is one of an array
never_element : (o : Option PureFunction) (p : Option StateFunction) → by_pure_function o p ≡ element → ⊥
never_element (Some f) p e = cc
never_element None (Some f) e = cc
never_element None None e = cc

pub is_element : (unit : List Statement) (x : Name) → listed_meaning unit x ≡ element → is_array unit x ≡ true
is_element unit x e = by_test (is_array unit x) e where
  by_test : (b : Bool) → (if b then element else function_named x) ≡ element → b ≡ true
  by_test true f = refl
  by_test false f = absurd (never_element (word_in pure_functions (spelling x)) (word_in state_functions (spelling x)) f)

element_named : (functions : FunctionTypes) (unit : List Statement) (p : Occurrence) (ps : List Occurrence) → listed_meaning unit p.name ≡ element → AreNamesTyped functions unit (array_occurrence unit p ++ ps) → (t : ValueType) × (type_of unit p.name ≡ Some t)
element_named functions unit p ps e names =
    let one : AreNamesTyped functions unit (p ∷ []) = subst (λ b. AreNamesTyped functions unit (if b then p ∷ [] else [])) (is_element unit p.name e) (all-parts (is_name_typed functions unit) (array_occurrence unit p) ps names).0 in
    named_type functions unit p (and_parts (is_name_typed functions unit p) true one).0

-- what is tested has the type of its name
async_element : (functions : FunctionTypes) (unit : List Statement) (m : Meaning) (x : Name) (t : KnownType) → is_asynchronous_scalar functions (given_with_list functions unit m x t) ≡ true → m ≡ element
async_element functions unit element x t e = refl
async_element functions unit external x None e = absurd (true≢false (sym e))
async_element functions unit external x (Some t) e = absurd (true≢false (sym e))
async_element functions unit _ x t e = absurd (true≢false (sym e))

tested_type : (functions : FunctionTypes) (unit : List Statement) (t : Tree) → AreNamesTyped functions unit (occurrences_in unit t) → is_asynchronous_scalar functions (actual_class functions unit t) ≡ true → (v : ValueType) × (type_of_tested functions unit (trees t no_trees) ≡ Some (Some v))
tested_type functions unit (occurrence p) names e =
    named_known functions unit p (and_parts (is_name_typed functions unit p) true names).0
tested_type functions unit (with_list p us) names e =
    let means = async_element functions unit (listed_meaning unit p.name) p.name (type_of_tree functions unit (with_list p us)) e in
    let t = element_named functions unit p (occurrences_in_all unit us) means names in
    (t.0, ap (λ b. if b then Some (type_of unit p.name) else None) (is_element unit p.name means) ∙ ap (λ o. Some o) t.1)
tested_type functions unit _ names e = absurd (true≢false (sym e))

test_type : (functions : FunctionTypes) (unit : List Statement) (f : StateFunction) (ts : Trees) → AreNamesTyped functions unit (occurrences_in_all unit ts) → IsOneAsynchronousScalar functions unit ts → (v : ValueType) × (type_of_test functions unit f ts ≡ Some (Some v))
test_type functions unit IsFull ts names one = (Logical, refl)
test_type functions unit IsEmpty ts names one = (Logical, refl)
test_type functions unit _ ts names one =
    let inner : AreNamesTyped functions unit (occurrences_in_all unit (trees one.0 no_trees)) = subst (λ us. AreNamesTyped functions unit (occurrences_in_all unit us)) one.1 names in
    let t = tested_type functions unit one.0 (all-parts (is_name_typed functions unit) (occurrences_in unit one.0) [] inner).0 one.2 in
    (t.0, ap (type_of_tested functions unit) one.1 ∙ t.1)

right_parts : (functions : FunctionTypes) (unit : List Statement) (p : Occurrence) (ts : Trees) (m : Meaning) → listed_meaning unit p.name ≡ m → is_right functions unit (record { occurrence = p; arguments = ts }) ≡ true
    → (is_known functions m p.name ≡ true) × (takes_list m (count_of ts) ≡ true) × (is_test_typed functions unit m ts ≡ true)
right_parts functions unit p ts m e right =
    let r : NameWithList = record { occurrence = p; arguments = ts } in
    let known = and_parts (is_known functions (listed_meaning unit p.name) p.name) (is_counted unit r && is_reference_given functions unit r) right in
    let rest = and_parts (is_counted unit r) (is_reference_given functions unit r) known.1 in
    (subst (λ n. is_known functions n p.name ≡ true) e known.0, subst (λ n. takes_list n (count_of ts) ≡ true) e rest.0, subst (λ n. is_test_typed functions unit n ts ≡ true) e rest.1)

listed_type : (functions : FunctionTypes) (unit : List Statement) (p : Occurrence) (ts : Trees) (m : Meaning) → listed_meaning unit p.name ≡ m → AreNamesTyped functions unit (array_occurrence unit p ++ occurrences_in_all unit ts) → is_right functions unit (record { occurrence = p; arguments = ts }) ≡ true
    → (t : ValueType) × (type_of_listed functions unit m p.name ts ≡ Some (Some t))
listed_type functions unit p ts element e names right = let t = element_named functions unit p (occurrences_in_all unit ts) e names in (t.0, ap (λ o. Some o) t.1)
listed_type functions unit p ts (pure f) e names right = (Integer, refl)
listed_type functions unit p ts (state f) e names right =
    let parts = right_parts functions unit p ts (state f) e right in
    test_type functions unit f ts (all-parts (is_name_typed functions unit) (array_occurrence unit p) (occurrences_in_all unit ts) names).1 (one_tested functions unit ts parts.1 parts.2)
listed_type functions unit p ts external e names right = known_type (functions p.name) (right_parts functions unit p ts external e right).0

pub has_type : (functions : FunctionTypes) (unit : List Statement) (e : Tree) → AreNamesTyped functions unit (occurrences_in unit e) → AreRight functions unit (names_with_lists_in e) → HasType functions unit e
has_type functions unit (constant v) names right = (type_of_value v, refl)
has_type functions unit (occurrence p) names right =
    named_known functions unit p (and_parts (is_name_typed functions unit p) true names).0
has_type functions unit (with_list p ts) names right =
    listed_type functions unit p ts (listed_meaning unit p.name) refl names (and_parts (is_right functions unit (record { occurrence = p; arguments = ts })) (list_all (is_right functions unit) (names_with_lists_in_all ts)) right).0
has_type functions unit (parenthesized t) names right = has_type functions unit t names right
has_type functions unit (signed s t) names right = (Integer, refl)
has_type functions unit (negated t) names right = (Logical, refl)
has_type functions unit (binary o a b) names right = (type_of_operation o, refl)

-- ---- operands

pub declared_type : (o : Option ValueType) (t : ValueType) → same_declared o (Some t) ≡ true → o ≡ Some t
declared_type None t e = absurd (true≢false (sym e))
declared_type (Some u) t e = ap (λ w. Some w) (equal_types u t e)

-- a type that is known and isn't another one
pub of_type : (t : ValueType) (a : KnownType) → (u : ValueType) × (a ≡ Some (Some u)) → is_of t a ≡ true → a ≡ Some (Some t)
of_type t a known e = known.1 ∙ ap (λ v. Some (Some v)) (equal_types known.0 t (subst (λ b. is_of t b ≡ true) known.1 e))

-- an expression that passes the test of this type
pub is_of_type : (functions : FunctionTypes) (unit : List Statement) (t : ValueType) (e : Tree) → AreNamesTyped functions unit (occurrences_in unit e) → AreRight functions unit (names_with_lists_in e) → is_of t (type_of_tree functions unit e) ≡ true → IsOf functions unit t e
is_of_type functions unit t e names right test = of_type t (type_of_tree functions unit e) (has_type functions unit e names right) test

all_integers : (functions : FunctionTypes) (unit : List Statement) (ts : Trees) → AreNamesTyped functions unit (occurrences_in_all unit ts) → AreRight functions unit (names_with_lists_in_all ts) → are_integers functions unit ts ≡ true → AreAllOf functions unit Integer ts
all_integers functions unit no_trees names right e = tt
all_integers functions unit (trees t ts) names right e =
    let n = all-parts (is_name_typed functions unit) (occurrences_in unit t) (occurrences_in_all unit ts) names in
    let r = all-parts (is_right functions unit) (names_with_lists_in t) (names_with_lists_in_all ts) right in
    let here = and_parts (is_typed functions unit t && is_of Integer (type_of_tree functions unit t)) (are_integers functions unit ts) e in
    (is_of_type functions unit Integer t n.0 r.0 (and_parts (is_typed functions unit t) (is_of Integer (type_of_tree functions unit t)) here.0).1, all_integers functions unit ts n.1 r.1 here.1)

pub are_subscripts : (functions : FunctionTypes) (unit : List Statement) (x : Name) (ts : Trees) → AreNamesTyped functions unit (occurrences_in_all unit ts) → AreRight functions unit (names_with_lists_in_all ts) → (has_dimensions unit x ts && are_integers functions unit ts) ≡ true → AreSubscripts functions unit x ts
are_subscripts functions unit x ts names right e =
    let both = and_parts (has_dimensions unit x ts) (are_integers functions unit ts) e in
    (eqb-true (count_of ts) (length (dimensions_of unit x)) both.0, all_integers functions unit ts names right both.1)

list_operands : (functions : FunctionTypes) (unit : List Statement) (p : Occurrence) (ts : Trees) (m : Meaning) → listed_meaning unit p.name ≡ m → AreNamesTyped functions unit (occurrences_in_all unit ts) → AreRight functions unit (names_with_lists_in_all ts) → is_right functions unit (record { occurrence = p; arguments = ts }) ≡ true
    → is_list_typed unit m p.name ts (are_integers functions unit ts) (are_actuals functions unit ts) ≡ true → IsListOf functions unit m p.name ts
list_operands functions unit p ts element e names right here test = are_subscripts functions unit p.name ts names right test
list_operands functions unit p ts (pure f) e names right here test = all_integers functions unit ts names right test
list_operands functions unit p ts (state f) e names right here test = let parts = right_parts functions unit p ts (state f) e here in one_tested functions unit ts parts.1 parts.2
list_operands functions unit p ts external e names right here test = known_type (functions p.name) (right_parts functions unit p ts external e here).0

has_operands : (functions : FunctionTypes) (unit : List Statement) (e : Tree) → AreNamesTyped functions unit (occurrences_in unit e) → AreRight functions unit (names_with_lists_in e) → is_actual functions unit e ≡ true → HasOperands functions unit e
has_operands functions unit (constant v) names right e = tt
has_operands functions unit (occurrence p) names right e = tt
has_operands functions unit (with_list p ts) names right e =
    let r = and_parts (is_right functions unit (record { occurrence = p; arguments = ts })) (list_all (is_right functions unit) (names_with_lists_in_all ts)) right in
    list_operands functions unit p ts (listed_meaning unit p.name) refl (all-parts (is_name_typed functions unit) (array_occurrence unit p) (occurrences_in_all unit ts) names).1 r.1 r.0 e
has_operands functions unit (parenthesized t) names right e = tt
has_operands functions unit (signed s t) names right e = is_of_type functions unit Integer t names right (and_parts (is_typed functions unit t) (is_of Integer (type_of_tree functions unit t)) e).1
has_operands functions unit (negated t) names right e = is_of_type functions unit Logical t names right (and_parts (is_typed functions unit t) (is_of Logical (type_of_tree functions unit t)) e).1
has_operands functions unit (binary o a b) names right e =
    let n = all-parts (is_name_typed functions unit) (occurrences_in unit a) (occurrences_in unit b) names in
    let r = all-parts (is_right functions unit) (names_with_lists_in a) (names_with_lists_in b) right in
    let w = type_of_operands o in
    let both = and_parts (is_typed functions unit a && is_of w (type_of_tree functions unit a)) (is_typed functions unit b && is_of w (type_of_tree functions unit b)) e in
    (is_of_type functions unit (type_of_operands o) a n.0 r.0 (and_parts (is_typed functions unit a) (is_of w (type_of_tree functions unit a)) both.0).1, is_of_type functions unit (type_of_operands o) b n.1 r.1 (and_parts (is_typed functions unit b) (is_of w (type_of_tree functions unit b)) both.1).1)

-- ---- each expression that an expression is made of

abbrev pub IsGood : FunctionTypes → List Statement → Tree → Type 0
IsGood functions unit t = HasType functions unit t × HasOperands functions unit t

abbrev AreGood : FunctionTypes → List Statement → List Tree → Type 0
AreGood functions unit ts = Each (IsGood functions unit) ts

pub typed_actual : (functions : FunctionTypes) (unit : List Statement) (t : Tree) → is_typed functions unit t ≡ true → is_actual functions unit t ≡ true
typed_actual functions unit (occurrence p) e = refl
typed_actual functions unit _ e = e

pub actuals_parts : (functions : FunctionTypes) (unit : List Statement) (t : Tree) (ts : Trees) → are_actuals functions unit (trees t ts) ≡ true → (is_actual functions unit t ≡ true) × (are_actuals functions unit ts ≡ true)
actuals_parts functions unit (occurrence p) ts e = (refl, e)
actuals_parts functions unit t ts e = and_parts (is_typed functions unit t) (are_actuals functions unit ts) e

actuals_from : (functions : FunctionTypes) (unit : List Statement) (t : Tree) (ts : Trees) → is_typed functions unit t ≡ true → are_actuals functions unit ts ≡ true → are_actuals functions unit (trees t ts) ≡ true
actuals_from functions unit (occurrence p) ts e f = f
actuals_from functions unit t ts e f = and_from (is_typed functions unit t) (are_actuals functions unit ts) e f

pub integers_actuals : (functions : FunctionTypes) (unit : List Statement) (ts : Trees) → are_integers functions unit ts ≡ true → are_actuals functions unit ts ≡ true
integers_actuals functions unit no_trees e = refl
integers_actuals functions unit (trees t ts) e =
    let here = and_parts (is_typed functions unit t && is_of Integer (type_of_tree functions unit t)) (are_integers functions unit ts) e in
    actuals_from functions unit t ts (and_parts (is_typed functions unit t) (is_of Integer (type_of_tree functions unit t)) here.0).0 (integers_actuals functions unit ts here.1)

pub list_actuals : (functions : FunctionTypes) (unit : List Statement) (m : Meaning) (x : Name) (ts : Trees) → is_list_typed unit m x ts (are_integers functions unit ts) (are_actuals functions unit ts) ≡ true → are_actuals functions unit ts ≡ true
list_actuals functions unit element x ts e = integers_actuals functions unit ts (and_parts (has_dimensions unit x ts) (are_integers functions unit ts) e).1
list_actuals functions unit (pure f) x ts e = integers_actuals functions unit ts e
list_actuals functions unit (state f) x ts e = e
list_actuals functions unit external x ts e = e

mutual
  good : (functions : FunctionTypes) (unit : List Statement) (e : Tree) → AreNamesTyped functions unit (occurrences_in unit e) → AreRight functions unit (names_with_lists_in e) → is_actual functions unit e ≡ true → AreGood functions unit (subexpressions_of e)
  good functions unit (constant v) names right e = each_one (constant v) (has_type functions unit (constant v) names right, tt)
  good functions unit (occurrence p) names right e = each_one (occurrence p) (has_type functions unit (occurrence p) names right, tt)
  good functions unit (with_list p ts) names right e =
      let n = all-parts (is_name_typed functions unit) (array_occurrence unit p) (occurrences_in_all unit ts) names in
      let r = and_parts (is_right functions unit (record { occurrence = p; arguments = ts })) (list_all (is_right functions unit) (names_with_lists_in_all ts)) right in
      each_append (each_one (with_list p ts) (has_type functions unit (with_list p ts) names right, has_operands functions unit (with_list p ts) names right e)) (good_all functions unit ts n.1 r.1 (list_actuals functions unit (listed_meaning unit p.name) p.name ts e))
  good functions unit (parenthesized t) names right e = each_append (each_one (parenthesized t) (has_type functions unit (parenthesized t) names right, tt)) (good functions unit t names right (typed_actual functions unit t e))
  good functions unit (signed s t) names right e =
      each_append (each_one (signed s t) (has_type functions unit (signed s t) names right, has_operands functions unit (signed s t) names right e)) (good functions unit t names right (typed_actual functions unit t (and_parts (is_typed functions unit t) (is_of Integer (type_of_tree functions unit t)) e).0))
  good functions unit (negated t) names right e =
      each_append (each_one (negated t) (has_type functions unit (negated t) names right, has_operands functions unit (negated t) names right e)) (good functions unit t names right (typed_actual functions unit t (and_parts (is_typed functions unit t) (is_of Logical (type_of_tree functions unit t)) e).0))
  good functions unit (binary o a b) names right e =
      let n = all-parts (is_name_typed functions unit) (occurrences_in unit a) (occurrences_in unit b) names in
      let r = all-parts (is_right functions unit) (names_with_lists_in a) (names_with_lists_in b) right in
      let w = type_of_operands o in
      let both = and_parts (is_typed functions unit a && is_of w (type_of_tree functions unit a)) (is_typed functions unit b && is_of w (type_of_tree functions unit b)) e in
      let left = good functions unit a n.0 r.0 (typed_actual functions unit a (and_parts (is_typed functions unit a) (is_of w (type_of_tree functions unit a)) both.0).0) in
      let behind = good functions unit b n.1 r.1 (typed_actual functions unit b (and_parts (is_typed functions unit b) (is_of w (type_of_tree functions unit b)) both.1).0) in
      each_append (each_one (binary o a b) (has_type functions unit (binary o a b) names right, has_operands functions unit (binary o a b) names right e)) (each_append left behind)

  good_all : (functions : FunctionTypes) (unit : List Statement) (ts : Trees) → AreNamesTyped functions unit (occurrences_in_all unit ts) → AreRight functions unit (names_with_lists_in_all ts) → are_actuals functions unit ts ≡ true → AreGood functions unit (subexpressions_of_all ts)
  good_all functions unit no_trees names right e = each_none
  good_all functions unit (trees t ts) names right e =
      let n = all-parts (is_name_typed functions unit) (occurrences_in unit t) (occurrences_in_all unit ts) names in
      let r = all-parts (is_right functions unit) (names_with_lists_in t) (names_with_lists_in_all ts) right in
      let both = actuals_parts functions unit t ts e in
      each_append (good functions unit t n.0 r.0 both.0) (good_all functions unit ts n.1 r.1 both.1)

pub good_part : (functions : FunctionTypes) (unit : List Statement) (e : Tree) (i : ℕ) (t : Tree) → AreNamesTyped functions unit (occurrences_in unit e) → AreRight functions unit (names_with_lists_in e) → is_actual functions unit e ≡ true → slice_get (subexpressions_of e) i ≡ Some t → IsGood functions unit t
good_part functions unit e i t names right test g = (good functions unit e names right test).at t (i, g)
