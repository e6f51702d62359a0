-- Types of the executable statements of accepted programs.
use Rattle.std.proofs.Common.{◌≡◌, inl, inr, ℕ, zero, Bool, true, false, List, [], ◌∷◌, ◌++◌, Some, None, refl, sym, ap, ◌∙◌, subst, true≢false, ◌&&◌, ◌||◌, not, slice_get, if◌then◌else◌, option_to_list}
use Rattle.std.specs.List.{flat_map, list_all}
use Rattle.std.proofs.lemmas.Bool.{and_from, and_parts, not-true}
use Rattle.std.proofs.lemmas.List.Folds.{list_all-append}
use Rattle.hep_machine.specs.Words.{Tree, trees_of, Target, ValueType, Integer, Logical, Name, Occurrence, DoControl, Form, Statement, Units, declarators_in, is_array, is_constant_name, is_nonempty, type_of, element, external, array_occurrence, occurrences_in, occurrences_in_all, occurrences_in_form, occurrences_in_target}
use Rattle.hep_source.specs.declared.statement.Form.TheVariants as form
use Rattle.hep_conditions.specs.Words.{FunctionTypes, function_types, type_of_name, IsAccepted, is_not_held, names_with_lists_in, names_with_lists_in_all, targets_assigned, trees_in_declarator, trees_in_form, trees_in_statement, KnownType, agree, are_actuals, are_integers, has_dimensions, is_form_typed, is_list_typed, is_of, is_plain_integer_scalar, is_scalar_target, is_target_typed, is_typed, is_typed_as, same_declared, type_of_target, type_of_tree}
use Rattle.hep_accepted_laws.specs.PartlyEvaluated.{HasTypes, IsOf, IsPlace}
use Rattle.hep_accepted_laws.proofs.StatementForms.{lists_in, names_have_types, names_in, target_typed, typed_statement}
use Rattle.hep_accepted_laws.proofs.NameMeanings.{assigned_known, no_function_alone}
use Rattle.hep_accepted_laws.proofs.Members.{Has, all_has, has_behind, has_front, has_more}
use Rattle.hep_accepted_laws.proofs.Nested.{held_is_allowed, loop_variable}
use Rattle.hep_accepted_laws.proofs.Operands.{AreNamesTyped, AreRight, are_subscripts, declared_type, has_type, is_name_typed, is_of_type, is_right}
use Rattle.hep_conditions.proofs.Typing.{equal_types}

-- what the laws of names say of a form
abbrev AreTreesGood : FunctionTypes → List Statement → Form → Type 0
AreTreesGood functions unit f = (e : Tree) → Has (trees_in_form f) e → AreNamesTyped functions unit (occurrences_in unit e) × AreRight functions unit (names_with_lists_in e)

abbrev AreOccurrencesTyped : FunctionTypes → List Statement → Form → Type 0
AreOccurrencesTyped functions unit f = (p : Occurrence) → Has (occurrences_in_form unit f) p → (t : ValueType) × (type_of unit p.name ≡ Some t) × (type_of_name functions unit p.name ≡ Some (Some t))

abbrev AreElements : List Statement → Form → Type 0
AreElements unit f = (i : ℕ) (t : Target) → slice_get (targets_assigned f) i ≡ Some t → is_nonempty t.subscripts ≡ true → is_array unit t.occurrence.name ≡ true

abbrev HasPlainVariable : List Statement → Form → Type 0
HasPlainVariable unit f = (c : DoControl) → f ≡ form.Do c → is_plain_integer_scalar unit c.variable.name ≡ true

-- ---- assignments

all_named : (functions : FunctionTypes) (unit : List Statement) (ts : List Tree) → ((e : Tree) → Has ts e → AreNamesTyped functions unit (occurrences_in unit e)) → AreNamesTyped functions unit (occurrences_in_all unit (trees_of ts))
all_named functions unit [] h = refl
all_named functions unit (t ∷ ts) h =
    list_all-append (is_name_typed functions unit) (occurrences_in unit t) (occurrences_in_all unit (trees_of ts))
    ∙ and_from (list_all (is_name_typed functions unit) (occurrences_in unit t)) (list_all (is_name_typed functions unit) (occurrences_in_all unit (trees_of ts))) (h t (zero, refl)) (all_named functions unit ts (λ e g. h e (has_more t ts e g)))

all_right : (functions : FunctionTypes) (unit : List Statement) (ts : List Tree) → ((e : Tree) → Has ts e → AreRight functions unit (names_with_lists_in e)) → AreRight functions unit (names_with_lists_in_all (trees_of ts))
all_right functions unit [] h = refl
all_right functions unit (t ∷ ts) h =
    list_all-append (is_right functions unit) (names_with_lists_in t) (names_with_lists_in_all (trees_of ts))
    ∙ and_from (list_all (is_right functions unit) (names_with_lists_in t)) (list_all (is_right functions unit) (names_with_lists_in_all (trees_of ts))) (h t (zero, refl)) (all_right functions unit ts (λ e g. h e (has_more t ts e g)))

pub target_occurs : (unit : List Statement) (x : Target) → (is_nonempty x.subscripts ≡ true → is_array unit x.occurrence.name ≡ true) → Has (occurrences_in_target unit x) x.occurrence
target_occurs unit x arrays = has_front (if is_nonempty x.subscripts then array_occurrence unit x.occurrence else x.occurrence ∷ []) (flat_map (occurrences_in unit) x.subscripts) x.occurrence (by_list (is_nonempty x.subscripts) arrays) where
  by_list : (b : Bool) → (b ≡ true → is_array unit x.occurrence.name ≡ true) → Has (if b then array_occurrence unit x.occurrence else x.occurrence ∷ []) x.occurrence
  by_list true h = subst (λ a. Has (if a then x.occurrence ∷ [] else []) x.occurrence) (sym (h refl)) (zero, refl)
  by_list false h = (zero, refl)

-- what is assigned has a type that is known
target_type : (functions : FunctionTypes) (unit : List Statement) (x : Target) (v : ValueType) → (is_nonempty x.subscripts ≡ true → is_array unit x.occurrence.name ≡ true) → type_of unit x.occurrence.name ≡ Some v → type_of_name functions unit x.occurrence.name ≡ Some (Some v) → type_of_target functions unit x ≡ Some (Some v)
target_type functions unit x v arrays e known = by_tests (is_nonempty x.subscripts) (is_array unit x.occurrence.name) arrays where
  by_tests : (b a : Bool) → (b ≡ true → a ≡ true) → (if not b then type_of_name functions unit x.occurrence.name else if a then Some (type_of unit x.occurrence.name) else None) ≡ Some (Some v)
  by_tests true true h = ap (λ o. Some o) e
  by_tests true false h = absurd (true≢false (sym (h refl)))
  by_tests false a h = known

pub same_types : (v w : ValueType) (a b : KnownType) → a ≡ Some (Some v) → b ≡ Some (Some w) → agree a b ≡ true → w ≡ v
same_types v w a b p q e = sym (equal_types v w (subst (λ c. agree (Some (Some v)) c ≡ true) q (subst (λ c. agree c b ≡ true) p e)))

is_place : (functions : FunctionTypes) (unit : List Statement) (x : Target) → (is_nonempty x.subscripts ≡ true → is_array unit x.occurrence.name ≡ true) → AreNamesTyped functions unit (occurrences_in_all unit (trees_of x.subscripts)) → AreRight functions unit (names_with_lists_in_all (trees_of x.subscripts)) → is_scalar_target unit x ≡ true → is_target_typed functions unit x ≡ true → IsPlace functions unit x
is_place functions unit x arrays names right scalar typed = by_list x.subscripts refl where
  by_list : (ts : List Tree) → x.subscripts ≡ ts → IsPlace functions unit x
  by_list [] e = inl (e, not-true (is_array unit x.occurrence.name) (subst (λ (us : List Tree). (is_nonempty us || not (is_array unit x.occurrence.name)) ≡ true) e scalar))
  by_list (t ∷ ts) e =
      let listed : is_nonempty x.subscripts ≡ true = ap is_nonempty e in
      let test : (has_dimensions unit x.occurrence.name (trees_of x.subscripts) && are_integers functions unit (trees_of x.subscripts)) ≡ true
      = subst (λ a. is_list_typed unit (if a then element else external) x.occurrence.name (trees_of x.subscripts) (are_integers functions unit (trees_of x.subscripts)) (are_actuals functions unit (trees_of x.subscripts)) ≡ true) (arrays listed) (target_typed functions unit x typed listed) in
      inr (arrays listed, are_subscripts functions unit x.occurrence.name (trees_of x.subscripts) names right test)

assignment : (functions : FunctionTypes) (unit : List Statement) (x : Target) (t : Tree) → AreTreesGood functions unit (form.Assign x t) → AreOccurrencesTyped functions unit (form.Assign x t) → AreElements unit (form.Assign x t) → is_form_typed functions unit (form.Assign x t) ≡ true → HasTypes functions unit (form.Assign x t)
assignment functions unit x t trees_good occurrences elements test =
    let arrays : is_nonempty x.subscripts ≡ true → is_array unit x.occurrence.name ≡ true = elements 0 x refl in
    let p1 = and_parts (is_scalar_target unit x) (is_target_typed functions unit x && (is_typed functions unit t && agree (type_of_target functions unit x) (type_of_tree functions unit t))) test in
    let p2 = and_parts (is_target_typed functions unit x) (is_typed functions unit t && agree (type_of_target functions unit x) (type_of_tree functions unit t)) p1.1 in
    let p3 = and_parts (is_typed functions unit t) (agree (type_of_target functions unit x) (type_of_tree functions unit t)) p2.1 in
    let v = occurrences x.occurrence (has_front (occurrences_in_target unit x) (occurrences_in unit t) x.occurrence (target_occurs unit x arrays)) in
    let g = trees_good t (has_behind x.subscripts (t ∷ []) t (zero, refl)) in
    let w = has_type functions unit t g.0 g.1 in
    let same = same_types v.0 w.0 (type_of_target functions unit x) (type_of_tree functions unit t) (target_type functions unit x v.0 arrays v.1 v.2) w.1 p3.1 in
    let names = all_named functions unit x.subscripts (λ e h. (trees_good e (has_front x.subscripts (t ∷ []) e h)).0) in
    let right = all_right functions unit x.subscripts (λ e h. (trees_good e (has_front x.subscripts (t ∷ []) e h)).1) in
    (v.0, v.1, subst (λ (z : ValueType). IsOf functions unit z t) same w.1, is_place functions unit x arrays names right p1.0 p2.0)

-- ---- other statements

is_as : (functions : FunctionTypes) (unit : List Statement) (f : Form) (v : ValueType) (e : Tree) → AreTreesGood functions unit f → Has (trees_in_form f) e → is_typed_as functions unit v e ≡ true → IsOf functions unit v e
is_as functions unit f v e trees_good h test =
    let g = trees_good e h in
    is_of_type functions unit v e g.0 g.1 (and_parts (is_typed functions unit e) (is_of v (type_of_tree functions unit e)) test).1

plain_parts : (unit : List Statement) (x : Name) → is_plain_integer_scalar unit x ≡ true → (is_array unit x ≡ false) × (type_of unit x ≡ Some Integer)
plain_parts unit x e =
    let p1 = and_parts (not (is_constant_name unit x)) _ e in
    let p2 = and_parts (not x.asynchronous) _ p1.1 in
    let p3 = and_parts (not (is_array unit x)) (same_declared (type_of unit x) (Some Integer)) p2.1 in
    (not-true (is_array unit x) p3.0, declared_type (type_of unit x) Integer p3.1)

loop : (functions : FunctionTypes) (unit : List Statement) (c : DoControl) → AreTreesGood functions unit (form.Do c) → HasPlainVariable unit (form.Do c) → is_form_typed functions unit (form.Do c) ≡ true → HasTypes functions unit (form.Do c)
loop functions unit c trees_good plain test =
    let variable = plain_parts unit c.variable.name (plain c refl) in
    let each = (and_parts (not (is_array unit c.variable.name)) _ test).1 in
    (variable.0, variable.1, of each c.initial (0, refl), of each c.limit (1, refl), λ t e. of each t (has_more c.initial (c.limit ∷ option_to_list c.increment) t (has_more c.limit (option_to_list c.increment) t (0, ap (λ o. slice_get (option_to_list o) 0) e)))) where
      of : list_all (is_typed_as functions unit Integer) (c.initial ∷ c.limit ∷ option_to_list c.increment) ≡ true → (t : Tree) → Has (c.initial ∷ c.limit ∷ option_to_list c.increment) t → IsOf functions unit Integer t
      of each t h = is_as functions unit (form.Do c) Integer t trees_good h (all_has (is_typed_as functions unit Integer) (c.initial ∷ c.limit ∷ option_to_list c.increment) t each h)

form_types : (functions : FunctionTypes) (unit : List Statement) (f : Form) → AreTreesGood functions unit f → AreOccurrencesTyped functions unit f → AreElements unit f → HasPlainVariable unit f → is_form_typed functions unit f ≡ true → HasTypes functions unit f
form_types functions unit (form.Assign x t) g o a p test = assignment functions unit x t g o a test
form_types functions unit (form.ComputedGoTo labels t) g o a p test = is_as functions unit (form.ComputedGoTo labels t) Integer t g (0, refl) test
form_types functions unit (form.ArithmeticIf t labels) g o a p test = is_as functions unit (form.ArithmeticIf t labels) Integer t g (0, refl) test
form_types functions unit (form.IfThen t) g o a p test = is_as functions unit (form.IfThen t) Logical t g (0, refl) test
form_types functions unit (form.ElseIf t) g o a p test = is_as functions unit (form.ElseIf t) Logical t g (0, refl) test
form_types functions unit (form.Do c) g o a p test = loop functions unit c g p test
form_types functions unit _ g o a p test = tt

-- ---- statements of an accepted program

-- no logical IF holds a DO, and so its variable is plain
plain_variable : (program : Units) (u k : ℕ) (unit : List Statement) (s : Statement) → IsAccepted program → slice_get program u ≡ Some unit → slice_get unit k ≡ Some s → HasPlainVariable unit s.form
plain_variable program u k unit s accepted iu ik c is = by_conditions s.conditions refl where
  by_conditions : (ts : List Tree) → s.conditions ≡ ts → is_plain_integer_scalar unit c.variable.name ≡ true
  by_conditions [] e = loop_variable program u k unit s c accepted iu ik e is
  by_conditions (t ∷ ts) e = absurd (true≢false (sym (ap is_not_held is) ∙ held_is_allowed program u k unit s t ts accepted iu ik e))

pub in_form : (s : Statement) (e : Tree) → Has (trees_in_form s.form) e → Has (trees_in_statement s) e
in_form s e h = last s.conditions (flat_map trees_in_declarator (declarators_in s.form)) _ _ (trees_in_form s.form) h where
  last : (v w x y z : List Tree) → Has z e → Has (v ++ (w ++ (x ++ (y ++ z)))) e
  last v w x y z g = has_behind v (w ++ (x ++ (y ++ z))) e (has_behind w (x ++ (y ++ z)) e (has_behind x (y ++ z) e (has_behind y z e g)))

pub statements_have_types : (program : Units) (u k : ℕ) (unit : List Statement) (s : Statement) → IsAccepted program → slice_get program u ≡ Some unit → slice_get unit k ≡ Some s → HasTypes (function_types program) unit s.form
statements_have_types program u k unit s accepted iu ik =
    form_types (function_types program) unit s.form
    (λ e h. (names_in program u k unit s e accepted iu ik (in_form s e h), lists_in program u k unit s e accepted iu ik (in_form s e h)))
    (λ p h.
    let o = has_behind (flat_map (occurrences_in unit) s.conditions) (occurrences_in_form unit s.form) p h in
    let t = names_have_types program u k o.0 unit s p accepted iu ik o.1 in
    let known : type_of_name (function_types program) unit p.name ≡ Some (type_of unit p.name) = ap (λ (b : Bool). if b then None else Some (type_of unit p.name)) (no_function_alone program u k o.0 unit s p accepted iu ik o.1) in
    (t.0, t.1, known ∙ ap (λ v. Some v) t.1))
    (λ i t it. assigned_known program u k i unit s t accepted iu ik it)
    (plain_variable program u k unit s accepted iu ik)
    (typed_statement program u k unit s accepted iu ik).form
