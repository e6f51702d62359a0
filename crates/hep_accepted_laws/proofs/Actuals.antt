-- Each actual argument that is passed fits the dummy argument in its place.
use Rattle.std.proofs.Common.{◌≡◌, ◌⊎◌, inl, inr, ℕ, zero, suc, Bool, true, false, List, [], ◌∷◌, ◌++◌, length, Option, Some, None, refl, sym, ap, ◌∙◌, subst, true≢false, ◌&&◌, not, if◌then◌else◌, slice_get, map}
use Rattle.std.specs.List.{flat_map}
use Rattle.std.specs.Option.{unwrap_or}
use Rattle.std.proofs.lemmas.Bool.{and_parts, not-true}
use Rattle.std.proofs.lemmas.Option.{none-some, same_Some, slice_get_within}
use Rattle.hep_machine.specs.Words.{same_logical, spelling, Tree, Trees, constant, occurrence, with_list, parenthesized, signed, negated, binary, no_trees, trees, DataGroup, NamedConstant, Target, ValueType, Integer, Logical, PureFunction, StateFunction, Name, Occurrence, Form, Statement, Value, Units, dummies_of}
use Rattle.hep_machine.specs.Words.{unit_at, constant_value, groups_in, constants_in, declarators_in, dimensions_of, is_array, is_constant_name, is_nonempty, type_of, Actual, evaluated, referred, Part, whole, first_redex, actual_of, actual_of_listed, actual_of_name, mapped_part, part_of, part_of_listed, parts_of}
use Rattle.hep_machine.specs.Words.{reference_of, then_part, Meaning, by_pure_function, element, pure, pure_functions, state, state_functions, external, is_external, actuals_in, function_unit, function_named, listed_meaning, word_in, unit_called, names_of, occurrences_in, occurrences_in_all, occurrences_in_statement, occurrences_of}
use Rattle.hep_source.specs.declared.statement.Form.TheVariants as form
use Rattle.hep_conditions.specs.Words.{FunctionTypes, NameWithList, function_types, is_function_in, list_of, names_with_lists, names_with_lists_in, names_with_lists_in_all, subexpressions_of, subexpressions_of_all, type_of_listed}
use Rattle.hep_conditions.specs.Words.{value, variable, whole_array, actual_class, fits_array, fits_dummy, fits_scalar, given_name, given_with_list, IsAccepted, count_of, Calling, calls_in, trees_in_declarator, trees_in_form, trees_in_statement, KnownType, agree, same_declared, type_of_tree}
use Rattle.hep_accepted_laws.specs.Agreement.{FitPairwise}
use Rattle.hep_accepted_laws.specs.PartlyEvaluated.{IsListOf, AreActualsFilled, AreEach, AreFilled, Chosen, IsFilledActual, IsValue}
use Rattle.hep_accepted_laws.proofs.StatementForms.{occurrence_in_statement, operands_have_types}
use Rattle.hep_accepted_laws.proofs.Executed.{in_form}
use Rattle.hep_accepted_laws.proofs.NameMeanings.{no_function_alone}
use Rattle.hep_accepted_laws.proofs.Members.{Has, flat_has, has_behind, has_either, has_first_or, has_flat, has_front, has_more, name_of_unit}
use Rattle.hep_accepted_laws.proofs.Valued.{ConstantsAgree}
use Rattle.hep_image.specs.Places.{variable_of}
use Rattle.hep_accepted_laws.specs.PlacedCode.{IsPlaced}
use Rattle.hep_accepted_laws.proofs.AcceptedFacts.{Facts, array_no_constant, facts_of, without_value}
use Rattle.hep_accepted_laws.proofs.Rights.{in_listed}
use Rattle.hep_accepted_laws.proofs.Starts.{begins, begun_placed}
use Rattle.hep_accepted_laws.proofs.CodedValues.{no_value_of_others}
use Rattle.hep_accepted_laws.specs.Actuals.{FitsDummy, IsGivenTo, IsVariableOf}
use Rattle.hep_accepted_laws.specs.WorkOrigins.{IsCalledBy, IsGivenBy, IsReferredBy}
use Rattle.hep_accepted_laws.proofs.RunCalls.{IsActual, are-actuals, callee, calls-subroutine, referred-callee, refers-to-function}

-- ---- named constants

-- what has a value is one
constant-named : (unit : List Statement) (x : Name) (v : Value) → constant_value unit x ≡ Some v → is_constant_name unit x ≡ true
constant-named unit x v e = by_test (is_constant_name unit x) refl where
  by_test : (b : Bool) → is_constant_name unit x ≡ b → b ≡ true
  by_test true is = refl
  by_test false is = absurd (none-some v (sym (no_value_of_others unit x is) ∙ e))

-- ---- what fits

equal-logicals : (a b : Bool) → same_logical a b ≡ true → b ≡ a
equal-logicals true true e = refl
equal-logicals true false e = absurd (true≢false (sym e))
equal-logicals false true e = absurd (true≢false (sym e))
equal-logicals false false e = refl

equal-types : (t u : Option ValueType) → same_declared t u ≡ true → u ≡ t
equal-types None None e = refl
equal-types None (Some u) e = absurd (true≢false (sym e))
equal-types (Some t) None e = absurd (true≢false (sym e))
equal-types (Some Integer) (Some Integer) e = refl
equal-types (Some Integer) (Some Logical) e = absurd (true≢false (sym e))
equal-types (Some Logical) (Some Integer) e = absurd (true≢false (sym e))
equal-types (Some Logical) (Some Logical) e = refl

module _ (called : List Statement) (y : Name) where
  value-fits : (t : KnownType) → fits_dummy called y (value t) ≡ true → (y.asynchronous ≡ false) × (is_array called y ≡ false)
  value-fits t fit = by_kind (is_array called y) refl fit where
    by_kind : (b : Bool) → is_array called y ≡ b → (if b then fits_array y.asynchronous (type_of called y) (value t) else fits_scalar y.asynchronous (type_of called y) (value t)) ≡ true → (y.asynchronous ≡ false) × (b ≡ false)
    by_kind true is e = absurd (true≢false (sym e))
    by_kind false is e = (not-true y.asynchronous (and_parts (not y.asynchronous) (agree t (Some (type_of called y))) e).0, refl)

  -- a variable, where it is an element if it is given to an array
  variable-fits : (a is_element : Bool) (t : Option ValueType) → fits_dummy called y (variable a is_element t) ≡ true → (a ≡ y.asynchronous) × (t ≡ type_of called y) × (is_array called y ≡ true → is_element ≡ true)
  variable-fits a is_element t fit = by_kind (is_array called y) refl fit where
    by_both : (same_logical y.asynchronous a && same_declared (type_of called y) t) ≡ true → (a ≡ y.asynchronous) × (t ≡ type_of called y)
    by_both e =
        let both = and_parts (same_logical y.asynchronous a) (same_declared (type_of called y) t) e in
        (equal-logicals y.asynchronous a both.0, equal-types (type_of called y) t both.1)

    by_kind : (b : Bool) → is_array called y ≡ b → (if b then fits_array y.asynchronous (type_of called y) (variable a is_element t) else fits_scalar y.asynchronous (type_of called y) (variable a is_element t)) ≡ true → (a ≡ y.asynchronous) × (t ≡ type_of called y) × (b ≡ true → is_element ≡ true)
    by_kind true is e =
        let both = and_parts is_element (same_logical y.asynchronous a && same_declared (type_of called y) t) e in
        let same = by_both both.1 in
        (same.0, same.1, λ f. both.0)
    by_kind false is e = let same = by_both e in (same.0, same.1, λ f. absurd (true≢false (sym f)))

  whole-fits : (a : Bool) (t : Option ValueType) → fits_dummy called y (whole_array a t) ≡ true → (a ≡ y.asynchronous) × (t ≡ type_of called y) × (is_array called y ≡ true)
  whole-fits a t fit = by_kind (is_array called y) fit where
    by_kind : (b : Bool) → (if b then fits_array y.asynchronous (type_of called y) (whole_array a t) else fits_scalar y.asynchronous (type_of called y) (whole_array a t)) ≡ true → (a ≡ y.asynchronous) × (t ≡ type_of called y) × (b ≡ true)
    by_kind true e =
        let both = and_parts (same_logical y.asynchronous a) (same_declared (type_of called y) t) e in
        (equal-logicals y.asynchronous a both.0, equal-types (type_of called y) t both.1, refl)
    by_kind false e = absurd (true≢false (sym e))

-- ---- lists

filled-count : (unit : List Statement) (ts us : Trees) → AreFilled unit ts us → count_of us ≡ count_of ts
filled-count unit no_trees us e = ap count_of e
filled-count unit (trees t ts) us (r, rs, e, h, k) = ap count_of e ∙ ap suc (filled-count unit ts rs k)

abbrev AreCounted : ℕ → Part (List Value) → Type 0
AreCounted n (whole vs) = length vs ≡ n
AreCounted n (first_redex r) = Unit {0}

parts-count : (unit : List Statement) (ts : Trees) → AreCounted (count_of ts) (parts_of unit ts)
parts-count unit no_trees = refl
parts-count unit (trees t ts) = by_parts (part_of unit t) (parts_of unit ts) (parts-count unit ts) where
  by_parts : (p : Part Value) (q : Part (List Value)) → AreCounted (count_of ts) q → AreCounted (suc (count_of ts)) (then_part (λ v vs. v ∷ vs) p q)
  by_parts (first_redex r) q h = tt
  by_parts (whole v) (first_redex r) h = tt
  by_parts (whole v) (whole vs) h = ap suc h

-- of two lists that go together, an element of the second has one of the first
pub each-before : {A B : Type 0} (R : A → B → Type 0) (xs : List A) (ys : List B) (j : ℕ) (y : B) → AreEach R xs ys → slice_get ys j ≡ Some y → (x : A) × (slice_get xs j ≡ Some x) × R x y
each-before R [] [] j y h e = absurd (none-some y e)
each-before R [] (z ∷ zs) j y h e = absurd h
each-before R (x ∷ xs) [] j y h e = absurd h
each-before R (x ∷ xs) (z ∷ zs) zero y h e = (x, refl, subst (R x) (same_Some z y e) h.0)
each-before R (x ∷ xs) (z ∷ zs) (suc j) y h e = each-before R xs zs j y h.1 e

-- ---- expressions

-- no function that a name may be is an array element
pub no-element : (x : Name) → function_named x ≡ element → ⊥
no-element x e = by_functions (word_in pure_functions (spelling x)) (word_in state_functions (spelling x)) e where
  by_functions : (o : Option PureFunction) (p : Option StateFunction) → by_pure_function o p ≡ element → ⊥
  by_functions (Some f) p e = absurd cc
  by_functions None (Some f) e = absurd cc
  by_functions None None e = absurd cc

abbrev IsEvaluated : Actual → Type 0
IsEvaluated a = (v : Value) × (a ≡ evaluated v)

evaluated-part : (p : Part Value) (a : Actual) → mapped_part evaluated p ≡ whole a → IsEvaluated a
evaluated-part (whole v) a e = (v, sym (same-whole e)) where
  actual_in : Part Actual → Actual
  actual_in (whole x) = x
  actual_in (first_redex r) = evaluated v

  same-whole : whole (evaluated v) ≡ whole a → evaluated v ≡ a
  same-whole e = ap actual_in e
evaluated-part (first_redex r) a e = absurd cc

-- ---- expressions of a statement

-- an expression stands in one of those of a statement, and so does each name in it
pub record StandsIn (unit : List Statement) (s : Statement) (t : Tree) : Type 0 where
  pub expression : Tree
  pub there : Has (trees_in_statement s) expression
  pub part : Has (subexpressions_of expression) t
  pub occurs : (p : Occurrence) → Has (occurrences_in unit t) p → Has (occurrences_in unit expression) p

pub first-part : (t : Tree) → Has (subexpressions_of t) t
first-part (constant v) = (zero, refl)
first-part (occurrence p) = (zero, refl)
first-part (with_list p ts) = (zero, refl)
first-part (parenthesized t) = (zero, refl)
first-part (signed s t) = (zero, refl)
first-part (negated t) = (zero, refl)
first-part (binary o a b) = (zero, refl)

-- itself
stands-itself : (unit : List Statement) (s : Statement) (t : Tree) → Has (trees_in_statement s) t → StandsIn unit s t
stands-itself unit s t h = record { expression = t; there = h; part = first-part t; occurs = λ p g. g }

-- what stands in the list of a name is a part of the expression in which that stands
module _ (r : NameWithList) (t : Tree) (i : Has (list_of r.arguments) t) where
  part-all : (ts : Trees) → Has (list_of ts) t → Has (subexpressions_of_all ts) t
  part-all no_trees h = absurd (none-some t h.1)
  part-all (trees q qs) h =
      elim (has_first_or q (list_of qs) t h) [
        | inl e ↦ has_front (subexpressions_of q) (subexpressions_of_all qs) t (subst (λ v. Has (subexpressions_of q) v) e (first-part q))
        | inr k ↦ has_behind (subexpressions_of q) (subexpressions_of_all qs) t (part-all qs k)
      ]

  mutual
    part-listed : (e : Tree) → Has (names_with_lists_in e) r → Has (subexpressions_of e) t
    part-listed (constant v) h = absurd (none-some r h.1)
    part-listed (occurrence q) h = absurd (none-some r h.1)
    part-listed (with_list q ts) h =
        has_more (with_list q ts) (subexpressions_of_all ts) t (
        elim (has_first_or (record { occurrence = q; arguments = ts }) (names_with_lists_in_all ts) r h) [
          | inl e ↦ part-all ts (subst (λ (z : NameWithList). Has (list_of z.arguments) t) (sym e) i)
          | inr k ↦ part-listed-all ts k
        ])
    part-listed (parenthesized e) h = has_more (parenthesized e) (subexpressions_of e) t (part-listed e h)
    part-listed (signed s e) h = has_more (signed s e) (subexpressions_of e) t (part-listed e h)
    part-listed (negated e) h = has_more (negated e) (subexpressions_of e) t (part-listed e h)
    part-listed (binary o a b) h =
        has_more (binary o a b) (subexpressions_of a ++ subexpressions_of b) t (
        elim (has_either (names_with_lists_in a) (names_with_lists_in b) r h) [
          | inl k ↦ has_front (subexpressions_of a) (subexpressions_of b) t (part-listed a k)
          | inr k ↦ has_behind (subexpressions_of a) (subexpressions_of b) t (part-listed b k)
        ])

    part-listed-all : (es : Trees) → Has (names_with_lists_in_all es) r → Has (subexpressions_of_all es) t
    part-listed-all no_trees h = absurd (none-some r h.1)
    part-listed-all (trees e es) h =
        elim (has_either (names_with_lists_in e) (names_with_lists_in_all es) r h) [
          | inl k ↦ has_front (subexpressions_of e) (subexpressions_of_all es) t (part-listed e k)
          | inr k ↦ has_behind (subexpressions_of e) (subexpressions_of_all es) t (part-listed-all es k)
        ]

stands-listed : (unit : List Statement) (s : Statement) (r : NameWithList) (t : Tree) → Has (names_with_lists s) r → Has (list_of r.arguments) t → StandsIn unit s t
stands-listed unit s r t h i =
    let e = flat_has names_with_lists_in (trees_in_statement s) r h in
    record { expression = e.0; there = e.1; part = part-listed r t i e.0 e.2; occurs = λ p j. in_listed unit r t p i j e.0 e.2 }

-- ---- one actual argument

-- a name with a list that is no array
abbrev IsListFilled : List Statement → Occurrence → Trees → Tree → Type 0
IsListFilled unit p ts q =
    ((us : Trees) × (q ≡ with_list p us) × Chosen (is_external (listed_meaning unit p.name)) (AreActualsFilled unit ts us) (AreFilled unit ts us)) ⊎ IsValue q

module _ (program : Units) (u k : ℕ) (unit : List Statement) (s : Statement) (accepted : IsAccepted program) (iu : slice_get program u ≡ Some unit) (ik : slice_get unit k ≡ Some s) (facts : Facts (function_types program) unit) (called : List Statement) (y : Name) (a : Actual) where
  abbrev functions : FunctionTypes
  functions = function_types program

  of-value : (t : KnownType) → fits_dummy called y (value t) ≡ true → IsEvaluated a → FitsDummy unit called y a
  of-value t fit (v, e) = subst (FitsDummy unit called y) (sym e) (value-fits called y t fit)

  -- what is no name and no name with a list
  of-part : (t q r : Tree) (p : Part Value) → fits_dummy called y (value (type_of_tree functions unit t)) ≡ true → q ≡ r → actual_of unit r ≡ mapped_part evaluated p → actual_of unit q ≡ whole a → FitsDummy unit called y a
  of-part t q r p fit e f is = of-value (type_of_tree functions unit t) fit (evaluated-part p a (sym f ∙ (ap (actual_of unit) (sym e) ∙ is)))

  of-constant : (t q : Tree) (v : Value) → fits_dummy called y (value (type_of_tree functions unit t)) ≡ true → q ≡ constant v → actual_of unit q ≡ whole a → FitsDummy unit called y a
  of-constant t q v fit e = of-part t q (constant v) (whole v) fit e refl

  named-there : (t : Tree) (p : Occurrence) → StandsIn unit s t → Has (occurrences_in unit t) p → Has (occurrences_of unit) p
  named-there t p h g = has_flat (occurrences_in_statement unit) unit s p (k, ik) (occurrence_in_statement unit s h.expression p h.there (h.occurs p g))

  variable-there : (t : Tree) (p : Occurrence) → StandsIn unit s t → Has (occurrences_in unit t) p → is_constant_name unit p.name ≡ false → IsVariableOf unit p.name
  variable-there t p h g varies =
      let o = named-there t p h g in
      record { named = p; index = o.0; there = o.1; same_name = refl; varies = varies }

  of-name : (p : Occurrence) → StandsIn unit s (occurrence p) → fits_dummy called y (given_name functions unit p.name) ≡ true → actual_of_name (constant_value unit p.name) p.name ≡ whole a → FitsDummy unit called y a
  of-name p h fit is = by_value (constant_value unit p.name) refl is where
    actual_in : Part Actual → Actual
    actual_in (whole x) = x
    actual_in (first_redex r) = a

    by_value : (o : Option Value) → constant_value unit p.name ≡ o → actual_of_name o p.name ≡ whole a → FitsDummy unit called y a
    by_value (Some v) e f =
        let fit_value : fits_dummy called y (value (Some (type_of unit p.name))) ≡ true
        = subst (λ b. fits_dummy called y (if b then value (Some (type_of unit p.name)) else (if is_function_in functions unit p.name then value None else (if is_array unit p.name then whole_array p.name.asynchronous (type_of unit p.name) else variable p.name.asynchronous false (type_of unit p.name)))) ≡ true) (constant-named unit p.name v e) fit in
        of-value (Some (type_of unit p.name)) fit_value (v, sym (ap actual_in f))
    by_value None e f = subst (FitsDummy unit called y) (ap actual_in f) (by_kind (is_array unit p.name) refl fit_variable) where
      varies : is_constant_name unit p.name ≡ false
      varies = without_value functions unit facts p.name e

      no_function : is_function_in functions unit p.name ≡ false
      no_function = let at = occurrence_in_statement unit s h.expression p h.there (h.occurs p (zero, refl)) in no_function_alone program u k at.0 unit s p accepted iu ik at.1

      fit_variable : fits_dummy called y (if is_array unit p.name then whole_array p.name.asynchronous (type_of unit p.name) else variable p.name.asynchronous false (type_of unit p.name)) ≡ true
      fit_variable =
          subst (λ b. fits_dummy called y (if b then value None else (if is_array unit p.name then whole_array p.name.asynchronous (type_of unit p.name) else variable p.name.asynchronous false (type_of unit p.name))) ≡ true) no_function (
          subst (λ b. fits_dummy called y (if b then value (Some (type_of unit p.name)) else (if is_function_in functions unit p.name then value None else (if is_array unit p.name then whole_array p.name.asynchronous (type_of unit p.name) else variable p.name.asynchronous false (type_of unit p.name)))) ≡ true) varies fit)

      by_kind : (b : Bool) → is_array unit p.name ≡ b → fits_dummy called y (if b then whole_array p.name.asynchronous (type_of unit p.name) else variable p.name.asynchronous false (type_of unit p.name)) ≡ true → IsGivenTo unit called y (p.name, [])
      by_kind true array g =
          let whole_fits = whole-fits called y p.name.asynchronous (type_of unit p.name) g in
          record {
            variable = variable-there (occurrence p) p h (zero, refl) varies;
            asynchronous = whole_fits.0;
            same_type = whole_fits.1;
            subscripts = inl refl;
            array = λ is. array;
            scalar = λ is. absurd (true≢false (sym whole_fits.2 ∙ is));
          }
      by_kind false array g =
          let variable_fits = variable-fits called y p.name.asynchronous false (type_of unit p.name) g in
          record {
            variable = variable-there (occurrence p) p h (zero, refl) varies;
            asynchronous = variable_fits.0;
            same_type = variable_fits.1;
            subscripts = inl refl;
            array = λ is. absurd (true≢false (sym (variable_fits.2 is)));
            scalar = λ is. array;
          }

  -- an element of an array
  of-element : (p : Occurrence) (ts us : Trees) → is_array unit p.name ≡ true → StandsIn unit s (with_list p ts) → AreFilled unit ts us → fits_dummy called y (actual_class functions unit (with_list p ts)) ≡ true → actual_of unit (with_list p us) ≡ whole a → FitsDummy unit called y a
  of-element p ts us array h filled fit is = by_parts (parts_of unit us) (parts-count unit us) (subst (λ m. actual_of_listed m p.name (parts_of unit us) (part_of_listed m p.name (parts_of unit us) (reference_of unit us) (actuals_in unit us)) ≡ whole a) meaning is) where
    meaning : listed_meaning unit p.name ≡ element
    meaning = ap (λ b. if b then element else function_named p.name) array

    variable_fits : (p.name.asynchronous ≡ y.asynchronous) × (type_of unit p.name ≡ type_of called y) × (is_array called y ≡ true → true ≡ true)
    variable_fits = variable-fits called y p.name.asynchronous true (type_of unit p.name) (subst (λ m. fits_dummy called y (given_with_list functions unit m p.name (type_of_tree functions unit (with_list p ts))) ≡ true) meaning fit)

    count : count_of ts ≡ length (dimensions_of unit p.name)
    count = (subst (λ m. IsListOf functions unit m p.name ts) meaning (operands_have_types program u k (h.there).0 (h.part).0 unit s h.expression (with_list p ts) accepted iu ik (h.there).1 (h.part).1)).0

    first : Has (occurrences_in unit (with_list p ts)) p
    first = subst (λ b. Has ((if b then p ∷ [] else []) ++ occurrences_in_all unit ts) p) (sym array) (zero, refl)

    varies : is_constant_name unit p.name ≡ false
    varies = array_no_constant functions unit facts p.name array

    some : (vs : List Value) (n : ℕ) → length vs ≡ n → n ≡ length (dimensions_of unit p.name) → is_array unit p.name ≡ is_nonempty vs
    some (v ∷ vs) n e f = array
    some [] n e f = by_dimensions (dimensions_of unit p.name) (e ∙ f) where
      by_dimensions : {D : Type 0} (ds : List D) → 0 ≡ length ds → is_nonempty ds ≡ false
      by_dimensions [] g = refl
      by_dimensions (d ∷ ds) g = absurd cc

    actual_in : Part Actual → Actual
    actual_in (whole x) = x
    actual_in (first_redex r) = a

    by_parts : (q : Part (List Value)) → AreCounted (count_of us) q → mapped_part {A = List Value} {B = Actual} (λ subscripts. referred (p.name, subscripts)) q ≡ whole a → FitsDummy unit called y a
    by_parts (first_redex r) n e = absurd cc
    by_parts (whole vs) n e =
        let long : length vs ≡ length (dimensions_of unit p.name) = n ∙ (filled-count unit ts us filled ∙ count) in
        subst (FitsDummy unit called y) (ap actual_in e) (record {
          variable = variable-there (with_list p ts) p h first varies;
          asynchronous = variable_fits.0;
          same_type = variable_fits.1;
          subscripts = inr (array, long);
          array = λ is. array;
          scalar = λ is. some vs (length (dimensions_of unit p.name)) long refl;
        })

  -- a reference of a function
  of-function : (p : Occurrence) (ts : Trees) (q : Tree) → is_array unit p.name ≡ false → StandsIn unit s (with_list p ts) → IsListFilled unit p ts q → fits_dummy called y (actual_class functions unit (with_list p ts)) ≡ true → actual_of unit q ≡ whole a → FitsDummy unit called y a
  of-function p ts q array h filled fit is = by_filled filled where
    meaning : listed_meaning unit p.name ≡ function_named p.name
    meaning = ap (λ b. if b then element else function_named p.name) array

    has_list : IsListOf functions unit (listed_meaning unit p.name) p.name ts
    has_list = operands_have_types program u k (h.there).0 (h.part).0 unit s h.expression (with_list p ts) accepted iu ik (h.there).1 (h.part).1

    by_meaning : (m : Meaning) → listed_meaning unit p.name ≡ m → (m ≡ element → ⊥) → IsListOf functions unit m p.name ts → fits_dummy called y (given_with_list functions unit m p.name (type_of_tree functions unit (with_list p ts))) ≡ true → fits_dummy called y (value (type_of_tree functions unit (with_list p ts))) ≡ true
    by_meaning element is other l g = absurd (other refl)
    by_meaning (pure f) is other l g = g
    by_meaning (state f) is other l g = g
    by_meaning external is other (t, there) g =
        let known : type_of_tree functions unit (with_list p ts) ≡ Some (Some t) = ap (λ m. type_of_listed functions unit m p.name ts) is ∙ there in
        subst (λ t. fits_dummy called y (value t) ≡ true) (sym known) (subst (λ t. fits_dummy called y (given_with_list functions unit external p.name t) ≡ true) known g)

    other : listed_meaning unit p.name ≡ element → ⊥
    other e = no-element p.name (sym meaning ∙ e)

    fit_value : fits_dummy called y (value (type_of_tree functions unit (with_list p ts))) ≡ true
    fit_value = by_meaning (listed_meaning unit p.name) refl other has_list fit

    by_listed : (m : Meaning) (vs : Part (List Value)) (v : Part Value) → (m ≡ element → ⊥) → actual_of_listed m p.name vs v ≡ whole a → IsEvaluated a
    by_listed element vs v no_element e = absurd (no_element refl)
    by_listed (pure f) vs v no_element e = evaluated-part v a e
    by_listed (state f) vs v no_element e = evaluated-part v a e
    by_listed external vs v no_element e = evaluated-part v a e

    by_filled : IsListFilled unit p ts q → FitsDummy unit called y a
    by_filled (inr (v, e)) = of-constant (with_list p ts) q v fit_value e is
    by_filled (inl (us, e, k)) =
        of-value (type_of_tree functions unit (with_list p ts)) fit_value (
        by_listed (listed_meaning unit p.name) (parts_of unit us) (part_of unit (with_list p us)) other (ap (actual_of unit) (sym e) ∙ is))

  of-tree : (t q : Tree) → StandsIn unit s t → IsFilledActual unit t q → fits_dummy called y (actual_class functions unit t) ≡ true → actual_of unit q ≡ whole a → FitsDummy unit called y a
  of-tree (constant v) q h e fit is = of-constant (constant v) q v fit e is
  of-tree (occurrence p) q h e fit is = of-name p h fit (ap (actual_of unit) (sym e) ∙ is)
  of-tree (with_list p ts) q h filled fit is = by_kind (is_array unit p.name) refl filled where
    by_kind : (b : Bool) → is_array unit p.name ≡ b → Chosen b ((us : Trees) × (q ≡ with_list p us) × AreFilled unit ts us) (IsListFilled unit p ts q) → FitsDummy unit called y a
    by_kind true array (us, e, g) = of-element p ts us array h g fit (ap (actual_of unit) (sym e) ∙ is)
    by_kind false array g = of-function p ts q array h g fit is
  of-tree (parenthesized t) q h (r, e, g) fit is = of-part (parenthesized t) q (parenthesized r) (part_of unit (parenthesized r)) fit e refl is
  of-tree (signed o t) q h (inl (r, e, g)) fit is = of-part (signed o t) q (signed o r) (part_of unit (signed o r)) fit e refl is
  of-tree (signed o t) q h (inr (v, e)) fit is = of-constant (signed o t) q v fit e is
  of-tree (negated t) q h (inl (r, e, g)) fit is = of-part (negated t) q (negated r) (part_of unit (negated r)) fit e refl is
  of-tree (negated t) q h (inr (v, e)) fit is = of-constant (negated t) q v fit e is
  of-tree (binary o b c) q h (inl (d, r, e, g, i)) fit is = of-part (binary o b c) q (binary o d r) (part_of unit (binary o d r)) fit e refl is
  of-tree (binary o b c) q h (inr (v, e)) fit is = of-constant (binary o b c) q v fit e is

-- ---- of a call

abbrev actuals_of_first : List Calling → List Tree
actuals_of_first [] = []
actuals_of_first (d ∷ ds) = d.actuals

call-trees : (f : Form) (c : Calling) → calls_in f ≡ c ∷ [] → trees_in_form f ≡ c.actuals
call-trees (form.Call p ts) c e = ap actuals_of_first e
call-trees (form.Create p ts) c e = ap actuals_of_first e
call-trees _ c e = absurd cc

-- the actual arguments are expressions of the statement
actual-there : (s : Statement) (c : Calling) (t : Tree) → calls_in s.form ≡ c ∷ [] → Has c.actuals t → Has (trees_in_statement s) t
actual-there s c t only h = in_form s t (subst (λ ts. Has ts t) (sym (call-trees s.form c only)) h)

-- ---- what is given

unit-found : (program : Units) (u k : ℕ) (s : Statement) → slice_get (unit_at program u) k ≡ Some s → slice_get program u ≡ Some (unit_at program u)
unit-found program u k s = by_unit (slice_get program u) where
  by_unit : (o : Option (List Statement)) → slice_get (unwrap_or o []) k ≡ Some s → o ≡ Some (unwrap_or o [])
  by_unit None g = absurd (none-some s g)
  by_unit (Some w) g = refl

-- what is given to a unit, where the expressions fit
module _ (agrees : ConstantsAgree) (program : Units) (u k : ℕ) (s : Statement) (accepted : IsAccepted program) (ik : slice_get (unit_at program u) k ≡ Some s) where
  given-fits : (callee : List Statement) (ts : List Tree) (actuals : List Actual) → IsGivenBy (unit_at program u) ts actuals → ((t : Tree) → Has ts t → StandsIn (unit_at program u) s t) → FitPairwise (function_types program) (unit_at program u) callee ts
      → (j : ℕ) (y : Name) (a : Actual) → slice_get (dummies_of callee) j ≡ Some y → slice_get actuals j ≡ Some a → FitsDummy (unit_at program u) callee y a
  given-fits callee ts actuals h stand fit j y a dummy actual =
      let there = unit-found program u k s ik in
      let one = each-before (IsActual (unit_at program u)) h.filled actuals j a (are-actuals (unit_at program u) h.filled actuals h.are) actual in
      let passed = each-before (IsFilledActual (unit_at program u)) ts h.filled j one.0 h.is_filled one.1 in
      of-tree program u k (unit_at program u) s accepted there ik (facts_of agrees program u accepted (slice_get_within program u (unit_at program u) there)) callee y a passed.0 one.0 (stand passed.0 (j, passed.1)) passed.2 (fit j y passed.0 dummy passed.1) one.2

pub actuals-fit : ConstantsAgree → (program : Units) (u k j : ℕ) (x y : Name) (actuals : List Actual) (a : Actual) → IsAccepted program → IsCalledBy (unit_at program u) k x actuals → slice_get (dummies_of (unit_at program (unit_called program x))) j ≡ Some y → slice_get actuals j ≡ Some a → FitsDummy (unit_at program u) (unit_at program (unit_called program x)) y a
actuals-fit agrees program u k j x y actuals a accepted h dummy actual =
    let calls = calls-subroutine program u k x actuals accepted h in
    let fit = subst (λ w. FitPairwise (function_types program) (unit_at program u) w h.call.actuals) (sym (callee program (unit_at program u) k x actuals h calls)) calls.6 in
    given-fits agrees program u k h.statement accepted h.there (unit_at program (unit_called program x)) h.call.actuals actuals h.given (λ t g. stands-itself (unit_at program u) h.statement t (actual-there h.statement h.call t h.only g)) fit j y a dummy actual

pub referred-fit : ConstantsAgree → (program : Units) (u k j : ℕ) (x y : Name) (actuals : List Actual) (a : Actual) → IsAccepted program → IsReferredBy (unit_at program u) k x actuals → slice_get (dummies_of (unit_at program (function_unit program x))) j ≡ Some y → slice_get actuals j ≡ Some a → FitsDummy (unit_at program u) (unit_at program (function_unit program x)) y a
referred-fit agrees program u k j x y actuals a accepted h dummy actual =
    let refers = refers-to-function program u k x actuals accepted h in
    let fit = subst (λ w. FitPairwise (function_types program) (unit_at program u) w (list_of h.reference.arguments)) (sym (referred-callee program (unit_at program u) k x actuals h refers)) refers.6 in
    given-fits agrees program u k h.statement accepted h.there (unit_at program (function_unit program x)) (list_of h.reference.arguments) actuals h.given (λ t g. stands-listed (unit_at program u) h.statement h.reference t (h.index, h.among) g) fit j y a dummy actual

-- ---- variables

pub variable-placed : (program : Units) (unit : List Statement) (x : Name) → IsVariableOf unit x → IsPlaced (variable_of program unit x)
variable-placed program unit x h =
    let named = subst (Has (names_of unit)) h.same_name (name_of_unit unit h.named (h.index, h.there)) in
    let at = begins program unit x named h.varies in
    begun_placed program unit x at.0 at.1
