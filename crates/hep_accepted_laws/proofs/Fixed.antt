-- Expressions of constants have the same types with functions and without.
use Rattle.std.proofs.Common.{◌≡◌, Bool, true, false, List, [], ◌∷◌, Some, None, refl, sym, ap, true≢false, ◌&&◌, ◌||◌, not, if◌then◌else◌, is_some}
use Rattle.std.specs.List.{list_all}
use Rattle.std.proofs.lemmas.Bool.{and_parts, not-true}
use Rattle.hep_machine.specs.Words.{Tree, Trees, constant, occurrence, with_list, parenthesized, signed, negated, binary, no_trees, trees, Integer, Logical, Name, Occurrence, Statement, type_of, Meaning, element, pure, state, external, listed_meaning, array_occurrence, is_nonempty, occurrences_in, occurrences_in_all}
use Rattle.hep_conditions.specs.Words.{are_actuals, are_integers, FunctionTypes, has_value, is_adjustable, is_adjusted, is_constant_expression, is_function_in, is_list_typed, is_of, is_pure, is_typed, NameWithList, names_with_lists_in, names_with_lists_in_all, no_functions, Parameters, type_of_listed, type_of_name, type_of_operands, type_of_tree}
use Rattle.hep_accepted_laws.proofs.Operands.{AreNamesTyped, is_name_typed}
use Rattle.hep_conditions.proofs.Agreeing.{all-parts}

-- ---- references of functions of integers alone

abbrev pub is_pure_list : List Statement → NameWithList → Bool
is_pure_list unit r = is_pure (listed_meaning unit r.occurrence.name)

abbrev pub ArePure : List Statement → List NameWithList → Type 0
ArePure unit rs = list_all (is_pure_list unit) rs ≡ true

pub pure_value : (unit : List Statement) (ps : Parameters) (t : Tree) → has_value unit ps t ≡ true → ArePure unit (names_with_lists_in t)
pure_value unit ps t e = (and_parts _ (list_all (is_pure_list unit) (names_with_lists_in t)) (and_parts (is_constant_expression unit ps t) _ e).0).1

none_pure : (unit : List Statement) (rs : List NameWithList) → not (is_nonempty rs) ≡ true → ArePure unit rs
none_pure unit [] e = refl
none_pure unit (r ∷ rs) e = absurd (true≢false (sym e))

pub pure_bound : (unit : List Statement) (ps : Parameters) (dummy : Bool) (t : Tree) → (has_value unit ps t || (dummy && (is_adjusted unit ps.known t && is_adjustable unit ps.known t))) ≡ true → ArePure unit (names_with_lists_in t)
pure_bound unit ps dummy t e = by_value (has_value unit ps t) refl e where
  adjusted : (d : Bool) → (d && (is_adjusted unit ps.known t && is_adjustable unit ps.known t)) ≡ true → ArePure unit (names_with_lists_in t)
  adjusted d f =
      let both = and_parts (is_adjusted unit ps.known t) (is_adjustable unit ps.known t) (and_parts d _ f).1 in
      none_pure unit (names_with_lists_in t) (and_parts _ (not (is_nonempty (names_with_lists_in t))) both.1).1

  by_value : (v : Bool) → has_value unit ps t ≡ v → (v || (dummy && (is_adjusted unit ps.known t && is_adjustable unit ps.known t))) ≡ true → ArePure unit (names_with_lists_in t)
  by_value true f g = pure_value unit ps t f
  by_value false f g = adjusted dummy g

-- ---- types

module _ (functions : FunctionTypes) (unit : List Statement) where
  same_name_type : (p : Occurrence) → is_name_typed functions unit p ≡ true → type_of_name no_functions unit p.name ≡ type_of_name functions unit p.name
  same_name_type p e =
      ap (λ (b : Bool). if b then None else Some (type_of unit p.name)) (sym (not-true (is_function_in functions unit p.name) (and_parts (is_some (type_of unit p.name)) (not (is_function_in functions unit p.name)) e).1))

  same_listed : (m : Meaning) (x : Name) (ts : Trees) → is_pure m ≡ true → type_of_listed no_functions unit m x ts ≡ type_of_listed functions unit m x ts
  same_listed (pure f) x ts e = refl
  same_listed element x ts e = absurd (true≢false (sym e))
  same_listed (state f) x ts e = absurd (true≢false (sym e))
  same_listed external x ts e = absurd (true≢false (sym e))

  pub same_type_of : (t : Tree) → AreNamesTyped functions unit (occurrences_in unit t) → ArePure unit (names_with_lists_in t) → type_of_tree no_functions unit t ≡ type_of_tree functions unit t
  same_type_of (constant v) names fixed = refl
  same_type_of (occurrence p) names fixed = same_name_type p (and_parts (is_name_typed functions unit p) true names).0
  same_type_of (with_list p ts) names fixed = same_listed (listed_meaning unit p.name) p.name ts (and_parts (is_pure (listed_meaning unit p.name)) (list_all (is_pure_list unit) (names_with_lists_in_all ts)) fixed).0
  same_type_of (parenthesized t) names fixed = same_type_of t names fixed
  same_type_of (signed s t) names fixed = refl
  same_type_of (negated t) names fixed = refl
  same_type_of (binary o a b) names fixed = refl

  same_list_test : (m : Meaning) (x : Name) (ts : Trees) (i j a b : Bool) → is_pure m ≡ true → i ≡ j → is_list_typed unit m x ts i a ≡ is_list_typed unit m x ts j b
  same_list_test (pure f) x ts i j a b e h = h
  same_list_test element x ts i j a b e h = absurd (true≢false (sym e))
  same_list_test (state f) x ts i j a b e h = absurd (true≢false (sym e))
  same_list_test external x ts i j a b e h = absurd (true≢false (sym e))

  mutual
    pub same_typed : (t : Tree) → AreNamesTyped functions unit (occurrences_in unit t) → ArePure unit (names_with_lists_in t) → is_typed no_functions unit t ≡ is_typed functions unit t
    same_typed (constant v) names fixed = refl
    same_typed (occurrence p) names fixed = refl
    same_typed (with_list p ts) names fixed =
        let n = all-parts (is_name_typed functions unit) (array_occurrence unit p) (occurrences_in_all unit ts) names in
        let r = and_parts (is_pure (listed_meaning unit p.name)) (list_all (is_pure_list unit) (names_with_lists_in_all ts)) fixed in
        same_list_test (listed_meaning unit p.name) p.name ts (are_integers no_functions unit ts) (are_integers functions unit ts) (are_actuals no_functions unit ts) (are_actuals functions unit ts) r.0 (same_integers ts n.1 r.1)
    same_typed (parenthesized t) names fixed = same_typed t names fixed
    same_typed (signed s t) names fixed = (λ i. same_typed t names fixed i && is_of Integer (same_type_of t names fixed i))
    same_typed (negated t) names fixed = (λ i. same_typed t names fixed i && is_of Logical (same_type_of t names fixed i))
    same_typed (binary o a b) names fixed =
        let n = all-parts (is_name_typed functions unit) (occurrences_in unit a) (occurrences_in unit b) names in
        let r = all-parts (is_pure_list unit) (names_with_lists_in a) (names_with_lists_in b) fixed in
        (λ i. (same_typed a n.0 r.0 i && is_of (type_of_operands o) (same_type_of a n.0 r.0 i)) && (same_typed b n.1 r.1 i && is_of (type_of_operands o) (same_type_of b n.1 r.1 i)))

    same_integers : (ts : Trees) → AreNamesTyped functions unit (occurrences_in_all unit ts) → ArePure unit (names_with_lists_in_all ts) → are_integers no_functions unit ts ≡ are_integers functions unit ts
    same_integers no_trees names fixed = refl
    same_integers (trees t ts) names fixed =
        let n = all-parts (is_name_typed functions unit) (occurrences_in unit t) (occurrences_in_all unit ts) names in
        let r = all-parts (is_pure_list unit) (names_with_lists_in t) (names_with_lists_in_all ts) fixed in
        (λ i. (same_typed t n.0 r.0 i && is_of Integer (same_type_of t n.0 r.0 i)) && same_integers ts n.1 r.1 i)
