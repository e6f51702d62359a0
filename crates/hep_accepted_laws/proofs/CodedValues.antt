-- Expressions that have values: which names have some in them.
use Rattle.std.proofs.Common.{◌≡◌, ◌⊎◌, inl, inr, Bool, true, false, List, [], ◌∷◌, ◌++◌, Option, Some, None, refl, sym, ap, ◌∙◌, subst, true≢false, if◌then◌else◌, is_some}
use Rattle.std.proofs.lemmas.Option.{none-some}
use Rattle.hep_source.proofs.NameTests.{same_name-turned}
use Rattle.hep_machine.specs.Words.{Tree, Trees, constant, occurrence, with_list, parenthesized, signed, negated, binary, no_trees, trees, NamedConstant, Name, Occurrence, Statement, Value, is_among, same_name, combined_value, negated_value, signed_value, Constants, Values, both, by_meaning, constant_value, given_by}
use Rattle.hep_machine.specs.Words.{value_among, value_of, values_of, with_constant, with_one, with_two, is_array, is_constant_name, named_constants, names_of_constants, Meaning, element, function_named, pure, state, external, listed_meaning, array_occurrence, occurrences_in, occurrences_in_all}
use Rattle.hep_accepted_laws.proofs.Members.{Has, has_either, has_one}

-- ---- the names in an expression that has a value have values

abbrev pub AreValued : Values → List Occurrence → Type 0
AreValued values ps = (p : Occurrence) → Has ps p → is_some (values p.name) ≡ true

none_valued : (values : Values) → AreValued values []
none_valued values p h = absurd (none-some p h.1)

both_valued : (values : Values) (ps qs : List Occurrence) → AreValued values ps → AreValued values qs → AreValued values (ps ++ qs)
both_valued values ps qs f g p h = by_place (has_either ps qs p h) where
  by_place : Has ps p ⊎ Has qs p → is_some (values p.name) ≡ true
  by_place (inl i) = f p i
  by_place (inr i) = g p i

-- a function of integers is no array
no_array : (unit : List Statement) (p : Occurrence) (m : Meaning) → listed_meaning unit p.name ≡ m → (m ≡ element → ⊥) → array_occurrence unit p ≡ []
no_array unit p m e other = by_test (is_array unit p.name) e where
  by_test : (b : Bool) → (if b then element else function_named p.name) ≡ m → (if b then p ∷ [] else []) ≡ []
  by_test true f = absurd (other (sym f))
  by_test false f = refl

mutual
  pub names_valued : (unit : List Statement) (values : Values) (t : Tree) (v : Value) → value_of unit values t ≡ Some v → AreValued values (occurrences_in unit t)
  names_valued unit values (constant w) v e = none_valued values
  names_valued unit values (occurrence p) v e = λ q h. subst (λ (r : Occurrence). is_some (values r.name) ≡ true) (has_one p q h) (ap is_some e)
  names_valued unit values (with_list p ts) v e =
      listed (listed_meaning unit p.name) (values_of unit values ts) refl refl e (all_valued unit values ts) where
        by_function : (m : Meaning) → listed_meaning unit p.name ≡ m → (m ≡ element → ⊥) → AreValued values (occurrences_in_all unit ts) → AreValued values (array_occurrence unit p ++ occurrences_in_all unit ts)
        by_function m f other h = subst (λ ps. AreValued values (ps ++ occurrences_in_all unit ts)) (sym (no_array unit p m f other)) h

        listed : (m : Meaning) (o : Option (List Value)) → listed_meaning unit p.name ≡ m → values_of unit values ts ≡ o → by_meaning m o ≡ Some v → ((vs : List Value) → values_of unit values ts ≡ Some vs → AreValued values (occurrences_in_all unit ts)) → AreValued values (array_occurrence unit p ++ occurrences_in_all unit ts)
        listed (pure f) (Some vs) g h d more = by_function (pure f) g (λ i. cc) (more vs h)
        listed (pure f) None g h d more = absurd (none-some v d)
        listed element o g h d more = absurd (none-some v d)
        listed (state f) o g h d more = absurd (none-some v d)
        listed external o g h d more = absurd (none-some v d)
  names_valued unit values (parenthesized t) v e = names_valued unit values t v e
  names_valued unit values (signed s t) v e = one (value_of unit values t) refl e (names_valued unit values t) where
    one : (o : Option Value) → value_of unit values t ≡ o → with_one (signed_value s) o ≡ Some v → ((w : Value) → value_of unit values t ≡ Some w → AreValued values (occurrences_in unit t)) → AreValued values (occurrences_in unit t)
    one None f d more = absurd (none-some v d)
    one (Some w) f d more = more w f
  names_valued unit values (negated t) v e = one (value_of unit values t) refl e (names_valued unit values t) where
    one : (o : Option Value) → value_of unit values t ≡ o → with_one negated_value o ≡ Some v → ((w : Value) → value_of unit values t ≡ Some w → AreValued values (occurrences_in unit t)) → AreValued values (occurrences_in unit t)
    one None f d more = absurd (none-some v d)
    one (Some w) f d more = more w f
  names_valued unit values (binary o a b) v e = two (value_of unit values a) (value_of unit values b) refl refl e (names_valued unit values a) (names_valued unit values b) where
    two : (x y : Option Value) → value_of unit values a ≡ x → value_of unit values b ≡ y → with_two (combined_value o) x y ≡ Some v → ((w : Value) → value_of unit values a ≡ Some w → AreValued values (occurrences_in unit a)) → ((w : Value) → value_of unit values b ≡ Some w → AreValued values (occurrences_in unit b)) → AreValued values (occurrences_in unit a ++ occurrences_in unit b)
    two None y f g d left right = absurd (none-some v d)
    two (Some m) None f g d left right = absurd (none-some v d)
    two (Some m) (Some n) f g d left right = both_valued values (occurrences_in unit a) (occurrences_in unit b) (left m f) (right n g)

  all_valued : (unit : List Statement) (values : Values) (ts : Trees) (vs : List Value) → values_of unit values ts ≡ Some vs → AreValued values (occurrences_in_all unit ts)
  all_valued unit values no_trees vs e = none_valued values
  all_valued unit values (trees t ts) vs e = two (value_of unit values t) (values_of unit values ts) refl refl e (names_valued unit values t) (all_valued unit values ts) where
    two : (x : Option Value) (y : Option (List Value)) → value_of unit values t ≡ x → values_of unit values ts ≡ y → both x y ≡ Some vs → ((w : Value) → value_of unit values t ≡ Some w → AreValued values (occurrences_in unit t)) → ((ws : List Value) → values_of unit values ts ≡ Some ws → AreValued values (occurrences_in_all unit ts)) → AreValued values (occurrences_in unit t ++ occurrences_in_all unit ts)
    two None y f g d left right = absurd (none-some vs d)
    two (Some m) None f g d left right = absurd (none-some vs d)
    two (Some m) (Some n) f g d left right = both_valued values (occurrences_in unit t) (occurrences_in_all unit ts) (left m f) (right n g)

-- ---- only constants have values

value_behind : (ks : Constants) (y x : Name) (v : Value) → same_name x y ≡ false → value_among (ks ++ (y, v) ∷ []) x ≡ value_among ks x
value_behind [] y x v e = ap (λ b. if b then Some v else None) (same_name-turned y x ∙ e)
value_behind (k ∷ ks) y x v e = ap (λ o. if same_name k.0 x then Some k.1 else o) (value_behind ks y x v e)

value_with : (ks : Constants) (y x : Name) (o : Option Value) → same_name x y ≡ false → value_among (with_constant ks y o) x ≡ value_among ks x
value_with ks y x None e = refl
value_with ks y x (Some v) e = value_behind ks y x v e

given_to_others : (unit : List Statement) (ks : Constants) (cs : List NamedConstant) (x : Name) → is_among x (names_of_constants cs) ≡ false → value_among (given_by unit ks cs) x ≡ value_among ks x
given_to_others unit ks [] x e = refl
given_to_others unit ks (c ∷ cs) x e = by_test (same_name x c.occurrence.name) refl e (given_to_others unit (with_constant ks c.occurrence.name (value_of unit (value_among ks) c.value)) cs x) where
  by_test : (b : Bool) → same_name x c.occurrence.name ≡ b → (if b then true else is_among x (names_of_constants cs)) ≡ false
      → (is_among x (names_of_constants cs) ≡ false → value_among (given_by unit (with_constant ks c.occurrence.name (value_of unit (value_among ks) c.value)) cs) x ≡ value_among (with_constant ks c.occurrence.name (value_of unit (value_among ks) c.value)) x)
      → value_among (given_by unit (with_constant ks c.occurrence.name (value_of unit (value_among ks) c.value)) cs) x ≡ value_among ks x
  by_test true f g more = absurd (true≢false g)
  by_test false f g more = more g ∙ value_with ks c.occurrence.name x (value_of unit (value_among ks) c.value) f

pub no_value_of_others : (unit : List Statement) (x : Name) → is_constant_name unit x ≡ false → constant_value unit x ≡ None
no_value_of_others unit x e = given_to_others unit [] (named_constants unit) x e
