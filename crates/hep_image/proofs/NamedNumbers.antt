-- Names and their variables: an array is among the names of its unit, and found among its arrays.
use Rattle.std.proofs.Common.{◌≡◌, ◌≢◌, subst, inl, inr, Bool, true, false, List, [], ◌∷◌, Some, refl, sym, ap, ◌∙◌, not, ◌&&◌, ◌||◌, if◌then◌else◌, map, slice_get, true≢false}
use Rattle.std.specs.List.{flat_map, list_any}
use Rattle.std.specs.Option.{option_map, option_map_or, unwrap_or}
use Rattle.std.proofs.lemmas.Bool.{and_parts, or_left, or_right, or_cases}
use Rattle.std.proofs.lemmas.List.Folds.{list_any-append}
use Rattle.std.proofs.lemmas.Option.{slice_get-map}
use Rattle.hep_machine.specs.Words.{element, function_name, function_named, is_external, is_named, is_referenced, names_listed}
use Rattle.hep_machine.specs.Words.{CommonBlock, Declarator, Name, Occurrence, Form, Statement, same_name, is_among, index_among, Units, names_of_occurrences, declarator_among, declarators_in, declarators_of, dimensions_among, is_array, is_nonempty, names_of, occurrences_in_block, occurrences_in_declared, occurrences_in_declarator, occurrences_in_dimension, occurrences_in_form, occurrences_in_statement, occurrences_of, occurrences_in}
use Rattle.hep_source.specs.declared.statement.Form.TheVariants as form
use Rattle.hep_source.proofs.NameTests.{equal_names, same_name-turned}
use Rattle.hep_code.specs.declared.variable.Variable.{Variable}
use Rattle.hep_code.specs.declared.variable.Variable.TheVariants.{Absent}
use Rattle.hep_code.specs.declared.variable.Variable.TheVariants as variables
use Rattle.hep_image.specs.declared.array.Start.{Start}
use Rattle.hep_image.specs.Places.{arrays_of, scalar, start_of, variable_by, variable_of}
use Rattle.hep_image.proofs.Members.{among-added, among-passing, indexed}
use Rattle.hep_source.proofs.Tests.{any-flat}

-- ---- tests of lists

any-more : {A : Type 0} (test other : A → Bool) (xs : List A) → ((x : A) → test x ≡ true → other x ≡ true) → list_any test xs ≡ true → list_any other xs ≡ true
any-more test other [] more h = absurd cc
any-more test other (x ∷ xs) more h = elim (or_cases (test x) (list_any test xs) h) [
  | inl here ↦ or_left (other x) (list_any other xs) (more x here)
  | inr behind ↦ or_right (other x) (list_any other xs) (any-more test other xs more behind)
]

-- ---- an array is declared, and so among the names of its unit

module _ (x : Name) where
  abbrev names : Occurrence → Bool
  names p = same_name x p.name

  abbrev declares : Declarator → Bool
  declares d = same_name x d.occurrence.name

  -- a name is among those of some things if it is that of one
  pub among-any : {A : Type 0} (name : A → Name) (ys : List A) → is_among x (map name ys) ≡ list_any (λ y. same_name x (name y)) ys
  among-any name [] = refl
  among-any name (y ∷ ys) = ap (λ b. if same_name x (name y) then true else b) (among-any name ys) ∙ by_test (same_name x (name y)) (list_any (λ z. same_name x (name z)) ys) where
    by_test : (a b : Bool) → (if a then true else b) ≡ (a || b)
    by_test true b = refl
    by_test false b = refl

  dimensioned : (ds : List Declarator) → is_nonempty (dimensions_among x ds) ≡ true → list_any declares ds ≡ true
  dimensioned [] h = absurd cc
  dimensioned (d ∷ ds) h = by_test (dimensioned ds) (same_name d.occurrence.name x && is_nonempty d.dimensions) refl h where
    by_test : (is_nonempty (dimensions_among x ds) ≡ true → list_any declares ds ≡ true) → (b : Bool) → (same_name d.occurrence.name x && is_nonempty d.dimensions) ≡ b
        → is_nonempty (option_map_or (λ (e : Declarator). e.dimensions) (if b then Some d else declarator_among x ds) []) ≡ true → (declares d || list_any declares ds) ≡ true
    by_test rest true t h =
        or_left (declares d) (list_any declares ds) (same_name-turned x d.occurrence.name ∙ (and_parts (same_name d.occurrence.name x) (is_nonempty d.dimensions) t).0)
    by_test rest false t h = or_right (declares d) (list_any declares ds) (rest h)

  module _ (unit : List Statement) where
    named-declarator : (d : Declarator) → declares d ≡ true → list_any names (occurrences_in_declarator unit d) ≡ true
    named-declarator d h = or_left (declares d) (list_any names (flat_map (occurrences_in_dimension unit) d.dimensions)) h

    named-declarators : (ds : List Declarator) → list_any declares ds ≡ true → list_any names (flat_map (occurrences_in_declarator unit) ds) ≡ true
    named-declarators ds h =
        any-flat names (occurrences_in_declarator unit) ds ∙ any-more declares (λ d. list_any names (occurrences_in_declarator unit d)) ds named-declarator h

    -- an array isn't a function that the unit refers to
    named-declared : is_array unit x ≡ true → (d : Declarator) → declares d ≡ true → list_any names (occurrences_in_declared unit d) ≡ true
    named-declared is d h = by_test (is_nonempty d.dimensions) (is_referenced unit d.occurrence.name) refl where
      array : is_array unit d.occurrence.name ≡ true
      array = subst (λ y. is_array unit y ≡ true) (equal_names x d.occurrence.name h) is

      unreferenced : is_referenced unit d.occurrence.name ≡ false
      unreferenced = ap (λ b. is_external (if b then element else function_named d.occurrence.name) && (not (is_named (function_name unit) d.occurrence.name) && is_among d.occurrence.name (names_listed unit))) array

      by_test : (a b : Bool) → is_referenced unit d.occurrence.name ≡ b → list_any names (if not a && b then [] else occurrences_in_declarator unit d) ≡ true
      by_test true b e = named-declarator d h
      by_test false false e = named-declarator d h
      by_test false true e = absurd (true≢false (sym e ∙ unreferenced))

    named-form : is_array unit x ≡ true → (f : Form) → list_any declares (declarators_in f) ≡ true → list_any names (occurrences_in_form unit f) ≡ true
    named-form is (form.Declare t ds) h =
        any-flat names (occurrences_in_declared unit) ds ∙ any-more declares (λ d. list_any names (occurrences_in_declared unit d)) ds (named-declared is) h
    named-form is (form.Dimension ds) h = named-declarators ds h
    named-form is (form.Common blocks) h =
        any-flat names (occurrences_in_block unit) blocks
        ∙ any-more (λ (b : CommonBlock). list_any declares b.entries) (λ b. list_any names (occurrences_in_block unit b)) blocks (λ b. named-declarators b.entries) (sym (any-flat declares (λ (b : CommonBlock). b.entries) blocks) ∙ h)
    named-form is f h = absurd cc

    named-statement : is_array unit x ≡ true → (s : Statement) → list_any declares (declarators_in s.form) ≡ true → list_any names (occurrences_in_statement unit s) ≡ true
    named-statement is s h =
        list_any-append names (flat_map (occurrences_in unit) s.conditions) (occurrences_in_form unit s.form)
        ∙ or_right (list_any names (flat_map (occurrences_in unit) s.conditions)) (list_any names (occurrences_in_form unit s.form)) (named-form is s.form h)

    named-statements : is_array unit x ≡ true → list_any names (occurrences_of unit) ≡ true
    named-statements h =
        any-flat names (occurrences_in_statement unit) unit
        ∙ any-more (λ (s : Statement). list_any declares (declarators_in s.form)) (λ s. list_any names (occurrences_in_statement unit s)) unit (named-statement h) (sym (any-flat declares (λ (s : Statement). declarators_in s.form) unit) ∙ dimensioned (declarators_of unit) h)

  pub array-listed : (unit : List Statement) → is_array unit x ≡ true → is_among x (arrays_of unit) ≡ true
  array-listed unit h =
      among-passing x (is_array unit) (names_of unit) h (among-added x [] (names_of_occurrences (occurrences_of unit)) (among-any (λ (p : Occurrence). p.name) (occurrences_of unit) ∙ named-statements unit h))

  -- ---- what stands at the index of a name

  pub at-index : {B : Type 0} (g : Name → B) (xs : List Name) → is_among x xs ≡ true → slice_get (map g xs) (unwrap_or (index_among x xs) 0) ≡ Some (g x)
  at-index g xs h =
      let found = indexed x xs h in
      ap (λ o. slice_get (map g xs) (unwrap_or o 0)) found.1 ∙ (slice_get-map g xs found.0 ∙ ap (option_map g) found.2)

-- ---- the variable of a name

-- it is absent or not
pub absent-or : (v : Variable) (P : Variable → Type 0) → P Absent → (v ≢ Absent → P v) → P v
absent-or Absent P none there = none
absent-or (variables.Local b c) P none there = there (λ h. absurd cc)
absent-or (variables.Common b c) P none there = there (λ h. absurd cc)
absent-or (variables.Dummy b c) P none there = there (λ h. absurd cc)
absent-or (variables.Array b i) P none there = there (λ h. absurd cc)

-- one that begins somewhere is an array or a scalar
pub by-kind : (program : Units) (unit : List Statement) (x : Name) (at : Start) (P : Variable → Type 0) → start_of program unit x ≡ Some at
    → (is_array unit x ≡ true → P (variables.Array x.asynchronous (unwrap_or (index_among x (arrays_of unit)) 0)))
    → (is_array unit x ≡ false → P (scalar x.asynchronous at)) → P (variable_of program unit x)
unfolding variable_of
by-kind program unit x at P starts array plain = subst (λ o. P (variable_by unit x o)) (sym starts) (by_test (is_array unit x) refl) where
  by_test : (b : Bool) → is_array unit x ≡ b → P (if b then variables.Array x.asynchronous (unwrap_or (index_among x (arrays_of unit)) 0) else scalar x.asynchronous at)
  by_test true is = array is
  by_test false is = plain is
