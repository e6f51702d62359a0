-- The variables of a frame tell whose its cells are.
use Rattle.std.proofs.Common.{◌≡◌, ℕ, ◌+◌, ◌-◌, Bool, true, false, List, [], ◌∷◌, ◌++◌, map, Some, None, refl, ap, ap₂, sym, ◌∙◌, subst, arith, append_assoc, true≢false, if◌then◌else◌, nat_le, eq-eqb}
use Rattle.std.specs.Option.{option_or}
use Rattle.hep_machine.specs.Words.{Name, Statement, is_among, same_name, dummies_of, no_name, locals_of}
use Rattle.hep_source.proofs.NameTests.{same_name-self}
use Rattle.hep_layout.specs.Words.{FramePart, Row, header, argument, variable, iteration, bounds, arguments_row, bounds_row, cells_in, first_in, frame_row, iterations_row, owner_in, same_part, variables_row}
use Rattle.hep_layout.proofs.FrameRows.{equal_parts, none-arguments, none-iterations, none-variables}
use Rattle.hep_layout.proofs.Rows.{first-behind, first-within, has_key}
use Rattle.hep_image.specs.declared.owners.FrameVariable.{FrameVariable}
use Rattle.hep_image.specs.Owners.{AreInOrder, IsTold, argument_at, frame_variables, last_before, variable_at}
use Rattle.hep_image.proofs.Distinct.{AreDistinct, distinct_by_index, locals_distinct}
use Rattle.hep_image.proofs.Numbers.{dummy-named, local-named, variable-inside}
use Rattle.hep_image.proofs.RowOwners.{AreApart, AreFrom, from-append, from-firsts, from-found, from-rising, made, owner_back, owner_front, owner_key}
use Rattle.hep_code.specs.Sources.{IsNamedOnce}

self : (p : FramePart) → same_part p p ≡ true
self header = refl
self (argument x) = same_name-self x
self (variable x) = same_name-self x
self (iteration d) = eq-eqb d d refl
self (bounds x) = same_name-self x

-- ---- which parts are in which row

in_arguments : (x : Name) (xs : List Name) → has_key (same_part (argument x)) (arguments_row xs) ≡ is_among x xs
in_arguments x [] = refl
in_arguments x (y ∷ ys) = ap (λ t. if same_name x y then true else t) (in_arguments x ys)

in_variables : (unit : List Statement) (x : Name) (xs : List Name) → has_key (same_part (variable x)) (variables_row unit xs) ≡ is_among x xs
in_variables unit x [] = refl
in_variables unit x (y ∷ ys) = ap (λ t. if same_name x y then true else t) (in_variables unit x ys)

no_bounds : (part : FramePart) (unit : List Statement) (xs : List Name) → ((y : Name) → same_part part (bounds y) ≡ false)
    → has_key (same_part part) (bounds_row unit xs) ≡ false
no_bounds part unit [] other = refl
no_bounds part unit (x ∷ xs) other = rw (other x) (no_bounds part unit xs other)

in_neither : {K : Type 0} (test : K → Bool) (es fs : Row K) → has_key test es ≡ false → has_key test fs ≡ false → has_key test (es ++ fs) ≡ false
in_neither test [] fs h g = g
in_neither test (e ∷ es) fs h g = by (test e.0) h (λ f. in_neither test es fs f g) where
  by : (b : Bool) → (if b then true else has_key test es) ≡ false → (has_key test es ≡ false → has_key test (es ++ fs) ≡ false)
      → (if b then true else has_key test (es ++ fs)) ≡ false
  by true f rest = absurd cc
  by false f rest = rest f

-- ---- the last one of two lists

last-append : {A : Type 0} (first : A → ℕ) (xs ys : List A) (n : ℕ) (y : A) → last_before first ys n ≡ Some y → last_before first (xs ++ ys) n ≡ Some y
last-append first [] ys n y h = h
last-append first (x ∷ xs) ys n y h = ap (λ o. option_or o (if nat_le (first x) n then Some x else None)) (last-append first xs ys n y h)

-- ---- the variables of a frame

module _ (unit : List Statement) where
  abbrev first_of : FrameVariable → ℕ
  first_of v = v.first

  -- nothing else has one
  abbrev made_for : FramePart → FrameVariable
  made_for (argument x) = argument_at unit x
  made_for (variable x) = variable_at unit x
  made_for _ = argument_at unit no_name

  abbrev front : Row FramePart
  front = (header, 1) ∷ arguments_row (dummies_of unit)

  abbrev variables : Row FramePart
  variables = variables_row unit (locals_of unit)

  abbrev others : Row FramePart
  others = iterations_row 0 unit ++ bounds_row unit (dummies_of unit)

  no_others : (part : FramePart) → ((d : ℕ) → same_part part (iteration d) ≡ false) → ((y : Name) → same_part part (bounds y) ≡ false) → has_key (same_part part) others ≡ false
  no_others part no_do no_bound =
      in_neither (same_part part) (iterations_row 0 unit) (bounds_row unit (dummies_of unit)) (none-iterations part 0 unit no_do) (no_bounds part unit (dummies_of unit) no_bound)

  made_variables : (xs : List Name) → made made_for first_of (variables_row unit xs) ≡ map (variable_at unit) xs
  made_variables [] = refl
  made_variables (x ∷ xs) = ap (λ vs. variable_at unit x ∷ vs) (made_variables xs)

  made_both : (xs ys : List Name) → made made_for first_of (arguments_row xs ++ variables_row unit ys) ≡ map (argument_at unit) xs ++ map (variable_at unit) ys
  made_both [] ys = made_variables ys
  made_both (x ∷ xs) ys = ap (λ vs. argument_at unit x ∷ vs) (made_both xs ys)

  apart_arguments : (xs : List Name) → AreDistinct same_name xs → AreApart made_for first_of same_part self equal_parts (arguments_row xs)
  apart_arguments [] h = tt
  apart_arguments (x ∷ xs) h = (in_arguments x xs ∙ h.0, apart_arguments xs h.1)

  apart_variables : (xs : List Name) → AreDistinct same_name xs → AreApart made_for first_of same_part self equal_parts (variables_row unit xs)
  apart_variables [] h = tt
  apart_variables (x ∷ xs) h = (in_variables unit x xs ∙ h.0, apart_variables xs h.1)

  -- a local variable begins behind the dummy arguments
  variable_begins : (k : FramePart) → has_key (same_part k) variables ≡ true → first_of (made_for k) ≡ cells_in front + first_in (same_part k) variables
  variable_begins (variable x) h =
      first-behind (same_part (variable x)) front (variables ++ others) (none-arguments (variable x) (dummies_of unit) (λ y. refl))
      ∙ ap (λ n. cells_in front + n) (first-within (same_part (variable x)) variables others h)
  variable_begins (argument x) h = absurd (true≢false (sym h ∙ none-variables (argument x) unit (locals_of unit) (λ y. refl)))
  variable_begins header h = absurd (true≢false (sym h ∙ none-variables header unit (locals_of unit) (λ y. refl)))
  variable_begins (iteration d) h = absurd (true≢false (sym h ∙ none-variables (iteration d) unit (locals_of unit) (λ y. refl)))
  variable_begins (bounds x) h = absurd (true≢false (sym h ∙ none-variables (bounds x) unit (locals_of unit) (λ y. refl)))

  variables_from : AreFrom made_for first_of (cells_in front) variables
  variables_from =
      from-firsts made_for first_of same_part self equal_parts (cells_in front) variables (apart_variables (locals_of unit) (locals_distinct unit)) variable_begins

  argument_begins : (k : FramePart) → has_key (same_part k) (arguments_row (dummies_of unit)) ≡ true
      → first_of (made_for k) ≡ 1 + first_in (same_part k) (arguments_row (dummies_of unit))
  argument_begins (argument x) h = ap (λ n. 1 + n) (first-within (same_part (argument x)) (arguments_row (dummies_of unit)) (variables ++ others) h)
  argument_begins (variable x) h = absurd (true≢false (sym h ∙ none-arguments (variable x) (dummies_of unit) (λ y. refl)))
  argument_begins header h = absurd (true≢false (sym h ∙ none-arguments header (dummies_of unit) (λ y. refl)))
  argument_begins (iteration d) h = absurd (true≢false (sym h ∙ none-arguments (iteration d) (dummies_of unit) (λ y. refl)))
  argument_begins (bounds x) h = absurd (true≢false (sym h ∙ none-arguments (bounds x) (dummies_of unit) (λ y. refl)))

  both_from : AreDistinct same_name (dummies_of unit) → AreFrom made_for first_of 1 (arguments_row (dummies_of unit) ++ variables)
  both_from h =
      from-append made_for first_of 1 (arguments_row (dummies_of unit)) variables
      (from-firsts made_for first_of same_part self equal_parts 1 (arguments_row (dummies_of unit)) (apart_arguments (dummies_of unit) h) argument_begins) variables_from

  -- ---- whose a cell is

  pub tells_variable : (x : Name) (i n : ℕ) → owner_in (frame_row unit) n ≡ Some (variable x, i)
      → IsTold unit n x i
  tells_variable x i n e =
      let there = owner_back same_part self front (variables ++ others) n i (variable x) (none-arguments (variable x) (dummies_of unit) (λ y. refl)) e in
      let none = no_others (variable x) (λ d. refl) (λ y. refl) in
      let mine = owner_front same_part self variables others (n - cells_in front) i (variable x) none there.1 in
      let found = from-found made_for first_of (cells_in front) (n - cells_in front) i (variable x) variables variables_from mine in
      let back : cells_in front + (n - cells_in front) ≡ n = omega (arith, there.0) in
      let last : last_before first_of (map (variable_at unit) (locals_of unit)) n ≡ Some (variable_at unit x)
      = ap₂ (λ vs m. last_before first_of vs m) (sym (made_variables (locals_of unit))) (sym back) ∙ found.0 in
      let local = sym (in_variables unit x (locals_of unit)) ∙ owner_key same_part self variables (n - cells_in front) i (variable x) mine in
      record {
        found = variable_at unit x;
        before = last-append first_of (map (argument_at unit) (dummies_of unit)) (map (variable_at unit) (locals_of unit)) n (variable_at unit x) last;
        index = refl;
        named = local-named unit x local;
        inside = variable-inside unit x (local-named unit x local);
        behind = found.1 ∙ back;
        array = refl;
      }

  pub tells_argument : (x : Name) (i n : ℕ) → IsNamedOnce (dummies_of unit) → owner_in (frame_row unit) n ≡ Some (argument x, i)
      → IsTold unit n x i
  tells_argument x i n once e =
      let dummies = arguments_row (dummies_of unit) in
      let there = owner_back same_part self ((header, 1) ∷ []) (dummies ++ (variables ++ others)) n i (argument x) refl e in
      let none = no_others (argument x) (λ d. refl) (λ y. refl) in
      let together : owner_in ((dummies ++ variables) ++ others) (n - 1) ≡ Some (argument x, i)
      = ap (λ es. owner_in es (n - 1)) (append_assoc dummies variables others) ∙ there.1 in
      let mine = owner_front same_part self (dummies ++ variables) others (n - 1) i (argument x) none together in
      let from = both_from (distinct_by_index (dummies_of unit) once) in
      let found = from-found made_for first_of 1 (n - 1) i (argument x) (dummies ++ variables) from mine in
      let back : 1 + (n - 1) ≡ n = omega (arith, there.0) in
      let apart = none-variables (argument x) unit (locals_of unit) (λ y. refl) in
      let own = owner_front same_part self dummies variables (n - 1) i (argument x) apart mine in
      let given = sym (in_arguments x (dummies_of unit)) ∙ owner_key same_part self dummies (n - 1) i (argument x) own in
      record {
        found = argument_at unit x;
        before = ap₂ (λ vs m. last_before first_of vs m) (sym (made_both (dummies_of unit) (locals_of unit))) (sym back) ∙ found.0;
        index = refl;
        named = dummy-named unit x given;
        inside = variable-inside unit x (dummy-named unit x given);
        behind = found.1 ∙ back;
        array = refl;
      }

  pub in_order : IsNamedOnce (dummies_of unit) → AreInOrder (frame_variables unit)
  in_order once =
      subst AreInOrder (made_both (dummies_of unit) (locals_of unit)) (
      from-rising made_for first_of 1 (arguments_row (dummies_of unit) ++ variables) (both_from (distinct_by_index (dummies_of unit) once)))
