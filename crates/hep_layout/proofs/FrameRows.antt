-- The row of a frame: its cells, and where those of each part begin.
use Rattle.std.proofs.Common.{◌≡◌, ℕ, zero, suc, ◌+◌, ◌*◌, ◌≤◌, Bool, true, false, List, [], ◌∷◌, ◌++◌, length, take, Some, refl, sym, ap, ◌∙◌, subst, arith, inl, inr, slice_get}
use Rattle.std.proofs.lemmas.Bool.{eqb-true, cases_Bool}
use Rattle.std.proofs.lemmas.Bool.Decides.{nat_tests}
use Rattle.std.proofs.lemmas.Option.{same_Some, none-some}
use Rattle.hep_machine.specs.Words.{Name, Statement, same_name, is_among, index_among, dummies_of, adjustable_dimensions, cells_of, cells_of_all, cells_before, adjustable_dimensions_of_all, do_statements, frame_cells, is_do, locals_of}
use Rattle.hep_source.proofs.NameTests.{equal_names}
use Rattle.hep_layout.specs.Words.{FramePart, Row, header, argument, variable, iteration, bounds, cells_in, first_in, size_in, same_part, arguments_row, variables_row, iterations_row, bounds_row, frame_row}
use Rattle.hep_layout.proofs.Rows.{cells_in-append, has_key, IsEntry, entry-here, entry-next, entry-within, entry-behind, entry-at}
use Rattle.hep_machine.proofs.Frames.{mapped_from}

pub equal_parts : (p q : FramePart) → same_part p q ≡ true → p ≡ q
equal_parts header header e = refl
equal_parts (argument x) (argument y) e = ap (λ z. argument z) (equal_names x y e)
equal_parts (variable x) (variable y) e = ap (λ z. variable z) (equal_names x y e)
equal_parts (iteration d) (iteration f) e = ap (λ z. iteration z) (eqb-true d f e)
equal_parts (bounds x) (bounds y) e = ap (λ z. bounds z) (equal_names x y e)
equal_parts p q e = absurd cc

-- ---- how many cells there are

arguments-cells : (xs : List Name) → cells_in (arguments_row xs) ≡ 2 * length xs
arguments-cells [] = refl
arguments-cells (x ∷ xs) = omega (arith, arguments-cells xs)

variables-cells : (unit : List Statement) (xs : List Name) → cells_in (variables_row unit xs) ≡ cells_of_all unit xs
variables-cells unit [] = refl
variables-cells unit (x ∷ xs) = ap (λ n. cells_of unit x + n) (variables-cells unit xs)

iterations-cells : (k : ℕ) (ss : List Statement) → cells_in (iterations_row k ss) ≡ 2 * do_statements ss
iterations-cells k [] = refl
iterations-cells k (s ∷ ss) = grind (arith, iterations-cells (suc k) ss)

bounds-cells : (unit : List Statement) (xs : List Name) → cells_in (bounds_row unit xs) ≡ 2 * adjustable_dimensions_of_all unit xs
bounds-cells unit [] = refl
bounds-cells unit (x ∷ xs) = omega (arith, bounds-cells unit xs)

pub frame_row-cells : (unit : List Statement) → cells_in (frame_row unit) ≡ frame_cells unit
frame_row-cells unit =
    let dummies = dummies_of unit in
    let locals = locals_of unit in
    omega (
      arith,
      cells_in-append (arguments_row dummies) (variables_row unit locals ++ (iterations_row 0 unit ++ bounds_row unit dummies)),
      cells_in-append (variables_row unit locals) (iterations_row 0 unit ++ bounds_row unit dummies),
      cells_in-append (iterations_row 0 unit) (bounds_row unit dummies),
      arguments-cells dummies,
      variables-cells unit locals,
      iterations-cells 0 unit,
      bounds-cells unit dummies,
    )

-- ---- what has no place in a part of the row

pub none-arguments : (part : FramePart) (xs : List Name) → ((y : Name) → same_part part (argument y) ≡ false) → has_key (same_part part) (arguments_row xs) ≡ false
none-arguments part [] other = refl
none-arguments part (x ∷ xs) other = rw (other x) (none-arguments part xs other)

pub none-variables : (part : FramePart) (unit : List Statement) (xs : List Name) → ((y : Name) → same_part part (variable y) ≡ false) → has_key (same_part part) (variables_row unit xs) ≡ false
none-variables part unit [] other = refl
none-variables part unit (x ∷ xs) other = rw (other x) (none-variables part unit xs other)

pub none-iterations : (part : FramePart) (k : ℕ) (ss : List Statement) → ((d : ℕ) → same_part part (iteration d) ≡ false) → has_key (same_part part) (iterations_row k ss) ≡ false
none-iterations part k [] other = refl
none-iterations part k (s ∷ ss) other = grind (arith, none-iterations part (suc k) ss other, other k)

-- ---- where a part begins in its part of the row

argument-entry : (x : Name) (xs : List Name) (k : ℕ) → index_among x xs ≡ Some k → IsEntry (same_part (argument x)) (arguments_row xs) (2 * k) 2
argument-entry x [] k e = absurd (none-some k e)
argument-entry x (y ∷ ys) k e = elim (cases_Bool (same_name x y)) [
  | inl t ↦ entry-at (omega (arith, same_Some 0 k (rw t at e))) (entry-here (argument y) 2 t)
  | inr t ↦ let found = mapped_from suc (index_among x ys) k (rw t at e) in entry-at (omega (arith, found.2)) (entry-next (argument y) 2 t (argument-entry x ys found.0 found.1))
]

variable-entry : (unit : List Statement) (x : Name) (xs : List Name) → is_among x xs ≡ true → IsEntry (same_part (variable x)) (variables_row unit xs) (cells_before unit x xs) (cells_of unit x)
variable-entry unit x [] h = absurd cc
variable-entry unit x (y ∷ ys) h = elim (cases_Bool (same_name x y)) [
  | inl t ↦ rw t (subst (IsEntry (same_part (variable x)) (variables_row unit (y ∷ ys)) 0) (ap (cells_of unit) (sym (equal_names x y t))) (entry-here (variable y) (cells_of unit y) t))
  | inr t ↦ rw t (entry-next (variable y) (cells_of unit y) t (variable-entry unit x ys (rw t at h)))
]

iteration-entry : (k d : ℕ) (ss : List Statement) (s : Statement) → slice_get ss d ≡ Some s → is_do s.form ≡ true → IsEntry (same_part (iteration (k + d))) (iterations_row k ss) (2 * do_statements (take d ss)) 2
iteration-entry k d [] s e h = absurd (none-some s e)
iteration-entry k zero (r ∷ rs) s e h = rw (ap (λ (q : Statement). is_do q.form) (same_Some r s e) ∙ h) (entry-here (iteration k) 2 (grind (arith, nat_tests)))
iteration-entry k (suc d) (r ∷ rs) s e h =
    let further : suc k + d ≡ k + suc d = omega arith in
    let rest = subst (λ m. IsEntry (same_part (iteration m)) (iterations_row (suc k) rs) (2 * do_statements (take d rs)) 2) further (iteration-entry (suc k) d rs s e h) in
    elim (cases_Bool (is_do r.form)) [
      | inl t ↦ rw t (entry-at (omega arith) (entry-next (iteration k) 2 (grind (arith, nat_tests)) rest))
      | inr t ↦ rw t rest
    ]

bounds-entry : (unit : List Statement) (x : Name) (xs : List Name) (k : ℕ) → index_among x xs ≡ Some k → IsEntry (same_part (bounds x)) (bounds_row unit xs) (2 * adjustable_dimensions_of_all unit (take k xs)) (2 * adjustable_dimensions unit x)
bounds-entry unit x [] k e = absurd (none-some k e)
bounds-entry unit x (y ∷ ys) k e = elim (cases_Bool (same_name x y)) [
  | inl t ↦
      rw (sym (same_Some 0 k (rw t at e))) (
      subst (IsEntry (same_part (bounds x)) (bounds_row unit (y ∷ ys)) 0) (ap (λ z. 2 * adjustable_dimensions unit z) (sym (equal_names x y t))) (entry-here (bounds y) (2 * adjustable_dimensions unit y) t))
  | inr t ↦
      let found = mapped_from suc (index_among x ys) k (rw t at e) in
      rw (sym found.2) (entry-at (omega arith) (entry-next (bounds y) (2 * adjustable_dimensions unit y) t (bounds-entry unit x ys found.0 found.1)))
]

-- ---- where a part begins in the frame

module _ (unit : List Statement) where
  abbrev arguments : List (FramePart × ℕ)
  arguments = arguments_row (dummies_of unit)

  abbrev variables : List (FramePart × ℕ)
  variables = variables_row unit (locals_of unit)

  abbrev iterations : List (FramePart × ℕ)
  iterations = iterations_row 0 unit

  abbrev all_bounds : List (FramePart × ℕ)
  all_bounds = bounds_row unit (dummies_of unit)

  pub argument-first : (x : Name) (k : ℕ) → index_among x (dummies_of unit) ≡ Some k → IsEntry (same_part (argument x)) (frame_row unit) (1 + 2 * k) 2
  argument-first x k e = entry-next header 1 refl (entry-within (variables ++ (iterations ++ all_bounds)) (argument-entry x (dummies_of unit) k e))

  pub variable-first : (x : Name) → is_among x (locals_of unit) ≡ true → IsEntry (same_part (variable x)) (frame_row unit) (1 + (2 * length (dummies_of unit) + cells_before unit x (locals_of unit))) (cells_of unit x)
  variable-first x h =
      entry-at (omega (arith, arguments-cells (dummies_of unit))) (
      entry-next header 1 refl (
      entry-behind arguments (none-arguments (variable x) (dummies_of unit) (λ y. refl)) (entry-within (iterations ++ all_bounds) (variable-entry unit x (locals_of unit) h))))

  pub iteration-first : (d : ℕ) (s : Statement) → slice_get unit d ≡ Some s → is_do s.form ≡ true → IsEntry (same_part (iteration d)) (frame_row unit) (1 + (2 * length (dummies_of unit) + (cells_of_all unit (locals_of unit) + 2 * do_statements (take d unit)))) 2
  iteration-first d s e h =
      let zero_is : 0 + d ≡ d = omega arith in
      let here = subst (λ m. IsEntry (same_part (iteration m)) iterations (2 * do_statements (take d unit)) 2) zero_is (iteration-entry 0 d unit s e h) in
      entry-at (omega (arith, arguments-cells (dummies_of unit), variables-cells unit (locals_of unit))) (
      entry-next header 1 refl (
      entry-behind arguments (none-arguments (iteration d) (dummies_of unit) (λ y. refl)) (
      entry-behind variables (none-variables (iteration d) unit (locals_of unit) (λ y. refl)) (entry-within all_bounds here))))

  pub bounds-first : (x : Name) (k : ℕ) → index_among x (dummies_of unit) ≡ Some k → IsEntry (same_part (bounds x)) (frame_row unit) (1 + (2 * length (dummies_of unit) + (cells_of_all unit (locals_of unit) + (2 * do_statements unit + 2 * adjustable_dimensions_of_all unit (take k (dummies_of unit)))))) (2 * adjustable_dimensions unit x)
  bounds-first x k e =
      entry-at (omega (arith, arguments-cells (dummies_of unit), variables-cells unit (locals_of unit), iterations-cells 0 unit)) (
      entry-next header 1 refl (
      entry-behind arguments (none-arguments (bounds x) (dummies_of unit) (λ y. refl)) (
      entry-behind variables (none-variables (bounds x) unit (locals_of unit) (λ y. refl)) (
      entry-behind iterations (none-iterations (bounds x) 0 unit (λ d. refl)) (bounds-entry unit x (dummies_of unit) k e)))))

-- ---- what is found in a row is within it

pub first-size : {K : Type 0} (test : K → Bool) (es : Row K) → first_in test es + size_in test es ≤ cells_in es
first-size test [] = omega arith
first-size test (e ∷ es) = grind (arith, first-size test es)
