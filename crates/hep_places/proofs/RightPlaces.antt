-- What is found of a unit of an accepted program is where its things are.
use Rattle.std.proofs.Common.{◌≡◌, ℕ, zero, suc, ◌+◌, ◌≤◌, Bool, true, false, List, [], ◌∷◌, map, length, Option, Some, None, refl, ap, sym, ◌∙◌, subst, arith, true≢false, cond, if◌then◌else◌, nat_eq, eqb-true}
use Rattle.std.specs.List.{filter, flat_map}
use Rattle.std.specs.Option.{option_map, unwrap_or}
use Rattle.std.proofs.lemmas.Option.{none-some}
use Rattle.hep_source.proofs.NameTests.{equal_names}
use Rattle.hep_machine.specs.Words.{CommonBlock, Declarator, Name, Occurrence, Form, Statement, index_among, is_among, same_name, Units, dummies_by_header, dummies_of, adjustable_dimensions, bounds_of, constant_shape, constant_value, constants_of, if_shape, BlockName, blocks_in, blocks_of_unit, common_block, dimensions_of, is_array, is_nonempty, names_declared, no_shape, Bounds, is_local, locals_of, names_of, occurrences_in_block, occurrences_in_declarator, occurrences_in_form, occurrences_in_statement, occurrences_of}
use Rattle.hep_source.specs.declared.statement.Form.TheVariants as form
use Rattle.hep_accepted_laws.proofs.Members.{Has, among_has, flat_has, has_behind, has_filter, has_flat, has_front, has_more, map_at, has_among, name_of_unit}
use Rattle.hep_code.specs.declared.variable.Variable.{Variable}
use Rattle.hep_code.specs.declared.variable.Variable.TheVariants as variables
use Rattle.hep_layout.specs.Words.{bounds, first_of_part, variable}
use Rattle.hep_image.specs.declared.array.Extents.TheVariants.{Constant, Adjustable}
use Rattle.hep_image.specs.declared.array.Start.{Start}
use Rattle.hep_image.specs.declared.array.Start.TheVariants.{Local}
use Rattle.hep_image.specs.Places.{array_of, arrays_of, extents_of, scalar, start_by, start_of, variable_by, variable_of}
use Rattle.hep_image.specs.Private.{is_private, private_cells}
use Rattle.hep_names.proofs.CellCounts.{adjustable}
use Rattle.hep_storage.specs.Starts.{narrowed}
use Rattle.hep_places.specs.StorageStarts.{Table, array_found, arrays_with, constant_extents, extents_found, variable_among, variable_found}
use Rattle.hep_places.proofs.InBlocks.{held-by, none-before}
use Rattle.hep_places.proofs.Narrowed.{narrowed-more, narrowed-small, narrowed-zero}
use Rattle.hep_accepted_laws.proofs.Arrays.{kept_passes}
use Rattle.hep_source.proofs.Tests.{index-below}

-- ---- lists

pub map-same : {A : Type 0} (f g : Name → A) (xs : List Name) → ((x : Name) → Has xs x → f x ≡ g x) → map f xs ≡ map g xs
map-same f g [] h = refl
map-same f g (x ∷ xs) h = (λ i. h x (zero, refl) i ∷ map-same f g xs (λ y k. h y (has_more x xs y k)) i)

-- ---- what has storage units is a name of the unit

header-named : (unit : List Statement) (f : Form) (x : Name) → Has (dummies_by_header f) x → (p : Occurrence) × Has (occurrences_in_form unit f) p × (p.name ≡ x)
header-named unit (form.Subroutine q ps) x h = let found = map_at (λ (p : Occurrence). p.name) ps h.0 x h.1 in (found.0, (h.0, found.1), found.2)
header-named unit (form.Function t q ps) x h =
    let found = map_at (λ (p : Occurrence). p.name) ps h.0 x h.1 in (found.0, has_more q ps found.0 (h.0, found.1), found.2)
header-named unit _ x h = absurd (none-some x h.1)

pub dummy-named : (unit ss : List Statement) (x : Name) → Has (dummies_of ss) x → (p : Occurrence) × Has (flat_map (occurrences_in_statement unit) ss) p × (p.name ≡ x)
dummy-named unit [] x h = absurd (none-some x h.1)
dummy-named unit (s ∷ ss) x h =
    let found = header-named unit s.form x h in
    (found.0, has_front (occurrences_in_statement unit s) (flat_map (occurrences_in_statement unit) ss) found.0 (has_behind _ (occurrences_in_form unit s.form) found.0 found.1), found.2)

-- a name that a common block declares occurs in the form
pub common-named : (unit : List Statement) (f : Form) (c : CommonBlock) (x : Name) → Has (blocks_in f) c → is_among x (names_declared c.entries) ≡ true → (p : Occurrence) × Has (occurrences_in_form unit f) p × (p.name ≡ x)
common-named unit (form.Common cs) c x h e =
    let name = among_has x (names_declared c.entries) e in
    let found = map_at (λ (d : Declarator). d.occurrence.name) c.entries name.0 x name.1 in
    (found.0.occurrence, has_flat (occurrences_in_block unit) cs c found.0.occurrence h (has_flat (occurrences_in_declarator unit) c.entries found.0 found.0.occurrence (name.0, found.1) (zero, refl)), found.2)
common-named unit _ c x h e = absurd (none-some c h.1)

index-has : (x : Name) (xs : List Name) (k : ℕ) → index_among x xs ≡ Some k → Has xs x
index-has x [] k e = absurd (none-some k e)
index-has x (y ∷ ys) k e = by (same_name x y) refl e (index-has x ys) where
  by_index : (o : Option ℕ) → index_among x ys ≡ o → option_map suc o ≡ Some k → ((j : ℕ) → index_among x ys ≡ Some j → Has ys x) → Has (y ∷ ys) x
  by_index None i e rest = absurd (none-some k e)
  by_index (Some j) i e rest = has_more y ys x (rest j i)

  by : (t : Bool) → same_name x y ≡ t → (if t then Some 0 else option_map suc (index_among x ys)) ≡ Some k → ((j : ℕ) → index_among x ys ≡ Some j → Has ys x) → Has (y ∷ ys) x
  by true t e rest = (zero, ap Some (sym (equal_names x y t)))
  by false t e rest = by_index (index_among x ys) refl e rest

-- a name that has a start is among the names of its unit
pub started-named : (program : Units) (unit : List Statement) (x : Name) (at : Start) → start_of program unit x ≡ Some at → is_among x (names_of unit) ≡ true
unfolding start_of
started-named program unit x at e = by_index (index_among x (dummies_of unit)) refl e where
  named : (p : Occurrence) → Has (occurrences_of unit) p → p.name ≡ x → is_among x (names_of unit) ≡ true
  named p h e = subst (λ y. is_among y (names_of unit) ≡ true) e (has_among (names_of unit) p.name (name_of_unit unit p h))

  by_local : (t : Bool) → is_among x (locals_of unit) ≡ t → start_by program unit x None None t ≡ Some at → is_among x (names_of unit) ≡ true
  by_local true t e = has_among (names_of unit) x (kept_passes (is_local unit) (names_of unit) x (among_has x (locals_of unit) t)).0
  by_local false t e = absurd (none-some at e)

  by_block : (b : Option BlockName) → common_block unit x ≡ b → start_by program unit x None b (is_among x (locals_of unit)) ≡ Some at → is_among x (names_of unit) ≡ true
  by_block (Some b) h e =
      let held = held-by x b (blocks_of_unit unit) h in
      let statement = flat_has (λ (s : Statement). blocks_in s.form) unit held.0 held.1 in
      let found = common-named unit statement.0.form held.0 x statement.2 held.3 in
      named found.0 (has_flat (occurrences_in_statement unit) unit statement.0 found.0 statement.1 (has_behind _ (occurrences_in_form unit statement.0.form) found.0 found.1)) found.2
  by_block None h e = by_local (is_among x (locals_of unit)) refl e

  by_index : (k : Option ℕ) → index_among x (dummies_of unit) ≡ k → start_by program unit x k (common_block unit x) (is_among x (locals_of unit)) ≡ Some at → is_among x (names_of unit) ≡ true
  by_index (Some k) h e = let found = dummy-named unit unit x (index-has x (dummies_of unit) k h) in named found.0 found.1 found.2
  by_index None h e = by_block (common_block unit x) refl e

-- ---- variables

module _ (unit : List Statement) (start : Name → Option Start) (x : Name) where
  abbrev numbered : ℕ → Variable
  numbered n = variable_found unit n x (start x)

  one-more : (n k : ℕ) → n + 1 + k ≡ n + suc k
  one-more n k = omega arith

  none-more : (n : ℕ) → n ≡ n + 0
  none-more n = omega arith

  shifted : (n : ℕ) (o : Option ℕ) → option_map (λ k. numbered (narrowed (n + 1 + k))) o ≡ option_map (λ k. numbered (narrowed (n + k))) (option_map suc o)
  shifted n None = refl
  shifted n (Some k) = ap (λ m. Some (numbered (narrowed m))) (one-more n k)

  array-among : (ys : List Name) (n : ℕ) → is_array unit x ≡ true → variable_among unit start (narrowed n) ys x ≡ option_map (λ k. numbered (narrowed (n + k))) (index_among x (filter (is_array unit) ys))
  array-among [] n h = refl
  array-among (y ∷ ys) n h = by (same_name x y) refl (is_array unit y) refl (array-among ys (n + 1) h) (array-among ys n h) where
    by : (t : Bool) → same_name x y ≡ t → (a : Bool) → is_array unit y ≡ a
        → variable_among unit start (narrowed (n + 1)) ys x ≡ option_map (λ k. numbered (narrowed (n + 1 + k))) (index_among x (filter (is_array unit) ys))
        → variable_among unit start (narrowed n) ys x ≡ option_map (λ k. numbered (narrowed (n + k))) (index_among x (filter (is_array unit) ys))
        → (if t then Some (variable_found unit (narrowed n) y (start y)) else variable_among unit start (if a then narrowed (narrowed n + 1) else narrowed n) ys x)
        ≡ option_map (λ k. numbered (narrowed (n + k))) (index_among x (cond a (y ∷ filter (is_array unit) ys) (filter (is_array unit) ys)))
    by true t true a more rest =
        let same = equal_names x y t in
        ap (λ z. Some (variable_found unit (narrowed n) z (start z))) (sym same)
        ∙ (ap (λ m. Some (numbered (narrowed m))) (none-more n)
        ∙ ap (λ s. option_map (λ k. numbered (narrowed (n + k))) (if s then Some 0 else option_map suc (index_among x (filter (is_array unit) ys)))) (sym t))
    by true t false a more rest = absurd (true≢false (sym h ∙ (ap (is_array unit) (equal_names x y t) ∙ a)))
    by false t true a more rest =
        ap (λ m. variable_among unit start m ys x) (narrowed-more n 1)
        ∙ (more
        ∙ (shifted n (index_among x (filter (is_array unit) ys))
        ∙ ap (λ s. option_map (λ k. numbered (narrowed (n + k))) (if s then Some 0 else option_map suc (index_among x (filter (is_array unit) ys)))) (sym t)))
    by false t false a more rest = rest

  unnumbered : (m n : ℕ) → is_array unit x ≡ false → numbered m ≡ numbered n
  unnumbered m n h = by_start (start x) where
    by_array : (at : Start) (a : Bool) → a ≡ false → (if a then variables.Array x.asynchronous m else scalar x.asynchronous at) ≡ (if a then variables.Array x.asynchronous n else scalar x.asynchronous at)
    by_array at true e = absurd (true≢false e)
    by_array at false e = refl

    by_start : (o : Option Start) → variable_found unit m x o ≡ variable_found unit n x o
    by_start None = refl
    by_start (Some at) = by_array at (is_array unit x) h

  scalar-among : (ys : List Name) (n : ℕ) → is_array unit x ≡ false → variable_among unit start n ys x ≡ (if is_among x ys then Some (numbered 0) else None)
  scalar-among [] n h = refl
  scalar-among (y ∷ ys) n h = by (same_name x y) refl (scalar-among ys (arrays_with unit n y) h) where
    by : (t : Bool) → same_name x y ≡ t → variable_among unit start (arrays_with unit n y) ys x ≡ (if is_among x ys then Some (numbered 0) else None)
        → (if t then Some (variable_found unit n y (start y)) else variable_among unit start (arrays_with unit n y) ys x) ≡ (if (if t then true else is_among x ys) then Some (numbered 0) else None)
    by true t rest = ap (λ z. Some (variable_found unit n z (start z))) (sym (equal_names x y t)) ∙ ap Some (unnumbered n 0 h)
    by false t rest = rest

pub index-there : (x : Name) (xs : List Name) → is_among x xs ≡ true → (k : ℕ) × (index_among x xs ≡ Some k)
index-there x [] h = absurd (true≢false (sym h))
index-there x (y ∷ ys) h = by (same_name x y) h (index-there x ys) where
  by : (t : Bool) → (if t then true else is_among x ys) ≡ true → (is_among x ys ≡ true → (k : ℕ) × (index_among x ys ≡ Some k)) → (k : ℕ) × ((if t then Some 0 else option_map suc (index_among x ys)) ≡ Some k)
  by true h rest = (0, refl)
  by false h rest = let found = rest h in (suc found.0, ap (option_map suc) found.1)

none-found : (o : Option ℕ) → unwrap_or (option_map (λ k. variables.Absent) o) variables.Absent ≡ variables.Absent
none-found None = refl
none-found (Some k) = refl

none-there : (b : Bool) → unwrap_or (if b then Some variables.Absent else None) variables.Absent ≡ variables.Absent
none-there true = refl
none-there false = refl

array-right : (program : Units) (unit : List Statement) (x : Name) (o : Option Start) → length (arrays_of unit) ≤ 33554432 → is_array unit x ≡ true → start_of program unit x ≡ o
    → unwrap_or (option_map (λ k. variable_found unit (narrowed (0 + k)) x o) (index_among x (arrays_of unit))) variables.Absent ≡ variable_by unit x o
array-right program unit x None few h e = none-found (index_among x (arrays_of unit))
array-right program unit x (Some at) few h e =
    let named = among_has x (names_of unit) (started-named program unit x at e) in
    let found = index-there x (arrays_of unit) (has_among (arrays_of unit) x (has_filter (is_array unit) (names_of unit) x named h)) in
    let small : 0 + found.0 ≤ 4294967295 = omega (arith, few, index-below (same_name x) (arrays_of unit) found.0 found.1) in
    let number : narrowed (0 + found.0) ≡ unwrap_or (index_among x (arrays_of unit)) 0 = narrowed-small (0 + found.0) small ∙ (none-before found.0 ∙ ap (λ o. unwrap_or o 0) (sym found.1)) in
    ap (λ o. unwrap_or (option_map (λ k. variable_found unit (narrowed (0 + k)) x (Some at)) o) variables.Absent) found.1
    ∙ ap (λ n. if is_array unit x then variables.Array x.asynchronous n else scalar x.asynchronous at) number

scalar-right : (program : Units) (unit : List Statement) (x : Name) (o : Option Start) → is_array unit x ≡ false → start_of program unit x ≡ o
    → unwrap_or (if is_among x (names_of unit) then Some (variable_found unit 0 x o) else None) variables.Absent ≡ variable_by unit x o
scalar-right program unit x None h e = none-there (is_among x (names_of unit))
scalar-right program unit x (Some at) h e =
    ap (λ b. unwrap_or (if b then Some (variable_found unit 0 x (Some at)) else None) variables.Absent) (started-named program unit x at e) ∙ by (is_array unit x) h
  where
    by : (a : Bool) → a ≡ false → (if a then variables.Array x.asynchronous 0 else scalar x.asynchronous at) ≡ (if a then variables.Array x.asynchronous (unwrap_or (index_among x (arrays_of unit)) 0) else scalar x.asynchronous at)
    by true f = absurd (true≢false f)
    by false f = refl

pub variables-right : (program : Units) (unit : List Statement) (start : Name → Option Start) (x : Name) → ((y : Name) → start y ≡ start_of program unit y) → length (arrays_of unit) ≤ 33554432
    → unwrap_or (variable_among unit start 0 (names_of unit) x) variables.Absent ≡ variable_of program unit x
unfolding variable_of
variables-right program unit start x right few =
    ap (λ (f : Name → Option Start). unwrap_or (variable_among unit f 0 (names_of unit) x) variables.Absent) (λ i y. right y i) ∙ by_array (is_array unit x) refl
  where
    by_array : (a : Bool) → is_array unit x ≡ a → unwrap_or (variable_among unit (λ y. start_of program unit y) 0 (names_of unit) x) variables.Absent ≡ variable_by unit x (start_of program unit x)
    by_array true h =
        ap (λ n. unwrap_or (variable_among unit (λ y. start_of program unit y) n (names_of unit) x) variables.Absent) (sym narrowed-zero)
        ∙ (ap (λ o. unwrap_or o variables.Absent) (array-among unit (λ y. start_of program unit y) x (names_of unit) 0 h) ∙ array-right program unit x (start_of program unit x) few h refl)
    by_array false h =
        ap (λ o. unwrap_or o variables.Absent) (scalar-among unit (λ y. start_of program unit y) x (names_of unit) 0 h) ∙ scalar-right program unit x (start_of program unit x) h refl

-- ---- arrays

-- arrays whose bounds are constant have shapes, and all others are dummy arguments
pub record HasShapes (unit : List Statement) : Type 0 where
  pub constant : (x : Name) → is_array unit x ≡ true → adjustable_dimensions unit x ≡ 0 → (bs : Bounds) × (constant_shape unit x ≡ Some bs)
  pub adjusted : (x : Name) → is_array unit x ≡ true → (bs : Bounds) × (constant_shape unit x ≡ Some bs) → adjustable_dimensions unit x ≡ 0
  pub own : (x : Name) → is_array unit x ≡ true → index_among x (dummies_of unit) ≡ None → (bs : Bounds) × (constant_shape unit x ≡ Some bs)

pub constant-is-fixed : (unit : List Statement) (x : Name) → is_array unit x ≡ true → (bs : Bounds) × (constant_shape unit x ≡ Some bs) → adjustable_dimensions unit x ≡ 0
constant-is-fixed unit x h found = by_array (is_nonempty (dimensions_of unit x)) h found.1 where
  by_bounds : (o : Option Bounds) → bounds_of unit (constant_value unit) (dimensions_of unit x) ≡ o → if_shape o ≡ Some found.0 → adjustable_dimensions unit x ≡ 0
  by_bounds None b e = absurd (none-some found.0 e)
  by_bounds (Some bs) b e = sym (adjustable unit x (constants_of unit) (dimensions_of unit x) (Some bs) 0 refl (sym b) refl refl)

  by_array : (t : Bool) → t ≡ true → (if t then if_shape (bounds_of unit (constant_value unit) (dimensions_of unit x)) else Some []) ≡ Some found.0 → adjustable_dimensions unit x ≡ 0
  by_array true t e = by_bounds (bounds_of unit (constant_value unit) (dimensions_of unit x)) refl e
  by_array false t e = absurd (true≢false (sym t))

pub extents-right : (unit : List Statement) (starts : Table) (x : Name) → HasShapes unit → is_array unit x ≡ true
    → ((k : ℕ) → index_among x (dummies_of unit) ≡ Some k → starts x ≡ Some (first_of_part unit (bounds x)))
    → ((k : ℕ) → index_among x (dummies_of unit) ≡ Some k → narrowed (adjustable_dimensions unit x) ≡ adjustable_dimensions unit x)
    → extents_found unit starts x ≡ extents_of unit x
extents-right unit starts x shapes h at small = by_test (nat_eq (adjustable_dimensions unit x) 0) refl where
  by_shape : (o : Option Bounds) (bs : Bounds) → o ≡ Some bs → constant_extents o ≡ Constant (unwrap_or o no_shape)
  by_shape None bs e = absurd (none-some bs e)
  by_shape (Some cs) bs e = refl

  by_index : (o : Option ℕ) → index_among x (dummies_of unit) ≡ o → nat_eq (adjustable_dimensions unit x) 0 ≡ false
      → Adjustable (unwrap_or (starts x) 0) (narrowed (adjustable_dimensions unit x)) ≡ Adjustable (first_of_part unit (bounds x)) (adjustable_dimensions unit x)
  by_index (Some k) i t = (λ j. Adjustable (unwrap_or (at k i j) 0) (small k i j))
  by_index None i t = absurd (true≢false (sym (ap (λ n. nat_eq n 0) (shapes.adjusted x h (shapes.own x h i))) ∙ t))

  by_test : (t : Bool) → nat_eq (adjustable_dimensions unit x) 0 ≡ t
      → (if t then constant_extents (constant_shape unit x) else Adjustable (unwrap_or (starts x) 0) (narrowed (adjustable_dimensions unit x)))
      ≡ (if t then Constant (unwrap_or (constant_shape unit x) no_shape) else Adjustable (first_of_part unit (bounds x)) (adjustable_dimensions unit x))
  by_test true t = let found = shapes.constant x h (eqb-true (adjustable_dimensions unit x) 0 t) in by_shape (constant_shape unit x) found.0 found.1
  by_test false t = by_index (index_among x (dummies_of unit)) refl t

pub arrays-right : (program : Units) (unit : List Statement) (start : Name → Option Start) (starts : Table) → ((x : Name) → start x ≡ start_of program unit x)
    → ((x : Name) → is_array unit x ≡ true → extents_found unit starts x ≡ extents_of unit x) → map (array_found unit start starts) (arrays_of unit) ≡ map (array_of program unit) (arrays_of unit)
arrays-right program unit start starts right extents =
    map-same (array_found unit start starts) (array_of program unit) (arrays_of unit) (λ x h. (λ i. record { start = unwrap_or (right x i) (Local 0); extents = extents x (kept_passes (is_array unit) (names_of unit) x h).1 i }))

-- ---- private cells

pub private-right : (unit : List Statement) (locals : Table) → ((x : Name) → is_among x (locals_of unit) ≡ true → locals x ≡ Some (first_of_part unit (variable x)))
    → map (λ (x : Name). unwrap_or (locals x) 0) (filter (is_private unit) (locals_of unit)) ≡ private_cells unit
private-right unit locals at =
    map-same (λ (x : Name). unwrap_or (locals x) 0) (λ (x : Name). first_of_part unit (variable x)) (filter (is_private unit) (locals_of unit)) (λ x h. ap (λ o. unwrap_or o 0) (at x (has_among (locals_of unit) x (kept_passes (is_private unit) (locals_of unit) x h).0)))
