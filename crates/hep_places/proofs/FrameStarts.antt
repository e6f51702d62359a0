-- Where the storage units of names begin, and the rows of a frame, by what passes over them find.
use Rattle.std.proofs.Common.{◌≡◌, ℕ, zero, suc, ◌+◌, ◌*◌, ◌≤◌, Bool, true, false, List, [], ◌∷◌, map, length, take, Option, Some, None, refl, ap, sym, ◌∙◌, subst, arith, if◌then◌else◌, slice_get}
use Rattle.std.specs.Option.{option_map, unwrap_or}
use Rattle.std.specs.List.{filter}
use Rattle.std.proofs.lemmas.Option.{same_Some, none-some}
use Rattle.hep_machine.specs.Words.{Name, Statement, no_statement, index_among, is_among, same_name, Units, dummies_of, adjustable_dimensions, cells_of, cells_of_all, cells_before, BlockName, common_block, same_block, common_cells, adjustable_dimensions_of_all, do_statements, frame_cells, is_do, locals_of}
use Rattle.hep_image.specs.declared.array.Start.TheVariants.{Common, Dummy}
use Rattle.hep_image.specs.Places.{loop_cells, start_of}
use Rattle.hep_image.specs.Places as image
use Rattle.hep_layout.specs.Words.{FramePart, Row, argument, block_row, bounds, cells_in, common_row, first_in, first_in_common, first_of_block, first_of_part, frame_row, iteration, same_part, size_in, variable}
use Rattle.hep_layout.proofs.CommonRows.{block_row-below, common_row-cells}
use Rattle.hep_layout.proofs.FrameRows.{argument-first, bounds-first, frame_row-cells, iteration-first, variable-first, first-size}
use Rattle.hep_layout.proofs.Rows.{has_key}
use Rattle.hep_layout.proofs.Runs.{common-size}
use Rattle.hep_storage.specs.Starts.{AreStarts, narrowed, start_in}
use Rattle.hep_storage.specs.declared.starts.CommonStarts.{CommonStarts}
use Rattle.hep_places.specs.StorageStarts.{Table, adjustable_row, behind, behind_loops, first_bound, first_local, first_loop, loops_from, name_row, no_length, offset_among, entries_of, start_among, start_by, start_found}
use Rattle.hep_places.proofs.InBlocks.{block-of-program, offsets-are}
use Rattle.hep_places.proofs.Narrowed.{narrowed-more, narrowed-small, narrowed-sum}
use Rattle.hep_places.proofs.TakenValues.{behind-is, start-is}
use Rattle.hep_source.proofs.NameTests.{among-index}

-- ---- rows

-- rows of names
module _ (f : Name → ℕ) where
  abbrev pub row_by : List Name → Row Name
  row_by xs = map (λ (x : Name). (x, f x)) xs

  pub key-among : (x : Name) (xs : List Name) → has_key (same_name x) (row_by xs) ≡ is_among x xs
  key-among x [] = refl
  key-among x (y ∷ ys) = ap (λ b. if same_name x y then true else b) (key-among x ys)

pub first-before : (unit : List Statement) (x : Name) (xs : List Name) → first_in (same_name x) (name_row unit xs) ≡ cells_before unit x xs
first-before unit x [] = refl
first-before unit x (y ∷ ys) = ap (λ n. if same_name x y then 0 else cells_of unit y + n) (first-before unit x ys)

cells-all : (unit : List Statement) (xs : List Name) → cells_in (name_row unit xs) ≡ cells_of_all unit xs
cells-all unit [] = refl
cells-all unit (x ∷ xs) = ap (λ n. cells_of unit x + n) (cells-all unit xs)

adjustable-all : (unit : List Statement) (xs : List Name) → cells_in (adjustable_row unit xs) ≡ 2 * adjustable_dimensions_of_all unit xs
adjustable-all unit [] = refl
adjustable-all unit (x ∷ xs) = omega (arith, adjustable-all unit xs)

-- the bounds before those of a dummy argument
adjustable-before : (unit : List Statement) (x : Name) (xs : List Name) (k : ℕ) → index_among x xs ≡ Some k → first_in (same_name x) (adjustable_row unit xs) ≡ 2 * adjustable_dimensions_of_all unit (take k xs)
adjustable-before unit x [] k e = absurd (none-some k e)
adjustable-before unit x (y ∷ ys) k e = by (same_name x y) e (adjustable-before unit x ys) where
  again : (j : ℕ) → first_in (same_name x) (adjustable_row unit ys) ≡ 2 * adjustable_dimensions_of_all unit (take j ys)
      → 2 * adjustable_dimensions unit y + first_in (same_name x) (adjustable_row unit ys) ≡ 2 * (adjustable_dimensions unit y + adjustable_dimensions_of_all unit (take j ys))
  again j h = omega (arith, h)

  by_index : (o : Option ℕ) → index_among x ys ≡ o → option_map suc o ≡ Some k → ((j : ℕ) → index_among x ys ≡ Some j → first_in (same_name x) (adjustable_row unit ys) ≡ 2 * adjustable_dimensions_of_all unit (take j ys))
      → 2 * adjustable_dimensions unit y + first_in (same_name x) (adjustable_row unit ys) ≡ 2 * adjustable_dimensions_of_all unit (take k (y ∷ ys))
  by_index None i e rest = absurd (none-some k e)
  by_index (Some j) i e rest =
      subst (λ m. 2 * adjustable_dimensions unit y + first_in (same_name x) (adjustable_row unit ys) ≡ 2 * adjustable_dimensions_of_all unit (take m (y ∷ ys))) (same_Some (suc j) k e) (again j (rest j i))

  by : (t : Bool) → (if t then Some 0 else option_map suc (index_among x ys)) ≡ Some k → ((j : ℕ) → index_among x ys ≡ Some j → first_in (same_name x) (adjustable_row unit ys) ≡ 2 * adjustable_dimensions_of_all unit (take j ys))
      → (if t then 0 else 2 * adjustable_dimensions unit y + first_in (same_name x) (adjustable_row unit ys)) ≡ 2 * adjustable_dimensions_of_all unit (take k (y ∷ ys))
  by true e rest = subst (λ j. 0 ≡ 2 * adjustable_dimensions_of_all unit (take j (y ∷ ys))) (same_Some 0 k e) refl
  by false e rest = by_index (index_among x ys) refl e rest

-- ---- DOs

more-pairs : (n m : ℕ) → n + 2 + 2 * m ≡ n + 2 * suc m
more-pairs n m = omega arith

no-pairs : (n : ℕ) → n ≡ n + 2 * 0
no-pairs n = omega arith

loops-at : (n : ℕ) (ss : List Statement) (d : ℕ) → unwrap_or (slice_get (loops_from (narrowed n) ss) d) 0 ≡ (if is_do (unwrap_or (slice_get ss d) no_statement).form then narrowed (n + 2 * do_statements (take d ss)) else 0)
loops-at n [] d = refl
loops-at n (s ∷ ss) zero = ap (λ m. if is_do s.form then narrowed m else 0) (no-pairs n)
loops-at n (s ∷ ss) (suc d) = by (is_do s.form) (loops-at (n + 2) ss d) (loops-at n ss d) where
  by : (t : Bool) → unwrap_or (slice_get (loops_from (narrowed (n + 2)) ss) d) 0 ≡ (if is_do (unwrap_or (slice_get ss d) no_statement).form then narrowed (n + 2 + 2 * do_statements (take d ss)) else 0)
      → unwrap_or (slice_get (loops_from (narrowed n) ss) d) 0 ≡ (if is_do (unwrap_or (slice_get ss d) no_statement).form then narrowed (n + 2 * do_statements (take d ss)) else 0)
      → unwrap_or (slice_get (loops_from (if t then narrowed (narrowed n + 2) else narrowed n) ss) d) 0
      ≡ (if is_do (unwrap_or (slice_get ss d) no_statement).form then narrowed (n + 2 * length (if t then s ∷ filter (λ (r : Statement). is_do r.form) (take d ss) else filter (λ (r : Statement). is_do r.form) (take d ss))) else 0)
  by true more rest =
      ap (λ m. unwrap_or (slice_get (loops_from m ss) d) 0) (narrowed-more n 2)
      ∙ (more ∙ ap (λ m. if is_do (unwrap_or (slice_get ss d) no_statement).form then narrowed m else 0) (more-pairs n (do_statements (take d ss))))
  by false more rest = rest

behind-loops-is : (n : ℕ) (ss : List Statement) → behind_loops (narrowed n) ss ≡ narrowed (n + 2 * do_statements ss)
behind-loops-is n [] = ap narrowed (no-pairs n)
behind-loops-is n (s ∷ ss) = by (is_do s.form) (behind-loops-is (n + 2) ss) (behind-loops-is n ss) where
  by : (t : Bool) → behind_loops (narrowed (n + 2)) ss ≡ narrowed (n + 2 + 2 * do_statements ss) → behind_loops (narrowed n) ss ≡ narrowed (n + 2 * do_statements ss)
      → behind_loops (if t then narrowed (narrowed n + 2) else narrowed n) ss ≡ narrowed (n + 2 * length (if t then s ∷ filter (λ (r : Statement). is_do r.form) ss else filter (λ (r : Statement). is_do r.form) ss))
  by true more rest = ap (λ m. behind_loops m ss) (narrowed-more n 2) ∙ (more ∙ ap narrowed (more-pairs n (do_statements ss)))
  by false more rest = rest

-- ---- frames

module _ (unit : List Statement) (small : frame_cells unit ≤ 16777216) where
  abbrev before_locals : ℕ
  before_locals = 1 + 2 * length (dummies_of unit)

  abbrev local_cells : ℕ
  local_cells = cells_in (name_row unit (locals_of unit))

  part-small : (part : FramePart) → first_of_part unit part + size_in (same_part part) (frame_row unit) ≤ 16777216
  part-small part = omega (arith, small, first-size (same_part part) (frame_row unit), frame_row-cells unit)

  at-part : (part : FramePart) (n : ℕ) → first_of_part unit part ≡ n → narrowed n ≡ first_of_part unit part
  at-part part n e = narrowed-small n (omega (arith, e, part-small part)) ∙ sym e

  pub argument-at : (x : Name) (k : ℕ) → index_among x (dummies_of unit) ≡ Some k → narrowed (1 + 2 * k) ≡ first_of_part unit (argument x)
  argument-at x k e = at-part (argument x) (1 + 2 * k) (argument-first unit x k e).begins

  pub local-first : (x : Name) → is_among x (locals_of unit) ≡ true → start_among (first_local unit) (name_row unit (locals_of unit)) x ≡ Some (first_of_part unit (variable x))
  local-first x h =
      let n = before_locals + first_in (same_name x) (name_row unit (locals_of unit)) in
      let at : first_of_part unit (variable x) ≡ n = omega (arith, (variable-first unit x h).begins, first-before unit x (locals_of unit)) in
      start-is x (name_row unit (locals_of unit)) before_locals
      ∙ (ap (λ b. if b then Some (narrowed n) else None) (key-among (cells_of unit) x (locals_of unit) ∙ h) ∙ ap Some (at-part (variable x) n at))

  pub local-none : (x : Name) → is_among x (locals_of unit) ≡ false → start_among (first_local unit) (name_row unit (locals_of unit)) x ≡ None
  local-none x h =
      let n = before_locals + first_in (same_name x) (name_row unit (locals_of unit)) in
      start-is x (name_row unit (locals_of unit)) before_locals
      ∙ ap (λ b. if b then Some (narrowed n) else None) (key-among (cells_of unit) x (locals_of unit) ∙ h)

  first-loop-is : first_loop unit ≡ narrowed (before_locals + local_cells)
  first-loop-is = behind-is (name_row unit (locals_of unit)) before_locals

  first-bound-is : first_bound unit ≡ narrowed (before_locals + local_cells + 2 * do_statements unit)
  first-bound-is = ap (λ n. behind_loops n unit) first-loop-is ∙ behind-loops-is (before_locals + local_cells) unit

  pub loops-right : (d : ℕ) → unwrap_or (slice_get (loops_from (first_loop unit) unit) d) 0 ≡ loop_cells unit d
  loops-right d = ap (λ n. unwrap_or (slice_get (loops_from n unit) d) 0) first-loop-is ∙ (loops-at (before_locals + local_cells) unit d ∙ by_statement (slice_get unit d) refl) where
    by_test : (s : Statement) → slice_get unit d ≡ Some s → (t : Bool) → is_do s.form ≡ t
        → (if t then narrowed (before_locals + local_cells + 2 * do_statements (take d unit)) else 0) ≡ (if t then first_of_part unit (iteration d) else 0)
    by_test s e true h =
        let m = before_locals + local_cells + 2 * do_statements (take d unit) in
        let at : first_of_part unit (iteration d) ≡ m = omega (arith, (iteration-first unit d s e h).begins, cells-all unit (locals_of unit)) in
        at-part (iteration d) m at
    by_test s e false h = refl

    by_statement : (o : Option Statement) → slice_get unit d ≡ o
        → (if is_do (unwrap_or o no_statement).form then narrowed (before_locals + local_cells + 2 * do_statements (take d unit)) else 0)
        ≡ (if is_do (unwrap_or o no_statement).form then first_of_part unit (iteration d) else 0)
    by_statement None e = refl
    by_statement (Some s) e = by_test s e (is_do s.form) refl

  pub bounds-right : (x : Name) (k : ℕ) → index_among x (dummies_of unit) ≡ Some k → start_among (first_bound unit) (adjustable_row unit (dummies_of unit)) x ≡ Some (first_of_part unit (bounds x))
  bounds-right x k e =
      let m = before_locals + local_cells + 2 * do_statements unit in
      let n = m + first_in (same_name x) (adjustable_row unit (dummies_of unit)) in
      let at : first_of_part unit (bounds x) ≡ n = omega (arith, (bounds-first unit x k e).begins, cells-all unit (locals_of unit), adjustable-before unit x (dummies_of unit) k e) in
      ap (λ f. start_among f (adjustable_row unit (dummies_of unit)) x) first-bound-is
      ∙ (start-is x (adjustable_row unit (dummies_of unit)) m
      ∙ (ap (λ b. if b then Some (narrowed n) else None) (key-among (λ y. 2 * adjustable_dimensions unit y) x (dummies_of unit) ∙ among-index x (dummies_of unit) k e) ∙ ap Some (at-part (bounds x) n at)))

  pub dimensions-right : (x : Name) (k : ℕ) → index_among x (dummies_of unit) ≡ Some k → narrowed (adjustable_dimensions unit x) ≡ adjustable_dimensions unit x
  dimensions-right x k e = narrowed-small (adjustable_dimensions unit x) (omega (arith, (bounds-first unit x k e).sized, part-small (bounds x)))

  pub cells-right : behind (first_bound unit) (adjustable_row unit (dummies_of unit)) ≡ frame_cells unit
  cells-right =
      let m = before_locals + local_cells + 2 * do_statements unit in
      let n = m + cells_in (adjustable_row unit (dummies_of unit)) in
      let same : n ≡ frame_cells unit = omega (arith, cells-all unit (locals_of unit), adjustable-all unit (dummies_of unit)) in
      ap (λ f. behind f (adjustable_row unit (dummies_of unit))) first-bound-is
      ∙ (behind-is (adjustable_row unit (dummies_of unit)) m ∙ (narrowed-small n (omega (arith, same, small)) ∙ same))

-- ---- units of programs

module _ (program : Units) (u : ℕ) (unit : List Statement) (there : slice_get program u ≡ Some unit) (small : frame_cells unit ≤ 16777216) (few : common_cells program ≤ 16777216) (common : CommonStarts) (starts : AreStarts program common) where
  pub common-first : (x : Name) (b : BlockName) (offset : Option ℕ) → common_block unit x ≡ Some b → offset ≡ offset_among unit no_length (entries_of unit) x → narrowed (start_in common b + unwrap_or offset 0) ≡ first_in_common program unit b x
  common-first x b offset h e =
      let a = first_of_block program b in
      let f = first_in (same_name x) (block_row unit b) in
      let found : offset ≡ Some (narrowed f) = e ∙ (offsets-are unit x ∙ ap (option_map (λ c. narrowed (first_in (same_name x) (block_row unit c)))) h) in
      let begins : start_in common b ≡ narrowed a = starts.starts_are b (block-of-program program u unit x b there h) in
      let below : a + f ≤ 4294967295 = omega (
        arith,
        few,
        first-size (same_block b) (common_row program),
        common_row-cells program,
        common-size program u unit x b there h,
        block_row-below program u unit b there,
        first-size (same_name x) (block_row unit b),
      ) in
      (λ i. narrowed (begins i + unwrap_or (found i) 0)) ∙ (narrowed-sum (narrowed a) f ∙ (narrowed-more a f ∙ narrowed-small (a + f) below))

  pub start-right : (offsets locals : Table) (x : Name) → offsets x ≡ offset_among unit no_length (entries_of unit) x → locals x ≡ start_among (first_local unit) (name_row unit (locals_of unit)) x
      → start_found unit common offsets locals x ≡ start_of program unit x
  unfolding start_of
  start-right offsets locals x o l = by_index (index_among x (dummies_of unit)) refl where
    by_local : (t : Bool) → is_among x (locals_of unit) ≡ t → start_by common None None (offsets x) (locals x) ≡ image.start_by program unit x None None t
    by_local true t = ap (start_by common None None (offsets x)) (l ∙ local-first unit small x t)
    by_local false t = ap (start_by common None None (offsets x)) (l ∙ local-none unit small x t)

    by_block : (b : Option BlockName) → common_block unit x ≡ b → start_by common None b (offsets x) (locals x) ≡ image.start_by program unit x None b (is_among x (locals_of unit))
    by_block (Some b) h = ap (λ n. Some (Common n)) (common-first x b (offsets x) h o)
    by_block None h = by_local (is_among x (locals_of unit)) refl

    by_index : (k : Option ℕ) → index_among x (dummies_of unit) ≡ k → start_by common k (common_block unit x) (offsets x) (locals x) ≡ image.start_by program unit x k (common_block unit x) (is_among x (locals_of unit))
    by_index (Some k) e = ap (λ n. Some (Dummy n)) (argument-at unit small x k e)
    by_index None e = by_block (common_block unit x) refl
