-- A variable of a unit is of one name.
use Rattle.std.proofs.Common.{◌≡◌, ◌≢◌, ℕ, ◌+◌, ◌<◌, Bool, true, false, List, [], Option, Some, None, refl, sym, ap, ◌∙◌, subst, arith, if◌then◌else◌, slice_get}
use Rattle.std.specs.Option.{unwrap_or}
use Rattle.std.proofs.lemmas.Option.{same_Some, none-some}
use Rattle.hep_machine.specs.Words.{BlockName, Name, Statement, Units, blocks_of_unit, cells_of, common_block, dummies_of, index_among, is_among, is_array, locals_of, same_block, same_name, cells_of_shape, constant_value, shape_by}
use Rattle.hep_machine.proofs.Locations.{equal_blocks}
use Rattle.hep_source.proofs.NameTests.{equal_names}
use Rattle.hep_layout.specs.Words.{FramePart, Row, argument, variable, block_row, common_row, first_in, first_in_common, first_of_block, first_of_part, frame_row, owner_in, same_part, size_in}
use Rattle.hep_layout.proofs.CommonRows.{name-size, unit-cells, block_row-cells}
use Rattle.hep_layout.proofs.FrameRows.{argument-first, equal_parts, first-size, variable-first}
use Rattle.hep_layout.proofs.Rows.{owned-by, place-at}
use Rattle.hep_layout.proofs.Runs.{common-size, held-under}
use Rattle.hep_code.specs.declared.variable.Variable.{Variable}
use Rattle.hep_code.specs.declared.variable.Variable.TheVariants as variables
use Rattle.hep_code.specs.declared.variable.Variable.TheVariants.{Absent}
use Rattle.hep_image.specs.declared.array.Start.{Start}
use Rattle.hep_image.specs.declared.array.Start.TheVariants.{Local, Common, Dummy}
use Rattle.hep_image.specs.Places.{arrays_of, scalar, start_by, start_of, variable_by, variable_of}
use Rattle.hep_image.proofs.Members.{indexed}
use Rattle.hep_image.proofs.NamedNumbers.{array-listed}

-- the first cell of a key is its own
owner-first : {K : Type 0} (test : K → Bool) (key : K) (es : Row K) → ((k : K) → test k ≡ true → key ≡ k) → 0 < size_in test es → owner_in es (first_in test es) ≡ Some (key, 0)
owner-first test key es equal some =
    let same : first_in test es + 0 ≡ first_in test es = omega arith in
    (owned-by test key 0 es (first_in test es) equal (place-at test 0 es some ∙ ap (λ n. Some n) same)).0

module _ (program : Units) (u : ℕ) (unit : List Statement) (there : slice_get program u ≡ Some unit) where
  -- whose the cell is in which a variable begins
  abbrev IsStartOf : Start → Name → Type 0
  IsStartOf (Dummy c) x = owner_in (frame_row unit) c ≡ Some (argument x, 0)
  IsStartOf (Common c) x = (b : BlockName) × (n : ℕ) × (owner_in (common_row program) c ≡ Some (b, n)) × (owner_in (block_row unit b) n ≡ Some (x, 0))
  IsStartOf (Local c) x = owner_in (frame_row unit) c ≡ Some (variable x, 0)

  one-start : (at : Start) (x y : Name) → IsStartOf at x → IsStartOf at y → x ≡ y
  one-start (Dummy c) x y h g = let same : argument x ≡ argument y = ap (λ (q : FramePart × ℕ). q.0) (same_Some (argument x, 0) (argument y, 0) (sym h ∙ g)) in cc
  one-start (Local c) x y h g = let same : variable x ≡ variable y = ap (λ (q : FramePart × ℕ). q.0) (same_Some (variable x, 0) (variable y, 0) (sym h ∙ g)) in cc
  one-start (Common c) x y h g =
      let both = same_Some (h.0, h.1) (g.0, g.1) (sym h.2 ∙ g.2) in
      let own : owner_in (block_row unit g.0) g.1 ≡ Some (x, 0) = subst (λ (q : BlockName × ℕ). owner_in (block_row unit q.0) q.1 ≡ Some (x, 0)) both h.3 in
      ap (λ (q : Name × ℕ). q.0) (same_Some (x, 0) (y, 0) (sym own ∙ g.3))

  -- a scalar has a cell
  scalar-cell : (x : Name) → is_array unit x ≡ false → cells_of unit x ≡ 1
  scalar-cell x plain = ap (λ b. cells_of_shape (if b then shape_by unit (constant_value unit) x else Some [])) plain

  common-start : (x : Name) (b : BlockName) → is_array unit x ≡ false → common_block unit x ≡ Some b → IsStartOf (Common (first_in_common program unit b x)) x
  common-start x b plain in_block =
      let among = held-under x b (blocks_of_unit unit) in_block in
      let n = first_in (same_name x) (block_row unit b) in
      let size = name-size unit b x among ∙ scalar-cell x plain in
      let within = first-size (same_name x) (block_row unit b) in
      let less : n < size_in (same_block b) (common_row program) =
      omega (arith, size, within, block_row-cells unit b, unit-cells program u unit b there, common-size program u unit x b there in_block) in
      let some : 0 < size_in (same_name x) (block_row unit b) = omega (arith, size) in (
        b,
        n,
        (owned-by (same_block b) b n (common_row program) (first_of_block program b + n) (λ c e. equal_blocks b c e) (place-at (same_block b) n (common_row program) less)).0,
        owner-first (same_name x) x (block_row unit b) (λ y e. equal_names x y e) some,
      )

  begins : (x : Name) (at : Start) → is_array unit x ≡ false → start_of program unit x ≡ Some at → IsStartOf at x
  unfolding start_of
  begins x at plain e = by (index_among x (dummies_of unit)) refl (common_block unit x) refl (is_among x (locals_of unit)) refl e where
    by : (k : Option ℕ) → index_among x (dummies_of unit) ≡ k → (b : Option BlockName) → common_block unit x ≡ b → (l : Bool) → is_among x (locals_of unit) ≡ l
        → start_by program unit x k b l ≡ Some at → IsStartOf at x
    by (Some k) index b in_block l own e =
        let entry = argument-first unit x k index in
        let some : 0 < size_in (same_part (argument x)) (frame_row unit) = omega (arith, entry.sized) in
        subst (λ z. IsStartOf z x) (same_Some (Dummy (first_of_part unit (argument x))) at e) (owner-first (same_part (argument x)) (argument x) (frame_row unit) (equal_parts (argument x)) some)
    by None index (Some b) in_block l own e =
        subst (λ z. IsStartOf z x) (same_Some (Common (first_in_common program unit b x)) at e) (common-start x b plain in_block)
    by None index None in_block true own e =
        let entry = variable-first unit x own in
        let some : 0 < size_in (same_part (variable x)) (frame_row unit) = omega (arith, entry.sized, scalar-cell x plain) in
        subst (λ z. IsStartOf z x) (same_Some (Local (first_of_part unit (variable x))) at e) (owner-first (same_part (variable x)) (variable x) (frame_row unit) (equal_parts (variable x)) some)
    by None index None in_block false own e = absurd (none-some at e)

  -- ---- what is of one name

  one-scalar : (a b : Bool) (at to : Start) → scalar a at ≡ scalar b to → at ≡ to
  one-scalar a b (Local c) (Local d) e = cc
  one-scalar a b (Common c) (Common d) e = cc
  one-scalar a b (Dummy c) (Dummy d) e = cc
  one-scalar a b (Local c) (Common d) e = absurd cc
  one-scalar a b (Local c) (Dummy d) e = absurd cc
  one-scalar a b (Common c) (Local d) e = absurd cc
  one-scalar a b (Common c) (Dummy d) e = absurd cc
  one-scalar a b (Dummy c) (Local d) e = absurd cc
  one-scalar a b (Dummy c) (Common d) e = absurd cc

  no-array : {P : Type 0} (a b : Bool) (i : ℕ) (at : Start) → variables.Array a i ≡ scalar b at → P
  no-array a b i (Local c) e = absurd cc
  no-array a b i (Common c) e = absurd cc
  no-array a b i (Dummy c) e = absurd cc

  abbrev index_of : Name → ℕ
  index_of x = unwrap_or (index_among x (arrays_of unit)) 0

  at-index : (x : Name) → is_array unit x ≡ true → slice_get (arrays_of unit) (index_of x) ≡ Some x
  at-index x array =
      let found = indexed x (arrays_of unit) (array-listed x unit array) in
      ap (λ o. slice_get (arrays_of unit) (unwrap_or o 0)) found.1 ∙ found.2

  one-array : (x y : Name) → is_array unit x ≡ true → is_array unit y ≡ true → index_of x ≡ index_of y → x ≡ y
  one-array x y h g same = same_Some x y (sym (at-index x h) ∙ ap (slice_get (arrays_of unit)) same ∙ at-index y g)

  abbrev chosen_by : Name → Start → Bool → Variable
  chosen_by x at b = if b then variables.Array x.asynchronous (index_of x) else scalar x.asynchronous at

  chosen : (x : Name) (at : Start) (b : Bool) → is_array unit x ≡ b → variable_by unit x (Some at) ≡ chosen_by x at b
  chosen x at b is = ap (chosen_by x at) is

  pub one-name : (x y : Name) → variable_of program unit x ≡ variable_of program unit y → variable_of program unit x ≢ Absent → x ≡ y
  unfolding variable_of
  one-name x y e placed = by (start_of program unit x) refl (start_of program unit y) refl (is_array unit x) refl (is_array unit y) refl placed e where
    by : (p : Option Start) → start_of program unit x ≡ p → (q : Option Start) → start_of program unit y ≡ q → (a : Bool) → is_array unit x ≡ a → (b : Bool) → is_array unit y ≡ b
        → variable_by unit x p ≢ Absent → variable_by unit x p ≡ variable_by unit y q → x ≡ y
    by None is q so a array b other placed e = absurd (placed refl)
    by (Some at) is None so a array b other placed e = absurd (placed e)
    by (Some at) is (Some to) so true array true other placed e =
        let same : variables.Array x.asynchronous (index_of x) ≡ variables.Array y.asynchronous (index_of y) = sym (chosen x at true array) ∙ e ∙ chosen y to true other in
        let index : index_of x ≡ index_of y = cc in
        one-array x y array other index
    by (Some at) is (Some to) so true array false other placed e = no-array x.asynchronous y.asynchronous (index_of x) to (sym (chosen x at true array) ∙ e ∙ chosen y to false other)
    by (Some at) is (Some to) so false array true other placed e = no-array y.asynchronous x.asynchronous (index_of y) at (sym (chosen y to true other) ∙ sym e ∙ chosen x at false array)
    by (Some at) is (Some to) so false array false other placed e =
        let same = one-scalar x.asynchronous y.asynchronous at to (sym (chosen x at false array) ∙ e ∙ chosen y to false other) in
        one-start at x y (begins x at array is) (subst (λ z. IsStartOf z y) (sym same) (begins y to other so))
