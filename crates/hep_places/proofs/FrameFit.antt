-- What names in DATA of an accepted program stand for, as the tables tell it.
use Rattle.std.proofs.Common.{◌≡◌, ℕ, ◌+◌, ◌-◌, ◌≤◌, Bool, true, false, List, [], Option, Some, None, refl, sym, ap, ◌∙◌, subst, true≢false, arith, ◌&&◌, not, if◌then◌else◌, length, nat_eq, nat_le, nat_lt, slice_get}
use Rattle.std.specs.Option.{option_map, unwrap_or}
use Rattle.std.proofs.lemmas.Bool.{and_parts, not-true}
use Rattle.std.proofs.lemmas.Bool.Decides.{nat_tests}
use Rattle.std.proofs.lemmas.Option.{none-some}
use Rattle.hep_machine.specs.Words.{trees_of, DataGroup, Target, Name, Statement, Value, index_among, is_among, Units, main_unit, unit_at, integers_of, cells_of, cells_of_shape, constant_shape, constant_value, shape_by, values_of, Stretch, all_elements, data_groups, element_with, elements_named, groups_in, common_block, is_array, is_common, is_constant_name, is_dummy, is_nonempty, no_shape, common_cells, Bounds, are_dimensions, counted_element, element_number, elements, is_most, is_shape, most_elements, frame_cells, is_local, locals_of, names_of}
use Rattle.hep_machine.proofs.ConstantShapes.{constant-shape}
use Rattle.hep_conditions.specs.Words.{IsAccepted}
use Rattle.hep_code.specs.declared.variable.Variable.{Variable}
use Rattle.hep_code.specs.declared.variable.Variable.TheVariants as variables
use Rattle.hep_layout.specs.Words.{bounds, first_of_part, frame_row, same_part, size_in, variable}
use Rattle.hep_layout.proofs.FrameRows.{frame_row-cells, variable-first, first-size}
use Rattle.hep_layout.proofs.Runs.{local-index}
use Rattle.hep_names.proofs.Elements.{number-within}
use Rattle.hep_accepted_laws.specs.PartlyEvaluated.{HasShape}
use Rattle.hep_accepted_laws.proofs.NameMeanings.{data_known}
use Rattle.hep_accepted_laws.proofs.Members.{Has, flat_has, has_filter, has_flat, image_at}
use Rattle.hep_accepted_laws.proofs.Shaped.{arrays_have_shapes}
use Rattle.hep_accepted_laws.proofs.Valued.{ConstantsAgree}
use Rattle.hep_image.specs.declared.array.Array.{Array}
use Rattle.hep_image.specs.declared.array.Extents.TheVariants.{Constant, Adjustable}
use Rattle.hep_image.specs.declared.array.Start.TheVariants.{Local}
use Rattle.hep_image.specs.declared.data.DataRow.{DataRow}
use Rattle.hep_image.specs.Data.{AreInitial, AreOfUnits, value_in_rows}
use Rattle.hep_image.specs.Places.{array_of, arrays_of, extents_of, scalar, start_by, start_of, variable_by, variable_of}
use Rattle.hep_places.specs.MainFrame.{IsMainFrame}
use Rattle.hep_places.specs.InitialValues.{cell_of_element, cells_by_array, cells_by_start, cells_by_variable, cells_from, cells_named, cells_of_all_elements, cells_of_array, number_by, value_by_groups}
use Rattle.hep_places.proofs.BlockOffsets.{IsFound, initial, of_units}
use Rattle.hep_places.proofs.Owning.{at_index, local_among, named}
use Rattle.hep_source.proofs.Tests.{none-from-not}

-- ---- cells of a frame

in_frame : (unit : List Statement) (x : Name) → is_among x (locals_of unit) ≡ true → first_of_part unit (variable x) + cells_of unit x ≤ frame_cells unit
in_frame unit x h =
    subst (λ n. first_of_part unit (variable x) + n ≤ frame_cells unit) (variable-first unit x h).sized (
    subst (λ n. first_of_part unit (variable x) + size_in (same_part (variable x)) (frame_row unit) ≤ n) (frame_row-cells unit) (first-size (same_part (variable x)) (frame_row unit)))

few : (bs : Bounds) (n m : ℕ) → is_shape bs ≡ true → elements bs ≡ Some m → n ≤ m → is_most (Some n) ≡ true
few bs n m s e h = below (ap is_most (sym e) ∙ most) where
  most : is_most (elements bs) ≡ true
  most = (and_parts (are_dimensions bs) (is_most (elements bs)) (and_parts (nat_le (length bs) 7) (are_dimensions bs && is_most (elements bs)) (and_parts (nat_le 1 (length bs)) (nat_le (length bs) 7 && (are_dimensions bs && is_most (elements bs))) s).1).1).1

  below : nat_le m most_elements ≡ true → nat_le n most_elements ≡ true
  below g = grind (arith, nat_tests)

-- laws of accepted programs: what DATA names is local, and is there
abbrev pub AreLocal : Type 0
AreLocal =
    (program : Units) (u k i j : ℕ) (unit : List Statement) (s : Statement) (g : DataGroup) (t : Target) → IsAccepted program → slice_get program u ≡ Some unit → slice_get unit k ≡ Some s
    → slice_get (groups_in s.form) i ≡ Some g → slice_get g.targets j ≡ Some t → is_local unit t.occurrence.name ≡ true

abbrev pub AreThere : Type 0
AreThere =
    (program : Units) (u k i j : ℕ) (unit : List Statement) (s : Statement) (g : DataGroup) (t : Target) → IsAccepted program → slice_get program u ≡ Some unit → slice_get unit k ≡ Some s
    → slice_get (groups_in s.form) i ≡ Some g → slice_get g.targets j ≡ Some t → (e : Stretch) × (elements_named unit (constant_value unit) t ≡ Some e)

module _ (agrees : ConstantsAgree) (are_local : AreLocal) (are_there : AreThere) (program : Units) (accepted : IsAccepted program) (table : Name → Option Variable) (arrays : List Array) (common : ℕ) (frame : IsMainFrame program (unit_at program (main_unit program)) table arrays common) where
  abbrev unit : List Statement
  unit = unit_at program (main_unit program)

  there : (s : Statement) → Has unit s → slice_get program (main_unit program) ≡ Some unit
  there s h = by_unit (slice_get program (main_unit program)) h where
    by_unit : (o : Option (List Statement)) → Has (unwrap_or o []) s → o ≡ Some (unwrap_or o [])
    by_unit None g = absurd (none-some s g.1)
    by_unit (Some w) g = refl

  -- ---- a local variable

  module _ (t : Target) (array_known : is_nonempty t.subscripts ≡ true → is_array unit t.occurrence.name ≡ true) (own : is_among t.occurrence.name (locals_of unit) ≡ true) (local : is_local unit t.occurrence.name ≡ true)
      (shaped : is_array unit t.occurrence.name ≡ true → HasShape unit t.occurrence.name) where
    abbrev x : Name
    x = t.occurrence.name

    abbrev cell : ℕ
    cell = first_of_part unit (variable x)

    begins : start_of program unit x ≡ Some (Local cell)
    unfolding start_of
    begins = λ i. start_by program unit x (local-index unit x own i) (block i) (own i) where
      block : common_block unit x ≡ None
      block =
          none-from-not (common_block unit x) (not-true (is_common unit x) (and_parts (not (is_common unit x)) (not (is_constant_name unit x)) (and_parts (not (is_dummy unit x)) (not (is_common unit x) && not (is_constant_name unit x)) local).1).0)

    of_variable : cells_named unit table arrays common t ≡ cells_by_variable unit arrays common (variable_by unit x (Some (Local cell))) t
    unfolding variable_of
    of_variable = ap (λ v. cells_by_variable unit arrays common v t) (frame.placed x ∙ ap (variable_by unit x) begins)

    run : (before count : ℕ) → before + count ≤ cells_of unit x → cells_from common cell before count ≡ Some (record { first = (common_cells program + cell) + before; count = count })
    run before count h =
        ap (λ b. if b then Some (record { first = common + (cell + before); count = count }) else None) (below common cell before count (cells_of unit x) (frame_cells unit) frame.shared frame.few_shared frame.few_own (in_frame unit x own) h)
        ∙ ap (λ n. Some (record { first = n; count = count })) (ap (λ n. n + (cell + before)) frame.shared ∙ sums (common_cells program) cell before)
      where
        sums : (a b c : ℕ) → a + (b + c) ≡ (a + b) + c
        sums a b c = omega arith

        below : (c f b n m k : ℕ) → c ≡ common_cells program → common_cells program ≤ 16777216 → k ≤ 16777216 → f + m ≤ k → b + n ≤ m → nat_lt (c + (f + (b + n))) 4294967296 ≡ true
        below c f b n m k e g h i j = let less : c + (f + (b + n)) ≤ 33554432 = omega (arith, e, g, h, i, j) in grind (arith, nat_tests)

    -- a scalar
    scalar_found : is_array unit x ≡ false → IsFound program table arrays common t
    scalar_found plain = record {
      stretch = one;
      named = ap (λ b. if b then element_with x (constant_shape unit x) (values_of unit (constant_value unit) (trees_of t.subscripts)) else all_elements x (constant_shape unit x)) alone ∙ ap (all_elements x) shape;
      cells = of_variable ∙ (ap (λ b. cells_by_variable unit arrays common (if b then variables.Array x.asynchronous (unwrap_or (index_among x (arrays_of unit)) 0) else scalar x.asynchronous (Local cell)) t) plain
          ∙ (ap (λ b. if b then None else cells_from common cell 0 1) alone ∙ run 0 1 fits));
      own = own;
      room = fits;
    } where
      one : Stretch
      one = record { name = x; first = 1; count = 1 }

      shape : constant_shape unit x ≡ Some []
      shape = ap (λ b. if b then shape_by unit (constant_value unit) x else Some []) plain

      alone : is_nonempty t.subscripts ≡ false
      alone = by_list (is_nonempty t.subscripts) refl where
        by_list : (b : Bool) → is_nonempty t.subscripts ≡ b → b ≡ false
        by_list true e = absurd (true≢false (sym (array_known e) ∙ plain))
        by_list false e = refl

      fits : 0 + 1 ≤ cells_of unit x
      fits = subst (λ o. 0 + 1 ≤ cells_of_shape o) (sym shape) (omega arith)

    -- an array
    module _ (array : is_array unit x ≡ true) (listed : Has (names_of unit) x) (bs : Bounds) (m : ℕ) (shape : constant_shape unit x ≡ Some bs) (is : is_shape bs ≡ true) (counted : elements bs ≡ Some m) where
      abbrev index : ℕ
      index = unwrap_or (index_among x (arrays_of unit)) 0

      size : cells_of unit x ≡ m
      size = ap cells_of_shape shape ∙ ap (λ o. unwrap_or o 0) counted

      entry : slice_get arrays index ≡ Some (array_of program unit x)
      entry = ap (λ ys. slice_get ys index) frame.listed ∙ image_at (array_of program unit) (arrays_of unit) index x (at_index (arrays_of unit) x (has_filter (is_array unit) (names_of unit) x listed array))

      extents : extents_of unit x ≡ Constant bs
      extents =
          ap (λ n. if nat_eq n 0 then Constant (unwrap_or (constant_shape unit x) no_shape) else Adjustable (first_of_part unit (bounds x)) n) (constant-shape unit x bs array shape).1
          ∙ ap (λ o. Constant (unwrap_or o no_shape)) shape

      of_array : cells_named unit table arrays common t ≡ cells_of_array unit common cell bs t
      of_array =
          of_variable ∙ (ap (λ b. cells_by_variable unit arrays common (if b then variables.Array x.asynchronous index else scalar x.asynchronous (Local cell)) t) array
          ∙ (ap (λ o. cells_by_array unit common o t) entry
          ∙ (λ i. cells_by_start unit common (unwrap_or (begins i) (Local 0)) (extents i) t)))

      abbrev subscripts : Option (List Value)
      subscripts = values_of unit (constant_value unit) (trees_of t.subscripts)

      whole_found : is_nonempty t.subscripts ≡ false → IsFound program table arrays common t
      whole_found alone = record {
        stretch = record { name = x; first = 1; count = m };
        named = ap (λ b. if b then element_with x (constant_shape unit x) subscripts else all_elements x (constant_shape unit x)) alone
            ∙ (ap (all_elements x) shape ∙ ap (option_map (λ n. record { name = x; first = 1; count = n })) counted);
        cells = of_array ∙ (ap (λ b. if b then cell_of_element common cell (number_by bs (option_map integers_of subscripts)) else cells_of_all_elements common cell (elements bs)) alone
            ∙ (ap (cells_of_all_elements common cell) counted ∙ run 0 m (fits m)));
        own = own;
        room = fits m;
      } where
        fits : (n : ℕ) → 0 + m ≤ cells_of unit x
        fits n = omega (arith, size)

      element_found : is_nonempty t.subscripts ≡ true → (vs : List Value) (n : ℕ) → subscripts ≡ Some vs → element_number bs (integers_of vs) ≡ Some n → IsFound program table arrays common t
      element_found some vs n e f = record {
        stretch = record { name = x; first = n; count = 1 };
        named = ap (λ b. if b then element_with x (constant_shape unit x) subscripts else all_elements x (constant_shape unit x)) some
            ∙ ((λ i. element_with x (shape i) (e i)) ∙ ap (option_map (λ k. record { name = x; first = k; count = 1 })) f);
        cells = of_array ∙ (ap (λ b. if b then cell_of_element common cell (number_by bs (option_map integers_of subscripts)) else cells_of_all_elements common cell (elements bs)) some
            ∙ (ap (λ o. cell_of_element common cell (number_by bs (option_map integers_of o))) e
            ∙ (ap (cell_of_element common cell) number ∙ run (n - 1) 1 fits)));
        own = own;
        room = fits;
      } where
        within : (1 ≤ n) × (n ≤ m)
        within = number-within bs (integers_of vs) m n counted f

        fits : (n - 1) + 1 ≤ cells_of unit x
        fits = omega (arith, size, within.0, within.1)

        number : counted_element bs (integers_of vs) ≡ Some n
        number = (λ i. if is_most (f i) then f i else None) ∙ ap (λ b. if b then Some n else None) (few bs n m is counted within.1)

      array_found : (e : Stretch) → elements_named unit (constant_value unit) t ≡ Some e → IsFound program table arrays common t
      array_found e g = by_list (is_nonempty t.subscripts) refl where
        by_number : is_nonempty t.subscripts ≡ true → (vs : List Value) → subscripts ≡ Some vs → (o : Option ℕ) → element_number bs (integers_of vs) ≡ o → option_map (λ n. record { name = x; first = n; count = 1 }) o ≡ Some e → IsFound program table arrays common t
        by_number some vs h None f k = absurd (none-some e k)
        by_number some vs h (Some n) f k = element_found some vs n h f

        by_values : is_nonempty t.subscripts ≡ true → (o : Option (List Value)) → subscripts ≡ o → element_with x (Some bs) o ≡ Some e → IsFound program table arrays common t
        by_values some None h k = absurd (none-some e k)
        by_values some (Some vs) h k = by_number some vs h (element_number bs (integers_of vs)) refl k

        by_list : (b : Bool) → is_nonempty t.subscripts ≡ b → IsFound program table arrays common t
        by_list true h =
            by_values h subscripts refl (ap (λ o. element_with x o subscripts) (sym shape) ∙ (ap (λ b. if b then element_with x (constant_shape unit x) subscripts else all_elements x (constant_shape unit x)) (sym h) ∙ g))
        by_list false h = whole_found h

    found_local : Has (names_of unit) x → (e : Stretch) → elements_named unit (constant_value unit) t ≡ Some e → IsFound program table arrays common t
    found_local listed e g = by_array (is_array unit x) refl where
      by_array : (b : Bool) → is_array unit x ≡ b → IsFound program table arrays common t
      by_array true array = let h = shaped array in array_found array listed h.0 h.3 h.1 h.2 h.4 e g
      by_array false plain = scalar_found plain

  found : (g : DataGroup) → Has (data_groups unit) g → (t : Target) → Has g.targets t → IsFound program table arrays common t
  found g h t j =
      let s = flat_has (λ (w : Statement). groups_in w.form) unit g h in
      let k = s.1 in
      let i = s.2 in
      let u = there s.0 k in
      let in_data = has_flat (λ (d : DataGroup). d.targets) (groups_in s.0.form) g t i j in
      let known = data_known program (main_unit program) k.0 in_data.0 unit s.0 t accepted u k.1 in_data.1 in
      let local = are_local program (main_unit program) k.0 i.0 j.0 unit s.0 g t accepted u k.1 i.1 j.1 in
      let e = are_there program (main_unit program) k.0 i.0 j.0 unit s.0 g t accepted u k.1 i.1 j.1 in
      let listed = named unit t known s.0 g k i j in
      let no_dummy = not-true (is_dummy unit t.occurrence.name) (and_parts (not (is_dummy unit t.occurrence.name)) (not (is_common unit t.occurrence.name) && not (is_constant_name unit t.occurrence.name)) local).0 in
      found_local t known (local_among unit t.occurrence.name listed local) local (λ array. arrays_have_shapes agrees program (main_unit program) unit t.occurrence.name accepted u array no_dummy) listed e.0 e.1

pub rows_are_right : ConstantsAgree → AreLocal → AreThere → (us : List Statement) (table : Name → Option Variable) (arrays : List Array) (common : ℕ) (rows : List DataRow)
    → ((p : ℕ) → value_in_rows rows p ≡ value_by_groups us table arrays common (data_groups us) p)
    → (program : Units) → IsAccepted program → IsMainFrame program us table arrays common → AreInitial program rows × AreOfUnits program rows
rows_are_right agrees are_local are_there us table arrays common rows same program accepted frame =
    let right = found agrees are_local are_there program accepted table arrays common (subst (λ (u : List Statement). IsMainFrame program u table arrays common) frame.main frame) in
    let given = subst (λ (u : List Statement). (p : ℕ) → value_in_rows rows p ≡ value_by_groups u table arrays common (data_groups u) p) frame.main same in
    (initial program table arrays common rows right given, of_units program table arrays common rows right given)
