-- A name in COMMON has a cell at least, and the first one is where its sequence begins: X3.9-1978, 5.1.1, 8.3 and 18.2.
use Rattle.std.proofs.Common.{◌≡◌, ℕ, ◌+◌, ◌<◌, ◌≤◌, Bool, true, false, if◌then◌else◌, List, [], ◌∷◌, Option, Some, None, refl, sym, ap, ◌∙◌, arith, is_some, slice_get}
use Rattle.std.specs.Option.{unwrap_or}
use Rattle.hep_machine.specs.Words.{Name, Statement, Units, cells_before, cells_of, cells_of_shape, constant_value, shape_by, BlockName, common_block, is_array, is_common, is_constant_name, is_dummy, names_in_block, Layout, Scope, own_storage, start_by_block, elements, Dummy, State, common, is_local}
use Rattle.hep_accepted_laws.specs.Meanings.{IsOneThing, how_many}
use Rattle.hep_accepted_laws.specs.PartlyEvaluated.{HasShape}
use Rattle.hep_layout.specs.Words.{address, first_in_common}
use Rattle.hep_layout.proofs.Runs.{runs-common}
use Rattle.hep_image.specs.Dummies.{common_cell, common_cell_by}
use Rattle.hep_image.proofs.ArrayExtents.{shape-some}

no_second : (c d m l : Bool) → m ≡ true → how_many (c ∷ d ∷ m ∷ l ∷ []) ≡ 1 → d ≡ false
no_second c false m l t h = refl
no_second c true false l t h = absurd cc
no_second true true true true t h = absurd (omega (arith, h))
no_second true true true false t h = absurd (omega (arith, h))
no_second false true true true t h = absurd (omega (arith, h))
no_second false true true false t h = absurd (omega (arith, h))

shaped_some : (unit : List Statement) (x : Name) → HasShape unit x → 0 < cells_of unit x
shaped_some unit x shape =
    let one : 1 ≤ unwrap_or (elements shape.0) 1 = shape-some shape.0 1 shape.2 (omega arith) in
    let counted : unwrap_or (elements shape.0) 1 ≡ shape.3 = ap (λ o. unwrap_or o 1) shape.4 in
    let cells : cells_of unit x ≡ shape.3 = ap cells_of_shape shape.1 ∙ ap (λ o. unwrap_or o 0) shape.4 in
    omega (arith, one, counted, cells)

pub common_some : (unit : List Statement) (x : Name) → IsOneThing unit x
    → (is_array unit x ≡ true → is_dummy unit x ≡ false → HasShape unit x) → is_common unit x ≡ true → 0 < cells_of unit x
common_some unit x one shape is = by_array (is_array unit x) refl where
  by_array : (b : Bool) → is_array unit x ≡ b → 0 < cells_of unit x
  by_array true e =
      shaped_some unit x (shape e (no_second (is_constant_name unit x) (is_dummy unit x) (is_common unit x) (is_local unit x) is one))
  by_array false e =
      let cells : cells_of unit x ≡ 1 = ap cells_of_shape (ap (λ b. if b then shape_by unit (constant_value unit) x else Some []) e) in
      omega (arith, cells)

-- ---- its first cell

module _ (program : Units) (u : ℕ) (unit : List Statement) (there : slice_get program u ≡ Some unit)
    (some_cells : (x : Name) → is_common unit x ≡ true → 0 < cells_of unit x) (s : State) (layout : Layout) (a : ℕ) (ds : List Dummy) where
  abbrev new : Scope
  new = record { unit = unit; number = a; dummies = ds }

  by_block : (x : Name) (o : Option BlockName) → common_block unit x ≡ o → is_some o ≡ true → 0 < cells_of unit x
      → address program s layout (own_storage new x).start ≡ Some (common_cell program unit x)
  by_block x None e h some = absurd cc
  by_block x (Some b) e h some =
      let i = 1 + cells_before unit x (names_in_block unit b) in
      let first = first_in_common program unit b x in
      let no_more : i ≡ i + 0 = omega arith in
      let none_more : first + 0 ≡ first = omega arith in
      ap (λ c. address program s layout (start_by_block new x c)) e
      ∙ (ap (λ j. address program s layout (common b j)) no_more
      ∙ (runs-common program s layout u unit x b there e 0 some
      ∙ (ap (λ n. Some n) none_more ∙ ap (λ c. Some (common_cell_by program unit x c)) (sym e))))

  pub common_addressed : (x : Name) → is_common unit x ≡ true → address program s layout (own_storage new x).start ≡ Some (common_cell program unit x)
  common_addressed x is = by_block x (common_block unit x) refl is (some_cells x is)
