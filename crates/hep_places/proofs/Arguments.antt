-- What is found of dummy arguments is what must be known of them where their unit is called.
use Rattle.std.proofs.Common.{◌≡◌, ℕ, ◌≤◌, Bool, true, false, List, map, Option, Some, None, refl, ap, ◌∙◌, if◌then◌else◌, nat_eq, slice_get, eqb-true}
use Rattle.std.specs.Option.{unwrap_or}
use Rattle.std.proofs.lemmas.Option.{none-some}
use Rattle.hep_machine.specs.Words.{Name, Statement, index_among, Units, dummies_of, adjustable_dimensions, constant_shape, constant_value, BlockName, common_block, dimensions_of, is_array, is_common, no_shape, common_cells, Bounds, frame_cells}
use Rattle.hep_code.specs.BoundCode.{Sources}
use Rattle.hep_code.specs.DimensionCode.{code_of_dimensions}
use Rattle.hep_code.specs.Sources.{source_by, source_of}
use Rattle.hep_image.specs.declared.dummy.DummyArgument.TheVariants.{Scalar, Array, Adjustable}
use Rattle.hep_image.specs.Dummies.{common_cell, common_cell_by, dummy_of}
use Rattle.hep_storage.specs.Starts.{AreStarts}
use Rattle.hep_storage.specs.declared.starts.CommonStarts.{CommonStarts}
use Rattle.hep_places.specs.DummyArguments.{array_found, cell_by, constant_array, dummy_found, source_found}
use Rattle.hep_places.specs.StorageStarts.{Table, entries_of, no_length, offset_among}
use Rattle.hep_places.proofs.FrameStarts.{common-first}
use Rattle.hep_places.proofs.RightPlaces.{HasShapes, map-same}

-- ---- where the values of names are

pub source-right : (program : Units) (u : ℕ) (unit : List Statement) → slice_get program u ≡ Some unit → frame_cells unit ≤ 16777216 → common_cells program ≤ 16777216 → (common : CommonStarts) → AreStarts program common
    → (offsets : Table) (x : Name) → offsets x ≡ offset_among unit no_length (entries_of unit) x → source_found unit (constant_value unit) common offsets x ≡ source_of unit (common_cell program unit) x
source-right program u unit there small few common starts offsets x o =
    ap (source_by (constant_value unit x) (index_among x (dummies_of unit)) (is_common unit x)) (by_block (common_block unit x) refl)
  where
    by_block : (b : Option BlockName) → common_block unit x ≡ b → cell_by common b (offsets x) ≡ common_cell_by program unit x b
    by_block (Some b) h = common-first program u unit there small few common starts x b (offsets x) h o
    by_block None h = refl

-- ---- dummy arguments

dummy-right : (program : Units) (unit : List Statement) (x : Name) → HasShapes unit → dummy_found unit (source_of unit (common_cell program unit)) x ≡ dummy_of program unit x
dummy-right program unit x shapes = by_array (is_array unit x) refl where
  by_shape : (o : Option Bounds) (bs : Bounds) → o ≡ Some bs → constant_array o ≡ Array (unwrap_or o no_shape)
  by_shape None bs e = absurd (none-some bs e)
  by_shape (Some cs) bs e = refl

  by_test : (t : Bool) → nat_eq (adjustable_dimensions unit x) 0 ≡ t → is_array unit x ≡ true
      → (if t then constant_array (constant_shape unit x) else Adjustable (code_of_dimensions (source_of unit (common_cell program unit)) unit (dimensions_of unit x)))
      ≡ (if t then Array (unwrap_or (constant_shape unit x) no_shape) else Adjustable (code_of_dimensions (source_of unit (common_cell program unit)) unit (dimensions_of unit x)))
  by_test true t h = let found = shapes.constant x h (eqb-true (adjustable_dimensions unit x) 0 t) in by_shape (constant_shape unit x) found.0 found.1
  by_test false t h = refl

  by_array : (a : Bool) → is_array unit x ≡ a
      → (if a then array_found unit (source_of unit (common_cell program unit)) x else Scalar)
      ≡ (if a then (if nat_eq (adjustable_dimensions unit x) 0 then Array (unwrap_or (constant_shape unit x) no_shape) else Adjustable (code_of_dimensions (source_of unit (common_cell program unit)) unit (dimensions_of unit x))) else Scalar)
  by_array true h = by_test (nat_eq (adjustable_dimensions unit x) 0) refl h
  by_array false h = refl

pub dummies-right : (program : Units) (unit : List Statement) (source : Sources) → HasShapes unit → ((x : Name) → source x ≡ source_of unit (common_cell program unit) x)
    → map (dummy_found unit source) (dummies_of unit) ≡ map (dummy_of program unit) (dummies_of unit)
dummies-right program unit source shapes right =
    ap (λ (s : Sources). map (dummy_found unit s) (dummies_of unit)) (λ i x. right x i)
    ∙ map-same (dummy_found unit (source_of unit (common_cell program unit))) (dummy_of program unit) (dummies_of unit) (λ x h. dummy-right program unit x shapes)
