-- The dummy arguments of a unit, as they are computed: X3.9-1978, 5.5.1 and 15.9.3.
use Rattle.std.specs.Prelude.{ℕ, ◌+◌, nat_eq, if◌then◌else◌, List, Option, Some, None}
use Rattle.std.specs.Option.{unwrap_or}
use Rattle.indexmap.specs.IndexMap.{get}
use Rattle.hep_machine.specs.Words.{Dimension, Name, Statement, name_eq, index_among, dummies_of, Values, adjustable_dimensions, constant_shape, constant_value, BlockName, common_block, dimensions_of, is_array, is_common, Bounds}
use Rattle.hep_code.specs.BoundCode.{Sources}
use Rattle.hep_code.specs.DimensionCode.{code_of_dimensions}
use Rattle.hep_code.specs.Sources.{source_by}
use Rattle.hep_image.specs.declared.dummy.DummyArgument.{DummyArgument}
use Rattle.hep_image.specs.declared.dummy.DummyArgument.TheVariants.{Scalar, Array, Adjustable}
use Rattle.hep_storage.specs.Starts.{narrowed, start_in}
use Rattle.hep_storage.specs.declared.starts.CommonStarts.{CommonStarts}
use Rattle.hep_places.specs.declared.bound_code.BoundContext.{BoundContext}
use Rattle.hep_places.specs.StorageStarts.{Table}

-- the first cell of a name in COMMON
abbrev pub cell_by : CommonStarts → Option BlockName → Option ℕ → ℕ
cell_by common None offset = 0
cell_by common (Some b) offset = narrowed (start_in common b + unwrap_or offset 0)

-- the source of each name's value
abbrev pub source_found : List Statement → Values → CommonStarts → Table → Sources
source_found unit values common offsets x =
    source_by (values x) (index_among x (dummies_of unit)) (is_common unit x) (cell_by common (common_block unit x) (offsets x))

unfoldable pub source_in : BoundContext → Sources
source_in k = source_found k.symbols.now (constant_value k.symbols.now) k.common.now (get name_eq k.tables.now.offsets)

-- no array of an accepted program is without a shape
abbrev pub constant_array : Option Bounds → DummyArgument
constant_array None = Scalar
constant_array (Some bs) = Array bs

abbrev pub adjustable_array : BoundContext → List Dimension → DummyArgument
adjustable_array k ds = Adjustable (code_of_dimensions (source_in k) k.symbols.now ds)

abbrev pub array_found : List Statement → Sources → Name → DummyArgument
array_found unit source x =
    if nat_eq (adjustable_dimensions unit x) 0
    then constant_array (constant_shape unit x)
    else Adjustable (code_of_dimensions source unit (dimensions_of unit x))

abbrev pub dummy_found : List Statement → Sources → Name → DummyArgument
dummy_found unit source x = if is_array unit x then array_found unit source x else Scalar
