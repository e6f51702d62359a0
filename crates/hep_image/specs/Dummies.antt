-- The dummy arguments of a unit in an image: X3.9-1978, 5.5.1 and 15.9.3.
use Rattle.std.specs.Prelude.{ℕ, nat_eq, if◌then◌else◌, List, map, Option, Some, None}
use Rattle.std.specs.Option.{unwrap_or}
use Rattle.hep_machine.specs.Words.{Name, Statement, Units, dummies_of, constant_shape, adjustable_dimensions, BlockName, common_block, is_array, no_shape}
use Rattle.hep_code.specs.Sources.{adjustable_code}
use Rattle.hep_layout.specs.Words.{first_in_common}
use Rattle.hep_image.specs.declared.dummy.DummyArgument.{DummyArgument}
use Rattle.hep_image.specs.declared.dummy.DummyArgument.TheVariants.{Scalar, Array, Adjustable}

-- the first cell of a name in COMMON
abbrev pub common_cell_by : Units → List Statement → Name → Option BlockName → ℕ
common_cell_by program unit x (Some b) = first_in_common program unit b x
common_cell_by program unit x None = 0

abbrev pub common_cell : Units → List Statement → Name → ℕ
common_cell program unit x = common_cell_by program unit x (common_block unit x)

-- an array among them
abbrev pub dummy_array : Units → List Statement → Name → DummyArgument
dummy_array program unit x =
    if nat_eq (adjustable_dimensions unit x) 0
    then Array (unwrap_or (constant_shape unit x) no_shape)
    else Adjustable (adjustable_code unit (common_cell program unit) x)

abbrev pub dummy_of : Units → List Statement → Name → DummyArgument
dummy_of program unit x = if is_array unit x then dummy_array program unit x else Scalar

-- those of a unit, in order
abbrev pub dummy_arguments : Units → List Statement → List DummyArgument
dummy_arguments program unit = map (dummy_of program unit) (dummies_of unit)
