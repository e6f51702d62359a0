-- Arrays that have a first storage unit, and bounds by which their elements are found: docs/MACHINE.md, "Variables
-- and frames".
use Rattle.std.specs.Prelude.{◌≡◌, ◌≢◌, ◌≤◌, true, List, None}
use Rattle.hep_machine.specs.Words.{Name, Statement, index_among, Units, dummies_of, adjustable_dimensions, is_array}
use Rattle.hep_image.specs.Places.{start_of}
use Rattle.hep_image.specs.Constant.{HasConstantShape}

-- ---- units whose arrays all are so

-- an array has a first storage unit, seven dimensions at most, and constant bounds if it is no dummy argument
pub record IsPlacedArray (program : Units) (unit : List Statement) (x : Name) : Type 0 where
  pub begins : start_of program unit x ≢ None
  pub dimensions : adjustable_dimensions unit x ≤ 7
  pub own : index_among x (dummies_of unit) ≡ None → HasConstantShape unit x

abbrev pub ArePlacedArrays : Units → List Statement → Type 0
ArePlacedArrays program unit = (x : Name) → is_array unit x ≡ true → IsPlacedArray program unit x
