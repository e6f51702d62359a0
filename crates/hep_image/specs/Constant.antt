-- Names with constant bounds alone: X3.9-1978, 5.1.1.
use Rattle.std.specs.Prelude.{◌≡◌, true, List, Some}
use Rattle.hep_machine.specs.Words.{Name, Statement, constant_shape, is_array, Bounds}

-- a name that is a scalar, or an array whose bounds are all constant and are a shape
abbrev pub HasConstantShape : List Statement → Name → Type 0
HasConstantShape unit x = is_array unit x ≡ true → (bs : Bounds) × (constant_shape unit x ≡ Some bs)
