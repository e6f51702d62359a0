-- The cells of its activation's frame that the code of a unit reads to find a variable: docs/MACHINE.md, "Variables
-- and frames".
use Rattle.std.specs.Prelude.{ℕ, ◌+◌, ◌*◌, ◌≤◌, List, Option, Some, None, slice_get}
use Rattle.hep_code.specs.declared.variable.Variable.{Variable}
use Rattle.hep_code.specs.declared.variable.Variable.TheVariants as variables
use Rattle.hep_image.specs.declared.array.Array.{Array}
use Rattle.hep_image.specs.declared.array.Extents.{Extents}
use Rattle.hep_image.specs.declared.array.Extents.TheVariants.{Constant, Adjustable}
use Rattle.hep_image.specs.declared.array.Start.{Start}
use Rattle.hep_image.specs.declared.array.Start.TheVariants.{Local, Common, Dummy}

-- ---- what lies in a frame of `size` cells: X3.9-1978, 5.1, 5.5 and 15.9.3

abbrev pub IsStartIn : ℕ → Start → Type 0
IsStartIn size (Local c) = Unit {0}
IsStartIn size (Common c) = Unit {0}
IsStartIn size (Dummy c) = c + 2 ≤ size

-- no array has more than seven dimensions (5.1.1)
abbrev pub AreExtentsIn : ℕ → Extents → Type 0
AreExtentsIn size (Constant shape) = Unit {0}
AreExtentsIn size (Adjustable c dimensions) = (c + 2 * dimensions ≤ size) × (dimensions ≤ 7)

abbrev pub IsArrayIn : ℕ → Option Array → Type 0
IsArrayIn size None = Unit {0}
IsArrayIn size (Some a) = IsStartIn size a.start × AreExtentsIn size a.extents

-- the cells of a frame by which a variable is found, in a unit with these arrays
abbrev pub LiesIn : ℕ → List Array → Variable → Type 0
LiesIn size arrays (variables.Dummy asynchronous c) = c + 2 ≤ size
LiesIn size arrays (variables.Array asynchronous i) = IsArrayIn size (slice_get arrays i)
LiesIn size arrays _ = Unit {0}
