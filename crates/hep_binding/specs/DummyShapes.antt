-- Whether the dummy arrays of a called unit have shapes that fit what they are given: X3.9-1978, 5.5, 5.5.1 and
-- 15.9.3.3.
use Rattle.std.specs.Prelude.{ℕ, suc, max, ◌≤◌, ◌&&◌, Bool, true, false, List, [], ◌∷◌, length, map, Option, Some, None, slice_get}
use Rattle.hep_machine.specs.declared.slot.Slot.{Slot}
use Rattle.hep_machine.specs.Words.{Bounds, fits}
use Rattle.hep_arena.specs.Space.{Space}
use Rattle.hep_image.specs.declared.dummy.DummyArgument.{DummyArgument}
use Rattle.hep_image.specs.declared.dummy.DummyArgument.TheVariants.{Scalar, Array, Adjustable}
use Rattle.hep_step.specs.declared.dummy_storage.DummyStorage.{DummyStorage}
use Rattle.hep_step.specs.Shapes.{count_of_given}
use Rattle.hep_binding.specs.DummyContents.{AreReadable, shape_by_code}

-- an array has a shape, and no more elements than there are storage units
abbrev pub has_room : ℕ → Option Bounds → Bool
has_room count None = false
has_room count (Some bs) = fits bs count

-- a dummy argument that is no array always fits; an adjustable one has this shape
abbrev pub is_fitting_as : ℕ → Option Bounds → DummyArgument → Bool
is_fitting_as count shape Scalar = true
is_fitting_as count shape (Array bs) = fits bs count
is_fitting_as count shape (Adjustable code) = has_room count shape

module _ (contents : List Slot) (given : List DummyStorage) where
  -- the shape of an adjustable array, none of all others
  abbrev pub shape_of_dummy : DummyArgument → Option Bounds
  shape_of_dummy Scalar = None
  shape_of_dummy (Array bs) = None
  shape_of_dummy (Adjustable code) = shape_by_code contents given code

  abbrev pub shapes_of : List DummyArgument → List (Option Bounds)
  shapes_of ds = map shape_of_dummy ds

  -- the dummy argument of a number fits what is given to it
  abbrev pub is_fitting_at : ℕ → DummyArgument → Bool
  is_fitting_at k d = is_fitting_as (count_of_given (slice_get given k)) (shape_of_dummy d) d

  -- the same for all of them, from this number on
  abbrev pub are_fitting_from : ℕ → List DummyArgument → Bool
  are_fitting_from k [] = true
  are_fitting_from k (d ∷ ds) = is_fitting_at k d && are_fitting_from (suc k) ds

  abbrev pub are_fitting : List DummyArgument → Bool
  are_fitting ds = are_fitting_from 0 ds

-- the number of operations in the code of an adjustable array, and the longest code of several
abbrev pub operations_of : DummyArgument → ℕ
operations_of Scalar = 0
operations_of (Array bs) = 0
operations_of (Adjustable code) = length code

abbrev pub longest_code : List DummyArgument → ℕ
longest_code [] = 0
longest_code (d ∷ ds) = max (operations_of d) (longest_code ds)

-- the code of each adjustable array can be read, and has no more operations than there is room for
module _ (space : Space) (given : List DummyStorage) (room : ℕ) where
  abbrev pub IsShapable : DummyArgument → Type 0
  IsShapable Scalar = Unit {0}
  IsShapable (Array bs) = Unit {0}
  IsShapable (Adjustable code) = AreReadable space given code × (length code ≤ room)

  abbrev pub AreShapable : List DummyArgument → Type 0
  AreShapable [] = Unit {0}
  AreShapable (d ∷ ds) = IsShapable d × AreShapable ds
