-- Dummy arguments that are arrays: what they are given, and their shapes: X3.9-1978, 5.5, 5.5.1 and 15.9.3.3.
use Rattle.std.specs.Prelude.{◌≡◌, ℕ, List, length, Option, Some, None, slice_get}
use Rattle.hep_machine.specs.Words.{Name, Statement, dummies_of, adjustable_dimensions, dummy_at, Bounds, Dummy}
use Rattle.hep_step.specs.declared.dummy_storage.DummyStorage.{DummyStorage}
use Rattle.hep_step.specs.declared.dummy_storage.DummyStorage.TheVariants as giving

-- the number of storage units given; an expression gives one
abbrev pub count_of_given : Option DummyStorage → ℕ
count_of_given None = 0
count_of_given (Some (giving.Value v)) = 1
count_of_given (Some (giving.Units first count)) = count

-- the shape of the dummy argument of a name, by what it is associated with, if it is an adjustable array; otherwise
-- none
abbrev pub IsShapeOf : List Statement → Name → Dummy → Option Bounds → Type 0
IsShapeOf unit x d None = adjustable_dimensions unit x ≡ 0
IsShapeOf unit x d (Some shape) = (length shape ≡ adjustable_dimensions unit x) × (d.shape ≡ shape)

-- the shapes of all dummy arguments of a unit, in order
pub record AreShapesOf (unit : List Statement) (ds : List Dummy) (shapes : List (Option Bounds)) : Type 0 where
  pub as_many : length shapes ≡ length (dummies_of unit)
  pub each : (k : ℕ) (x : Name) (shape : Option Bounds) → slice_get (dummies_of unit) k ≡ Some x → slice_get shapes k ≡ Some shape → IsShapeOf unit x (dummy_at ds k) shape
