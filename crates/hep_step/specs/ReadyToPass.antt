-- The conditions of passing actual arguments: docs/MACHINE.md, "Variables and frames".
use Rattle.std.specs.Prelude.{◌≡◌, ℕ, ◌+◌, ◌≤◌, true, List, [], ◌∷◌, length, Option, Some, None, Result, Ok, Err, slice_get}
use Rattle.hep_machine.specs.Words.{Value, is_shape}
use Rattle.hep_machine.specs.declared.event.Kind.{Kind}
use Rattle.hep_machine.specs.declared.slot.Slot.{Slot}
use Rattle.hep_arena.specs.Space.{Space}
use Rattle.hep_code.specs.declared.variable.Variable.{Variable}
use Rattle.hep_code.specs.declared.variable.Variable.TheVariants as variables
use Rattle.hep_code.specs.Words.{PassedArgument, by_value, by_reference}
use Rattle.hep_image.specs.declared.array.Array.{Array}
use Rattle.hep_image.specs.Addressing.{bounds_at, cells_in}
use Rattle.hep_image.specs.FrameBounds.{LiesIn}
use Rattle.hep_step.specs.declared.frame.Frame.{Frame}
use Rattle.hep_step.specs.ArgumentPassing.{passed_at}

-- the bounds of an array are a shape
module _ (cells : ℕ → Slot) (first : ℕ) where
  abbrev pub IsShaped : Option Array → Type 0
  IsShaped None = Unit {0}
  IsShaped (Some a) = is_shape (bounds_at cells first a.extents) ≡ true

  abbrev pub HasShape : List Array → Variable → Type 0
  HasShape arrays (variables.Array asynchronous i) = IsShaped (slice_get arrays i)
  HasShape arrays _ = Unit {0}

-- storage units that are passed lie below this number of cells
abbrev pub AreUnitsIn : ℕ → Result (ℕ × ℕ) Kind → Type 0
AreUnitsIn size (Ok units) = units.0 + units.1 ≤ size
AreUnitsIn size (Err k) = Unit {0}

module _ (space : Space) (arrays : List Array) (frame : Frame) where
  -- a variable with these subscripts is found by cells of the frame, and what it passes lies in the arena
  pub record IsPassable (x : Variable) (subscripts : List Value) : Type 0 where
    pub inside : LiesIn frame.cells arrays x
    pub shaped : HasShape (cells_in space.contents) frame.first arrays x
    pub reached : AreUnitsIn (length space.contents) (passed_at (cells_in space.contents) frame.first arrays x subscripts)

  -- each of them
  abbrev pub ArePassable : List PassedArgument → Type 0
  ArePassable [] = Unit {0}
  ArePassable (by_value v ∷ ps) = ArePassable ps
  ArePassable (by_reference x subscripts ∷ ps) = IsPassable x subscripts × ArePassable ps
