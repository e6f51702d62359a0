-- The bounds of adjustable arrays in a frame: X3.9-1978, 5.5, and docs/MACHINE.md, "Variables and frames".
use Rattle.std.specs.Prelude.{◌≡◌, ℕ, ◌+◌, ◌*◌, List, [], ◌∷◌, length, ℤ, take, Option, Some, None, slice_get}
use Rattle.hep_machine.specs.Words.{Name, Statement, Units, dummies_of, unit_at, adjustable_dimensions, cells_of_all, Frame, Layout, dummy_at, activation_of, unit_of, Bounds, State, adjustable_dimensions_of_all, do_statements, frame_cells, locals_of}
use Rattle.hep_arena.specs.Gaps.{frame_among}
use Rattle.hep_arena.specs.Space.{Space}
use Rattle.hep_layout.specs.Words.{number, FrameNode}
use Rattle.hep_step.specs.Shapes.{AreShapesOf}
use Rattle.hep_binding.specs.FrameWriting.{IsSet}
use Rattle.hep_code.specs.Sources.{IsNamedOnce}

-- the cells of a unit's frame after its header that are for dummy arguments, and all up to the bounds
abbrev pub cells_to_locals : List Statement → ℕ
cells_to_locals unit = 1 + 2 * length (dummies_of unit)

abbrev pub cells_to_bounds : List Statement → ℕ
cells_to_bounds unit = 1 + (2 * length (dummies_of unit) + (cells_of_all unit (locals_of unit) + 2 * do_statements unit))

-- and all up to the bounds of dummy argument k, counted from 0, or to the end
abbrev pub cells_to_bounds_of : List Statement → ℕ → ℕ
cells_to_bounds_of unit k = cells_to_bounds unit + 2 * adjustable_dimensions_of_all unit (take k (dummies_of unit))

-- the frame of activation a has the bounds of dummy argument k from a cell on; its array is adjustable
pub record IsShaping (program : Units) (s : State) (layout : Layout) (a k at : ℕ) (shape : Bounds) : Type 0 where
  pub frame : Frame
  pub framed : frame_among a layout ≡ Some frame
  pub begins : at ≡ frame.first + cells_to_bounds_of (unit_at program (unit_of s a)) k
  pub distinct : IsNamedOnce (dummies_of (unit_at program (unit_of s a)))
  pub name : Name
  pub named : slice_get (dummies_of (unit_at program (unit_of s a))) k ≡ Some name
  pub dimensions : length shape ≡ adjustable_dimensions (unit_at program (unit_of s a)) name
  pub shape_is : (dummy_at (activation_of s a).dummies k).shape ≡ shape

-- the bounds of a dimension are written to two cells, from a cell on: an open one doesn't change the second cell
abbrev pub IsBoundPut : ℕ → ℤ → Option ℤ → Space → Space → Type 0
IsBoundPut p lower None before after = IsSet p (number lower) before after
IsBoundPut p lower (Some upper) before after = (between : Space) × IsSet p (number lower) before between × IsSet (p + 1) (number upper) between after

-- ---- all of them

-- the cells of the bounds of a dummy argument, none where its array isn't adjustable, and those of several
abbrev pub cells_of_shape : Option Bounds → ℕ
cells_of_shape None = 0
cells_of_shape (Some shape) = 2 * length shape

abbrev pub cells_of_shapes : List (Option Bounds) → ℕ
cells_of_shapes [] = 0
cells_of_shapes (x ∷ xs) = cells_of_shape x + cells_of_shapes xs

-- these are the shapes of the dummy arguments of activation a, whose names are distinct
pub record AreShaping (program : Units) (s : State) (a : ℕ) (shapes : List (Option Bounds)) : Type 0 where
  pub distinct : IsNamedOnce (dummies_of (unit_at program (unit_of s a)))
  pub shapes_are : AreShapesOf (unit_at program (unit_of s a)) (activation_of s a).dummies shapes

-- a node has the frame of activation a in a layout, with the cells of its unit
pub record IsFramedBy (program : Units) (s : State) (layout : Layout) (a : ℕ) (n : FrameNode) : Type 0 where
  pub frame : Frame
  pub framed : frame_among a layout ≡ Some frame
  pub begins : n.first ≡ frame.first
  pub sized : n.cells ≡ frame_cells (unit_at program (unit_of s a))
