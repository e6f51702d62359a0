-- The view of storage, as it is read from the arena: docs/MACHINE.md, "What is compared" and "Layout".
use Rattle.std.specs.Prelude.{◌≡◌, ℕ, zero, suc, ◌+◌, if◌then◌else◌, is_none, List, [], ◌∷◌, ◌++◌, length, Option, Some, None, slice_get}
use Rattle.std.specs.List.{flat_map}
use Rattle.hep_machine.specs.Words.{Name, Statement, index_among, Units, dummies_of, unit_at, cells_of, BlockName, blocks_of, Frame, Layout, block_cells, activation_of, unit_of, Activation, Location, State, common, local, further, locals_of, CellView}
use Rattle.hep_machine.specs.declared.slot.Slot.{Slot}
use Rattle.hep_arena.specs.Gaps.{frame_among}
use Rattle.hep_image.specs.BoundActivations.{IsBound}
use Rattle.hep_layout.specs.Words.{argument, first_of_block, first_of_part, variable}
use Rattle.hep_image.specs.Addressing.{cells_in}

-- n cells of the arena from one on, as those of storage units from a location on
abbrev pub cells_read : List Slot → Location → ℕ → ℕ → List CellView
cells_read contents at p zero = []
cells_read contents at p (suc n) = record { at = at; cell = cells_in contents p } ∷ cells_read contents (further at 1) (suc p) n

-- ---- COMMON: X3.9-1978, 8.3

abbrev pub block_read : Units → List Slot → BlockName → List CellView
block_read program contents b = cells_read contents (common b 1) (first_of_block program b) (block_cells program b)

abbrev pub common_read : Units → List Slot → List CellView
common_read program contents = flat_map (block_read program contents) (blocks_of program)

-- ---- frames

-- of activation a of a unit, whose frame begins at a cell
module _ (contents : List Slot) (a : ℕ) (unit : List Statement) (first : ℕ) where
  abbrev pub local_read : Name → List CellView
  local_read x = cells_read contents (local a x 1) (first + first_of_part unit (variable x)) (cells_of unit x)

  -- a dummy argument that is associated with an expression has no value in its second cell (15.9.3)
  abbrev pub value_read : Name → List CellView
  value_read x =
      if is_none (cells_in contents (first + suc (first_of_part unit (argument x)))).value
      then cells_read contents (local a x 1) (first + first_of_part unit (argument x)) 1
      else []

  abbrev pub frame_read : List CellView
  frame_read = flat_map local_read (locals_of unit) ++ flat_map value_read (dummies_of unit)

abbrev pub frame_read_in : Units → List Slot → ℕ → Activation → Option Frame → List CellView
frame_read_in program contents a x None = []
frame_read_in program contents a x (Some f) = frame_read contents a (unit_at program x.unit) f.first

-- the frames of activations from this number on, if they have one
abbrev pub frames_read : Units → List Slot → Layout → ℕ → List Activation → List CellView
frames_read program contents layout a [] = []
frames_read program contents layout a (x ∷ xs) = frame_read_in program contents a x (frame_among a layout) ++ frames_read program contents layout (suc a) xs

-- ---- dummy arguments

-- an activation has one for each name of its unit's, in order, with distinct names, and each is associated with
-- something
pub record HasDummies (program : Units) (s : State) (a : ℕ) : Type 0 where
  pub count : length (activation_of s a).dummies ≡ length (dummies_of (unit_at program (unit_of s a)))
  pub once : (k : ℕ) (x : Name) → slice_get (dummies_of (unit_at program (unit_of s a))) k ≡ Some x → index_among x (dummies_of (unit_at program (unit_of s a))) ≡ Some k
  pub bound : IsBound program s a
