-- The address of a storage unit: the cell of the arena that holds it. docs/MACHINE.md, "Layout".
use Rattle.std.specs.Prelude.{◌≡◌, ℕ, zero, suc, ◌+◌, ◌≤◌, if◌then◌else◌, List, [], ◌∷◌, length, Option, Some, None, slice_get}
use Rattle.hep_machine.specs.Words.{Name, index_among, Units, unit_at, dummies_of, StandApart, Frame, Layout, frame_of, common_cells, dummy_at, activation_of, unit_of, Dummy, Location, local, common, State, is_owned}
use Rattle.hep_machine.specs.declared.slot.Slot.{Slot}
use Rattle.hep_arena.specs.Gaps.{frame_among, gaps}
use Rattle.hep_arena.specs.Holes.{Hole}
use Rattle.hep_layout.specs.Rows.{FramePart, argument, variable, place_of_part, place_of_block}

-- ---- cells of frames

-- the cell of the arena at an index of a frame's cells
abbrev pub cell_in : Option Frame → Option ℕ → Option ℕ
cell_in None place = None
cell_in (Some f) None = None
cell_in (Some f) (Some n) = Some (f.first + n)

-- the address of the cell at an index of a part of an activation's frame; none where the activation has no frame
abbrev pub frame_address : Units → State → Layout → ℕ → FramePart × ℕ → Option ℕ
frame_address program s layout a c = cell_in (frame_among a layout) (place_of_part (unit_at program (unit_of s a)) c.0 c.1)

-- ---- storage units

-- The cell of the frame that holds element i + 1 of a variable, by the index of the variable among the dummy arguments, if it is one.
-- The frame holds a dummy argument only where the actual argument is an expression.
abbrev pub kept_in : ℕ → List Dummy → Name → ℕ → Option ℕ → Option (FramePart × ℕ)
kept_in a dummies x i None = Some (variable x, i)
kept_in a dummies x zero (Some k) = if is_owned a (dummy_at dummies k).start then Some (argument x, 0) else None
kept_in a dummies x (suc i) (Some k) = None

abbrev pub address_of_kept : Units → State → Layout → ℕ → Option (FramePart × ℕ) → Option ℕ
address_of_kept program s layout a None = None
address_of_kept program s layout a (Some c) = frame_address program s layout a c

-- the address of a storage unit: its cell in the arena, counted from 0; none where its activation has no frame, and for a
-- location without a storage unit
abbrev pub address : Units → State → Layout → Location → Option ℕ
address program s layout (local a x zero) = None
address program s layout (local a x (suc i)) =
    address_of_kept program s layout a (kept_in a (activation_of s a).dummies x i (index_among x (dummies_of (unit_at program (unit_of s a)))))
address program s layout (common b zero) = None
address program s layout (common b (suc i)) = place_of_block program b i

-- the frame of an activation, by its first cell
abbrev pub frame_from : Units → State → ℕ → ℕ → Frame
frame_from program s a first = record { activation = a; first = first; cells = frame_of program s a }

-- ---- the arena of a state

-- No activation has two frames.
abbrev pub AreSingle : Layout → Type 0
AreSingle [] = Unit {0}
AreSingle (f ∷ fs) = (frame_among f.activation fs ≡ None) × AreSingle fs

-- The layout has frames of activations of a state in an arena of this many cells. They come after COMMON and don't overlap, and each has
-- the cells of its unit.
pub record IsLaid (program : Units) (s : State) (cells : ℕ) (layout : Layout) : Type 0 where
  pub apart : StandApart cells (common_cells program) layout
  pub single : AreSingle layout
  pub made : (a : ℕ) (f : Frame) → frame_among a layout ≡ Some f → (1 ≤ a) × (a ≤ length s.activations)
  pub sized : (a : ℕ) (f : Frame) → frame_among a layout ≡ Some f → f.cells ≡ frame_of program s a

-- The cell at the address of each storage unit has its content.
abbrev pub Holds : Units → State → Layout → List Slot → Type 0
Holds program s layout contents = (at : Location) (p : ℕ) → address program s layout at ≡ Some p → slice_get contents p ≡ Some (s.store at)

-- An arena with these contents and holes represents a state: it has the frames of the layout, each storage unit is at its address, and all
-- other cells are free.
pub record IsMemory (program : Units) (s : State) (layout : Layout) (contents : List Slot) (holes : List Hole) : Type 0 where
  pub laid : IsLaid program s (length contents) layout
  pub holds : Holds program s layout contents
  pub holes_are : holes ≡ gaps (length contents) (common_cells program) layout
