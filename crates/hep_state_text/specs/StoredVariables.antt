-- The cells of what is shown: docs/MACHINE.md, "Layout".
use Rattle.std.specs.Prelude.{◌≡◌, ◌≤◌, ◌<◌, ◌+◌, ℕ, length, Some}
use Rattle.hep_machine.specs.Words.{Units, Layout, Location, State, Frame}
use Rattle.hep_arena.specs.Gaps.{frame_among}
use Rattle.hep_arena.specs.Holes.{IsOut}
use Rattle.hep_arena.specs.Space.{Space}
use Rattle.hep_layout.specs.Words.{Describes, IsMemory, RunsFrom, descriptor_slots}
use Rattle.hep_image.specs.Image.{most_cells}
use Rattle.hep_views.specs.StoredContents.{HasDummies}

-- an arena of a size that a run may have is that of a state
pub record IsArenaOf (program : Units) (s : State) (layout : Layout) (arena : Space) : Type 0 where
  pub memory : IsMemory program s layout arena.contents arena.holes
  pub few : length arena.contents ≤ most_cells

-- `count` storage units from a location on are in the cells from `first` on
pub record AreKeptFrom (program : Units) (s : State) (layout : Layout) (start : Location) (count first : ℕ) (arena : Space) : Type 0 where
  pub is_of : IsArenaOf program s layout arena
  pub runs : RunsFrom program s layout start count first

-- those of some state
abbrev pub AreKeptSomewhere : ℕ → ℕ → Space → Type 0
AreKeptSomewhere count first arena =
    (program : Units) × (s : State) × (layout : Layout) × (start : Location) × AreKeptFrom program s layout start count first arena

-- the frame of an activation begins at a cell, and its dummy arguments are bound
pub record IsFrameOf (program : Units) (s : State) (layout : Layout) (a first : ℕ) (arena : Space) : Type 0 where
  pub is_of : IsArenaOf program s layout arena
  pub frame : Frame
  pub framed : frame_among a layout ≡ Some frame
  pub first_is : frame.first ≡ first
  pub described : Describes program s layout (descriptor_slots program s layout) arena.contents
  pub dummies : HasDummies program s a

-- `count` cells from `first` on lie in an arena of a size that a run may have, and in no gap
pub record AreOut (first count : ℕ) (arena : Space) : Type 0 where
  pub few : length arena.contents ≤ most_cells
  pub inside : first + count ≤ length arena.contents
  pub out : (p : ℕ) → first ≤ p → p < first + count → IsOut p arena.holes
