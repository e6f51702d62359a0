-- The conditions to enter a frame, to give one back and to write a cell, and what doesn't change: docs/MACHINE.md,
-- "Layout".
use Rattle.std.specs.Prelude.{◌≡◌, ℕ, ◌+◌, ◌<◌, ◌≤◌, length, Some, IsSome, slice_get}
use Rattle.slab.specs.Slab.{ContainsKey, HasRoomFor}
use Rattle.hep_arena.specs.Holes.{IsOut, first_fit, given}
use Rattle.hep_arena.specs.Space.{Space}
use Rattle.hep_layout.specs.Words.{FrameNode}
use Rattle.hep_proc.specs.declared.frames.NewFrame.{NewFrame}
use Rattle.hep_proc.specs.declared.frames.Frames.{Frames}
use Rattle.hep_proc.specs.Nodes.{CanCount, IsCountedAbove, nodes_of}

-- there is room for a node, and a gap of `cells` cells, one at least
pub record HasPlaceFor (cells : ℕ) (frames : Frames) : Type 0 where
  pub room : HasRoomFor frames.nodes 1
  pub some : 1 ≤ cells
  pub gap : IsSome (first_fit cells frames.arena.holes)

-- and its parent's node exists, which can count one more child
pub record CanEnter (entrant : NewFrame) (frames : Frames) : Type 0 where
  pub room : HasRoomFor frames.nodes 1
  pub some : 1 ≤ entrant.cells
  pub gap : IsSome (first_fit entrant.cells frames.arena.holes)
  pub there : ContainsKey frames.nodes entrant.parent
  pub few : CanCount (nodes_of frames.nodes) entrant.parent

-- there is a frame under the key, and its parent's node has counted it
pub record CanGoBack (key : ℕ) (frames : Frames) : Type 0 where
  pub there : ContainsKey frames.nodes key
  pub inside : (n : FrameNode) → nodes_of frames.nodes key ≡ Some n → n.first + n.cells ≤ length frames.arena.contents
  pub out : (n : FrameNode) (p : ℕ) → nodes_of frames.nodes key ≡ Some n → n.first ≤ p → p < n.first + n.cells → IsOut p frames.arena.holes
  pub counted : IsCountedAbove (nodes_of frames.nodes) key

-- its cells were given back, and all taken cells have the slots that they had
pub record IsGivenBack (n : FrameNode) (before after : Space) : Type 0 where
  pub holes : after.holes ≡ given (n.first, n.cells) before.holes
  pub kept : (p : ℕ) → IsOut p after.holes → slice_get after.contents p ≡ slice_get before.contents p

-- the cell lies in the arena and is taken
pub record IsCellOut (at : ℕ) (arena : Space) : Type 0 where
  pub inside : at < length arena.contents
  pub out : IsOut at arena.holes

-- the same frames are in an arena of the same size
pub record KeepsPlaces (old new : Frames) : Type 0 where
  pub nodes : nodes_of new.nodes ≡ nodes_of old.nodes
  pub holes : new.arena.holes ≡ old.arena.holes
  pub cells : length new.arena.contents ≡ length old.arena.contents
