-- The gaps of a layout as holes: docs/MACHINE.md, "Layout".
use Rattle.std.specs.Prelude.{ℕ, ◌+◌, ◌-◌, Bool, nat_eq, nat_lt, if◌then◌else◌, List, [], ◌∷◌, Option, Some, None}
use Rattle.hep_machine.specs.Words.{Frame, Layout}
use Rattle.hep_arena.specs.Holes.{Hole, given}

-- these holes, and before them the free cells from one index up to another, if there are any
abbrev pub gap_before : ℕ → ℕ → List Hole → List Hole
gap_before from to hs = if nat_lt from to then (from, to - from) ∷ hs else hs

-- the gaps of an arena of `cells` cells, where all cells before `from` and those of the frames are taken
abbrev pub gaps : ℕ → ℕ → Layout → List Hole
gaps cells from [] = gap_before from cells []
gaps cells from (f ∷ fs) = gap_before from f.first (gaps cells (f.first + f.cells) fs)

-- the number of cells of all frames
abbrev pub framed_cells : Layout → ℕ
framed_cells [] = 0
framed_cells (f ∷ fs) = f.cells + framed_cells fs

-- ---- removal of frames

-- the first frame of an activation
abbrev pub frame_among : ℕ → Layout → Option Frame
frame_among a [] = None
frame_among a (f ∷ fs) = if nat_eq f.activation a then Some f else frame_among a fs

-- the layout without the first frame of an activation
abbrev pub without : ℕ → Layout → Layout
without a [] = []
without a (f ∷ fs) = if nat_eq f.activation a then fs else f ∷ without a fs

-- the holes after the frames that fail the test are freed, one after the other
abbrev pub given_back : (Frame → Bool) → Layout → List Hole → List Hole
given_back keeps [] hs = hs
given_back keeps (f ∷ fs) hs = if keeps f then given_back keeps fs hs else given_back keeps fs (given (f.first, f.cells) hs)
