-- The conditions of a PURGE: docs/MACHINE.md, "Variables and frames".
use Rattle.std.specs.Prelude.{ℕ, ◌+◌, ◌<◌, ◌≤◌, List, [], ◌∷◌, length, Result, Ok, Err}
use Rattle.hep_machine.specs.declared.event.Kind.{Kind}
use Rattle.hep_arena.specs.Holes.{Hole, IsOut}
use Rattle.hep_arena.specs.Space.{Space}
use Rattle.hep_code.specs.Words.{PassedArgument, by_value, by_reference}
use Rattle.hep_image.specs.declared.array.Array.{Array}
use Rattle.hep_image.specs.Addressing.{cells_in}
use Rattle.hep_step.specs.ArgumentPassing.{passed_at}
use Rattle.hep_step.specs.declared.frame.Frame.{Frame}
use Rattle.hep_step.specs.declared.closed_range.ClosedRange.{ClosedRange}

-- ---- what is named

-- the cells of storage units are in no hole
abbrev pub AreUnitsOut : List Hole → Result (ℕ × ℕ) Kind → Type 0
AreUnitsOut holes (Err k) = Unit {0}
AreUnitsOut holes (Ok units) = (p : ℕ) → units.0 ≤ p → p < units.0 + units.1 → IsOut p holes

-- the cells of all that is named
module _ (space : Space) (arrays : List Array) (frame : Frame) where
  abbrev pub AreOut : List PassedArgument → Type 0
  AreOut [] = Unit {0}
  AreOut (by_value v ∷ ps) = AreOut ps
  AreOut (by_reference x subscripts ∷ ps) = AreUnitsOut space.holes (passed_at (cells_in space.contents) frame.first arrays x subscripts) × AreOut ps

-- ---- what is purged

-- a range lies in the arena, and no hole has a cell of it
pub record IsRangeReached (space : Space) (range : ClosedRange) : Type 0 where
  pub inside : range.first + range.cells ≤ length space.contents
  pub out : (p : ℕ) → range.first ≤ p → p < range.first + range.cells → IsOut p space.holes

-- each of them
abbrev pub AreReached : Space → List ClosedRange → Type 0
AreReached space [] = Unit {0}
AreReached space (r ∷ rs) = IsRangeReached space r × AreReached space rs
