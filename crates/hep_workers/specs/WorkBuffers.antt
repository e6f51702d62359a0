-- What a worker has in hand: docs/MACHINE.md, "Workers".
use Rattle.std.specs.Prelude.{◌≡◌, ◌≤◌, ℕ, List, length}
use Rattle.std.specs.List.{AllWithin}
use Rattle.hep_machine.specs.Words.{Units}
use Rattle.hep_private.specs.Segments.{IsMadeBy, SegmentValue}
use Rattle.hep_private.specs.Batches.{IsBatch, BatchValue}

-- a batch of private steps of process p
abbrev pub IsBatchOf : Units → ℕ → BatchValue → Type 0
IsBatchOf program p v = IsBatch program v × (v.id.process ≡ p)

-- private steps by a program: a segment where the number is 0, and else the first so many batches, which are of one process
pub record HasMade (program : Units) (made : ℕ) (batches : List BatchValue) (segment : SegmentValue) : Type 0 where
  pub room : made ≤ length batches
  pub recorded : made ≡ 0 → IsMadeBy program segment
  pub process : ℕ
  pub of_process : AllWithin (IsBatchOf program process) batches 0 made
