-- A reader whose input couldn't be read: docs/MACHINE.md, "The program".
use Rattle.std.specs.Prelude.{ℕ, ◌+◌, ◌≤◌, List, length, Option}
use Rattle.std.specs.Io.KnownBytes.{Consumes}

-- the reader has given its first bytes, 4,096 more than `most` at most
abbrev pub HasLost : ℕ → Option (List ℕ) → Option (List ℕ) → Type 0
HasLost most source source' = (bytes : List ℕ) × Consumes source source' bytes × (length bytes ≤ most + 4096)
