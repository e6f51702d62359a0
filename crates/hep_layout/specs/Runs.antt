-- Sequences of storage units in the arena: X3.9-1978, 2.13, 5.2.5 and 8.3.2.
use Rattle.std.specs.Prelude.{◌≡◌, ℕ, ◌+◌, ◌<◌, Some}
use Rattle.hep_machine.specs.Words.{Units, Layout, Location, State, further}
use Rattle.hep_layout.specs.Addresses.{address}

-- `count` storage units from a location on are in consecutive cells, and the first one is in this cell.
abbrev pub RunsFrom : Units → State → Layout → Location → ℕ → ℕ → Type 0
RunsFrom program s layout start count first = (k : ℕ) → k < count → address program s layout (further start k) ≡ Some (first + k)
