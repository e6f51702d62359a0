-- Where rows of DATA can give values before the first step: docs/MACHINE.md, "The opening and runs".
use Rattle.std.specs.Prelude.{◌≡◌, ℕ, ◌<◌, List, length, Some}
use Rattle.hep_machine.specs.Words.{Value}
use Rattle.hep_arena.specs.Holes.{IsOut}
use Rattle.hep_arena.specs.Space.{Space}
use Rattle.hep_image.specs.declared.data.DataRow.{DataRow}
use Rattle.hep_image.specs.Data.{value_in_rows}

-- each cell that the rows give a value lies in the arena and is taken
abbrev pub AreOut : List DataRow → Space → Type 0
AreOut rows arena = (p : ℕ) (v : Value) → value_in_rows rows p ≡ Some v → (p < length arena.contents) × IsOut p arena.holes
