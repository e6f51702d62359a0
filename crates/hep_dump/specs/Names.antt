-- The names of units, variables and blocks in lines: docs/MACHINE.md, "Names and units".
use Rattle.std.specs.Prelude.{ℕ, List, Option, Some, None}
use Rattle.hep_machine.specs.Words.{main_name}

-- the name that was found, and that of a main program without one
abbrev pub name_found : Option (List ℕ) → List ℕ
name_found None = main_name
name_found (Some name) = name
