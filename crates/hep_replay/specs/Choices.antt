-- The lines of choices: docs/MACHINE.md, "Histories and choices as texts".
use Rattle.std.specs.Prelude.{ℕ, ◌^◌, ◌<◌, ◌≤◌, List, ◌++◌, codes}
use Rattle.std.specs.Fmt.{decimal}
use Rattle.std.specs.List.{flat_map}

-- a number that a process may have
abbrev pub IsProcess : ℕ → Type 0
IsProcess p = (1 ≤ p) × (p < 2 ^ 63)

abbrev pub choice_text : ℕ → List ℕ
choice_text p = decimal p ++ codes "\n"

abbrev pub choices_text : List ℕ → List ℕ
choices_text ps = flat_map choice_text ps
