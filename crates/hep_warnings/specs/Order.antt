-- Lists of lines in rising order.
use Rattle.std.specs.Prelude.{ℕ, ◌≤◌, List, [], ◌∷◌, map}
use Rattle.std.specs.List.{flat_map}
use Rattle.hep_machine.specs.Words.{Statement, Units}
use Rattle.hep_warnings.specs.declared.warning.Warning.{Warning}
use Rattle.hep_warnings.specs.Lines.{Warnings}

-- The numbers don't decrease, and none is below m.
abbrev pub Rise : ℕ → List ℕ → Type 0
Rise m [] = Unit {0}
Rise m (n ∷ ns) = (m ≤ n) × Rise n ns

abbrev pub lines_in : List Statement → List ℕ
lines_in unit = map (λ (s : Statement). s.line) unit

-- the lines of the statements of a program, unit by unit
abbrev pub lines_of_program : Units → List ℕ
lines_of_program program = flat_map lines_in program

abbrev pub lines_of_warnings : Warnings → List ℕ
lines_of_warnings ws = map (λ (w : Warning). w.line) ws
