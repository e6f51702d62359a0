-- The statement that a step from each index of the code begins.
use Rattle.std.specs.Prelude.{◌≡◌, ℕ, nat_eq, if◌then◌else◌, List, [], ◌∷◌, length, Option, Some, None, slice_get}
use Rattle.std.specs.Option.{option_flatten}
use Rattle.hep_cover.specs.RemainingOperations.{operations_ahead}
use Rattle.hep_cover.specs.StatementStarts.{at_line}
use Rattle.hep_code.specs.declared.instruction.Instruction.{Instruction}
use Rattle.hep_code.specs.Words.{line_ahead}
use Rattle.hep_machine.specs.Words.{Units}
use Rattle.hep_step.specs.Simulation.{unit_code}
use Rattle.hep_cover.specs.declared.statement_starts.StatementStarts.{StatementStarts}

-- a step begins a line's statement if all its operations are left; the end of a DO has none
abbrev pub begun_ahead : List ℕ → ℕ → ℕ → Option ℕ
begun_ahead operations line ahead = if nat_eq ahead 0 then None else (if nat_eq (at_line operations line) ahead then Some line else None)

-- the line of the statement that a step at these instructions begins, if it begins one
abbrev pub mark : List ℕ → List Instruction → Option ℕ
mark operations ahead = begun_ahead operations (line_ahead ahead) (operations_ahead ahead)

-- from each index of the code
abbrev pub marks : List ℕ → List Instruction → List (Option ℕ)
marks operations [] = []
marks operations (i ∷ is) = mark operations (i ∷ is) ∷ marks operations is

-- the mark at an index
abbrev pub mark_at : List (Option ℕ) → ℕ → Option ℕ
mark_at lines index = option_flatten (slice_get lines index)

-- there are marks of each unit of a program
pub record AreMarks (program : Units) (operations : List ℕ) (all : List StatementStarts) : Type 0 where
  pub count : length all ≡ length program
  pub each : (u : ℕ) (m : StatementStarts) → slice_get all u ≡ Some m → m.lines.items ≡ marks operations (unit_code program u)
