-- The statement that a step begins: docs/RUNS.md, "How often lines began".
use Rattle.std.specs.Prelude.{ℕ, zero, suc, nat_eq, if◌then◌else◌, List, [], ◌∷◌, replicate, Option, Some, None, slice_get, slice_set}
use Rattle.std.specs.Option.{unwrap_or}
use Rattle.hep_machine.specs.Words.{Statement, Units, Level, Process, State, Work, doing, ending, line_at, living, unit_at, unit_of}
use Rattle.hep_cover.specs.OperationCounts.{in_statement, left_of}

-- ---- lists by the numbers of lines, counted from 1

abbrev pub with_line : {A : Type 0} → List A → ℕ → A → List A
with_line xs zero x = xs
with_line xs (suc i) x = slice_set xs i x

abbrev pub at_line : List ℕ → ℕ → ℕ
at_line xs zero = 0
at_line xs (suc i) = unwrap_or (slice_get xs i) 0

-- ---- the operations of each line's statement

abbrev pub operations_in_unit : List Statement → List Statement → List ℕ → List ℕ
operations_in_unit unit [] found = found
operations_in_unit unit (s ∷ ss) found = with_line (operations_in_unit unit ss found) s.line (in_statement unit s.conditions s.form)

abbrev pub operations_in : Units → List ℕ → List ℕ
operations_in [] found = found
operations_in (unit ∷ units) found = operations_in units (operations_in_unit unit unit found)

-- of `count` lines
abbrev pub operations_by_line : Units → ℕ → List ℕ
operations_by_line program count = operations_in program (replicate count 0)

-- ---- the statement that a step begins

-- a step begins the statement of a line if all its operations are left
abbrev pub begun_by : List ℕ → ℕ → List Statement → Work → Option ℕ
begun_by operations line unit (doing ts f) = if nat_eq (at_line operations line) (left_of unit (doing ts f)) then Some line else None
begun_by operations line unit (ending d) = None

abbrev pub begun_at : Units → List ℕ → State → Level → Option ℕ
begun_at program operations s level =
    begun_by operations (line_at (unit_at program (unit_of s level.activation)) level.statement)
    (unit_at program (unit_of s level.activation)) level.work

abbrev pub begun_with : Units → List ℕ → State → Option (Level × Process) → Option ℕ
begun_with program operations s None = None
begun_with program operations s (Some top) = begun_at program operations s top.0

-- the line of the statement that a step of process p begins from a state, if it begins one
abbrev pub begun : Units → List ℕ → ℕ → State → Option ℕ
begun program operations p s = begun_with program operations s (living s p)
