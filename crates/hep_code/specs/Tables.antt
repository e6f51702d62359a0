-- The tables that a unit's code is made from, besides the unit's statements.
use Rattle.std.specs.Prelude.{ℕ, Option}
use Rattle.hep_machine.specs.Words.{Name, Value, Meaning}
use Rattle.hep_code.specs.declared.variable.Variable.{Variable}

-- the flow of a statement: the indexes of the code after it, in its range or block, after its DO, and where its
-- condition is false; for a DO, also the first of its two cells, and the line of its terminal statement
pub record Flow : Type 0 where
  pub next : ℕ
  pub inside : ℕ
  pub behind : ℕ
  pub otherwise : ℕ
  pub cells : ℕ
  pub end_line : ℕ

-- for the names of a unit: the values of constants, the meaning of a name with a list, and the places of variables
pub record NameTable : Type 0 where
  pub constants : Name → Option Value
  pub meanings : Name → Meaning
  pub variables : Name → Variable
  -- the numbers of the functions that are referred to
  pub functions : Name → ℕ

-- for a unit: its names, the numbers of the subroutines that it calls, the variable of a function's value, the
-- indexes of labels in the code, and the flow of each statement, by its index
pub record Table : Type 0 where
  pub names : NameTable
  pub subroutines : Name → ℕ
  pub result : Option Variable
  pub labels : ℕ → ℕ
  pub flows : ℕ → Flow
