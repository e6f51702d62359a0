-- The results of the definitions of names and units in cases that no accepted program has: docs/MACHINE.md, "What is never reached".
use Rattle.std.specs.Prelude.{ℕ, [], None}
use Rattle.hep_source.specs.declared.statement.Form.TheVariants.{End}
use Rattle.hep_source.specs.declared.statement.Statement.{Statement}

-- the index of a subroutine that doesn't exist, and of the main program where there is none
abbrev pub no_unit : ℕ
no_unit = 0

-- the statement past the last one of a unit: END
abbrev pub no_statement : Statement
no_statement = record { line = 0; label = None; conditions = []; form = End }
