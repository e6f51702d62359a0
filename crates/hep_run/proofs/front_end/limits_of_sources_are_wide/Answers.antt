use Rattle.std.proofs.Common.{◌≢◌, zero, suc, List, [], ◌∷◌, arith, inl, inr}
use Rattle.hep_machine.specs.Words.{Statement, Units}
use Rattle.hep_parse.specs.Program.{AreSubroutines, AreUnits, IsUnit}
use Rattle.hep_lower.specs.PartCounts.{HaveStatements}
use Rattle.hep_run.proofs.front_end.limits_of_sources_are_wide.Goals as goal

first-there : (unit : List Statement) → IsUnit unit → unit ≢ []
first-there [] ordered none = ordered
first-there (s ∷ more) ordered none = absurd cc

among-subroutines : (units : Units) → AreSubroutines units → HaveStatements units
among-subroutines [] are u within = absurd (omega (arith, within))
among-subroutines (unit ∷ units) (ordered, other, more) zero within = first-there unit ordered
among-subroutines (unit ∷ units) (ordered, other, more) (suc u) within = among-subroutines units more u (omega (arith, within))

-- each unit of a program has a statement
among-units : (units : Units) → AreUnits units → HaveStatements units
among-units [] are u within = absurd are
among-units (unit ∷ units) (ordered, rest) zero within = first-there unit ordered
among-units (unit ∷ units) (ordered, inl (main, more)) (suc u) within = among-subroutines units more u (omega (arith, within))
among-units (unit ∷ units) (ordered, inr (other, more)) (suc u) within = among-units units more u (omega (arith, within))

pub returns-clause-statements : goal.returns-clause-statements
returns-clause-statements c = λ source program (statements, read, reading, accepted). among-units program reading.1

pub returns-clause-code : goal.returns-clause-code
returns-clause-code c = λ source program accepted beyond. c.limits_are_wide.ensures.code program beyond
