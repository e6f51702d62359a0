use Rattle.std.proofs.Common.{◌≡◌, drop}
use Rattle.hep_conditions.specs.Words.{first_of_two}
use Rattle.hep_check.specs.FirstFound.{first_found}
use Rattle.hep_check.proofs.unit_violations.first_found.Given as goal

abbrev pub invariant-loop-violation : goal.invariant-loop-violation
invariant-loop-violation l = first_of_two l.first (first_found (drop l.violation-index l.found)) ≡ first_found l.found
