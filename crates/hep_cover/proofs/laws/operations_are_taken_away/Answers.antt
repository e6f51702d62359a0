use Rattle.std.proofs.Common.{arith}
use Rattle.hep_cover.proofs.TakenOperations.{taken}
use Rattle.hep_cover.proofs.laws.operations_are_taken_away.Goals as goal

pub returns-clause-filled : goal.returns-clause-filled
returns-clause-filled c unit work r v e = taken unit work r v e

pub returns-clause-tested : goal.returns-clause-tested
returns-clause-tested c unit t ts f = omega arith
