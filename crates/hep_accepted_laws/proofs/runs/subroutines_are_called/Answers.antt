use Rattle.hep_accepted_laws.proofs.RunCalls.{called-agrees, called-result, called-subroutine, called-there}
use Rattle.hep_accepted_laws.proofs.runs.subroutines_are_called.Goals as goal

pub returns : goal.returns
returns c = record { there = called-there; subroutine = called-subroutine; result = called-result; arguments = called-agrees }
