use Rattle.hep_accepted_laws.proofs.RunCalls.{referred-agrees, referred-function, referred-there}
use Rattle.hep_accepted_laws.proofs.runs.functions_are_referred_to.Goals as goal

pub returns : goal.returns
returns c = record { there = referred-there; result = referred-function; arguments = referred-agrees }
