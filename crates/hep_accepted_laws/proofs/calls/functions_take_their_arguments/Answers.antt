use Rattle.hep_accepted_laws.proofs.Agreed.{functions_take_their_arguments}
use Rattle.hep_accepted_laws.proofs.calls.functions_take_their_arguments.Goals as goal

pub returns : goal.returns
returns c = functions_take_their_arguments
