use Rattle.hep_accepted_laws.proofs.Agreed.{tested_are_asynchronous}
use Rattle.hep_accepted_laws.proofs.calls.tested_are_asynchronous.Goals as goal

pub returns : goal.returns
returns c = tested_are_asynchronous
