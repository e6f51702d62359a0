use Rattle.hep_accepted_laws.proofs.Agreed.{calls_agree}
use Rattle.hep_accepted_laws.proofs.calls.calls_agree.Goals as goal

pub returns : goal.returns
returns c = calls_agree
