use Rattle.hep_accepted_laws.proofs.Agreed.{references_agree}
use Rattle.hep_accepted_laws.proofs.calls.references_agree.Goals as goal

pub returns : goal.returns
returns c = references_agree
