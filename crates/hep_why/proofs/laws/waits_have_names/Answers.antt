use Rattle.hep_why.proofs.WaitNames.{named}
use Rattle.hep_why.proofs.laws.waits_have_names.Goals as goal

pub returns : goal.returns
returns c = named
