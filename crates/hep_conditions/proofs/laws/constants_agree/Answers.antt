use Rattle.hep_conditions.proofs.Agreeing.{constants_agree}
use Rattle.hep_conditions.proofs.laws.constants_agree.Goals as goal

pub returns : goal.returns
returns c = constants_agree
