use Rattle.hep_accepted_laws.proofs.Shaped.{constants_have_values}
use Rattle.hep_accepted_laws.proofs.values.constants_have_values.Goals as goal

pub returns : goal.returns
returns c = constants_have_values c.constants_agree.ensures
