use Rattle.std.proofs.Common.{subst}
use Rattle.hep_conditions.specs.Words.{IsAccepted}
use Rattle.hep_conditions.proofs.checked.Checked.is_accepted.Goals as goal

pub returns : goal.returns
returns c = subst IsAccepted c.self.view_is c.self.invariant.0
