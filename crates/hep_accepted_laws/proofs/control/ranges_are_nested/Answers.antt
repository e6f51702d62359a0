use Rattle.hep_accepted_laws.proofs.Nested.{ranges_are_nested}
use Rattle.hep_accepted_laws.proofs.control.ranges_are_nested.Goals as goal

pub returns : goal.returns
returns c = ranges_are_nested
