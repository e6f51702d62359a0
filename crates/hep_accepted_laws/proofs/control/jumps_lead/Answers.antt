use Rattle.hep_accepted_laws.proofs.Nested.{jumps_lead}
use Rattle.hep_accepted_laws.proofs.control.jumps_lead.Goals as goal

pub returns : goal.returns
returns c = jumps_lead
