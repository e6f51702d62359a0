use Rattle.hep_layout.proofs.Resting.{rest-begun, rest-ended, rest-same}
use Rattle.hep_layout.proofs.laws.steps_lead_to_rest.Goals as goal

pub returns : goal.returns
returns c = record { same = rest-same; begun = rest-begun; ended = rest-ended }
