use Rattle.hep_layout.proofs.References.{references, references-held, references-made}
use Rattle.hep_layout.proofs.laws.references_lead_upwards.Goals as goal

pub returns : goal.returns
returns c = record { above = references; made = references-made; held = references-held }
