use Rattle.hep_layout.proofs.Descriptors.{described-entered, described-left}
use Rattle.hep_layout.proofs.laws.descriptors_stay.Goals as goal

pub returns : goal.returns
returns c = record { enters = described-entered; leaves = described-left }
