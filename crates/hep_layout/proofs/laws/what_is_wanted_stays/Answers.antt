use Rattle.hep_layout.proofs.Wants.{wanted-entered, wanted-left}
use Rattle.hep_layout.proofs.laws.what_is_wanted_stays.Goals as goal

pub returns : goal.returns
returns c = record { enters = wanted-entered; leaves = wanted-left }
