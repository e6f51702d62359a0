use Rattle.hep_layout.proofs.CommonRows.{name-first, name-size}
use Rattle.hep_layout.proofs.laws.names_follow_in_common.Goals as goal

pub returns : goal.returns
returns c = record { first = name-first; size = name-size }
