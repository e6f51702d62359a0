use Rattle.hep_layout.proofs.References.{unset-ahead}
use Rattle.hep_layout.proofs.laws.nothing_is_stored_ahead.Goals as goal

pub returns : goal.returns
returns c = unset-ahead
