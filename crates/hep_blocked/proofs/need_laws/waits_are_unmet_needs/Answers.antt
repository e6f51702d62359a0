use Rattle.hep_blocked.proofs.Waiting.{waits-unmet}
use Rattle.hep_blocked.proofs.need_laws.waits_are_unmet_needs.Goals as goal

pub returns : goal.returns
returns c = waits-unmet
