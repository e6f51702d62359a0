use Rattle.hep_accepted_laws.proofs.Nested.{labels_are_unique}
use Rattle.hep_accepted_laws.proofs.control.labels_are_unique.Goals as goal

pub returns : goal.returns
returns c = labels_are_unique
