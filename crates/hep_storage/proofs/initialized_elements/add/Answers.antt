use Rattle.std.proofs.Common.{◌∙◌}
use Rattle.indexmap.specs.IndexSet.{contains}
use Rattle.hep_machine.specs.Words.{name_eq}
use Rattle.hep_names.proofs.Notes.{added}
use Rattle.hep_storage.proofs.initialized_elements.add.Goals as goal

pub returns : goal.returns
returns c = λ x. c.in_ok-insert.ensures.updates.0 x ∙ added c.args.name x (contains name_eq c.args.set.now x)
