use Rattle.std.proofs.Common.{◌∙◌}
use Rattle.indexmap.specs.IndexSet.{contains}
use Rattle.hep_machine.specs.Words.{name_eq}
use Rattle.hep_types.proofs.Ways.{with-added}
use Rattle.hep_types.proofs.repeated_names.add.Goals as goal

pub returns-clause-added : goal.returns-clause-added
returns-clause-added c = λ x. c.in_ok-insert.ensures.updates.0 x ∙ with-added x c.args.name (contains name_eq c.args.seen.now x)
