use Rattle.std.proofs.Common.{◌∙◌, ap}
use Rattle.hep_machine.specs.Words.{is_among}
use Rattle.hep_names.proofs.Tables.{among-found}
use Rattle.hep_names.proofs.constants.NameSet.contains.Goals as goal

pub returns : goal.returns
returns c = c.contains.ensures ∙ (among-found c.args.name.now c.self.inside.names.keys ∙ ap (is_among c.args.name.now) c.self.view_is)
