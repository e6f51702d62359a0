use Rattle.std.proofs.Common.{◌∙◌, ap}
use Rattle.hep_machine.specs.Words.{Values}
use Rattle.hep_lower.specs.Names.{names_in}
use Rattle.hep_lower.proofs.name_lookup.NameLookup.constant.Goals as goal

pub returns : goal.returns
unfolding names_in
returns c = c.get.ensures ∙ ap (λ (values : Values). values c.args.name.now) c.constants.ensures
