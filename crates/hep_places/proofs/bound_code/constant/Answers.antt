use Rattle.std.proofs.Common.{◌∙◌, ap}
use Rattle.hep_machine.specs.Words.{Values}
use Rattle.hep_places.proofs.bound_code.constant.Goals as goal

pub returns : goal.returns
returns c = c.get.ensures ∙ ap (λ (values : Values). values c.args.name.now) c.constants.ensures
