use Rattle.std.proofs.Common.{◌∙◌, ap}
use Rattle.hep_machine.specs.Words.{value_among}
use Rattle.hep_names.proofs.Tables.{value-found}
use Rattle.hep_names.proofs.constants.Constants.get.Goals as goal

pub returns : goal.returns
returns c =
    c.copied.ensures
    ∙ (c.get.ensures.value ∙ (value-found c.args.name.now c.self.inside.values.entries ∙ ap (λ es. value_among es c.args.name.now) c.self.view_is))
