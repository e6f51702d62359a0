use Rattle.hep_accepted_laws.proofs.StatementForms.{conditions_are_logical}
use Rattle.hep_accepted_laws.proofs.types.conditions_are_logical.Goals as goal

pub returns : goal.returns
returns c = conditions_are_logical
