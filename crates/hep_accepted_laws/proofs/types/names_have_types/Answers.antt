use Rattle.hep_accepted_laws.proofs.StatementForms.{names_have_types}
use Rattle.hep_accepted_laws.proofs.types.names_have_types.Goals as goal

pub returns : goal.returns
returns c = names_have_types
