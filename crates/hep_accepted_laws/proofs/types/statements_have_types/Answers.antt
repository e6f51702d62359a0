use Rattle.hep_accepted_laws.proofs.Executed.{statements_have_types}
use Rattle.hep_accepted_laws.proofs.types.statements_have_types.Goals as goal

pub returns : goal.returns
returns c = statements_have_types
