use Rattle.hep_accepted_laws.proofs.Actuals.{variable-placed}
use Rattle.hep_accepted_laws.proofs.runs.variables_are_placed.Goals as goal

pub returns : goal.returns
returns c = variable-placed
