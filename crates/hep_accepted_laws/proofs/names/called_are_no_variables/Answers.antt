use Rattle.hep_accepted_laws.proofs.NameMeanings.{called_are_no_variables}
use Rattle.hep_accepted_laws.proofs.names.called_are_no_variables.Goals as goal

pub returns : goal.returns
returns c = called_are_no_variables
