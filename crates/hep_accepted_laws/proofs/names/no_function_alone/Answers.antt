use Rattle.hep_accepted_laws.proofs.NameMeanings.{no_function_alone}
use Rattle.hep_accepted_laws.proofs.names.no_function_alone.Goals as goal

pub returns : goal.returns
returns c = no_function_alone
