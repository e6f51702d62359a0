use Rattle.hep_accepted_laws.proofs.Assigned.{main_program_has_data}
use Rattle.hep_accepted_laws.proofs.initial.main_program_has_data.Goals as goal

pub returns : goal.returns
returns c = main_program_has_data
