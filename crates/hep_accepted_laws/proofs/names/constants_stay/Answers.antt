use Rattle.hep_accepted_laws.proofs.NameMeanings.{constant_not_assigned, constant_not_in_data, constant_not_called, result_no_constant}
use Rattle.hep_accepted_laws.proofs.names.constants_stay.Goals as goal

pub returns : goal.returns
returns c = record { assigned = constant_not_assigned; «data» = constant_not_in_data; called = constant_not_called; result = result_no_constant }
