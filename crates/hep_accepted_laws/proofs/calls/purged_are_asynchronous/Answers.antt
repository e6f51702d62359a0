use Rattle.hep_accepted_laws.proofs.Agreed.{purged_asynchronous, purged_element, purged_no_constant}
use Rattle.hep_accepted_laws.proofs.calls.purged_are_asynchronous.Goals as goal

pub returns : goal.returns
returns c = record { asynchronous = purged_asynchronous; variable = purged_no_constant; element = purged_element }
