use Rattle.hep_state.proofs.BegunActivations.{called-gap, called-no-gap, fault-gap}
use Rattle.hep_state.proofs.laws.gaps_are_told.Goals as goal

pub returns-clause-none : goal.returns-clause-none
returns-clause-none c way t u n entry kept index given shapes making unit = called-no-gap making unit

pub returns-clause-some : goal.returns-clause-some
returns-clause-some c way t u n entry kept index given shapes making unit = called-gap making unit

pub returns-clause-fault : goal.returns-clause-fault
returns-clause-fault c t line kind ending = fault-gap line kind ending
