use Rattle.hep_machine.specs.Words.{opening}
use Rattle.hep_explore.proofs.Bounded.{few_of_closed, none_for_ever}
use Rattle.hep_explore.proofs.laws.ranks_bound_runs.Goals as goal

pub returns-clause-bound : goal.returns-clause-bound
returns-clause-bound c = few_of_closed

pub returns-clause-ends : goal.returns-clause-ends
returns-clause-ends c program states rank closed ranking =
    none_for_ever program (rank (opening program)) (few_of_closed program states rank closed ranking)
