use Rattle.std.proofs.Common.{◌+◌, length}
use Rattle.hep_machine.specs.Words.{opening, run_from}
use Rattle.hep_explore.proofs.Bounded.{few_steps, none_for_ever}
use Rattle.hep_explore.proofs.laws.ranks_up_to_independent_steps_bound_runs.Goals as goal

pub returns-clause-bound : goal.returns-clause-bound
returns-clause-bound c program independent states rank are ranked = few_steps program independent states rank are ranked

pub returns-clause-ends : goal.returns-clause-ends
returns-clause-ends c program independent states rank are ranked =
    none_for_ever program (rank (run_from program (opening program) ranked.begins.steps) + length ranked.begins.steps) (
    few_steps program independent states rank are ranked)
